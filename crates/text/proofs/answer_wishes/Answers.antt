-- `answer_wishes` meets its contract: the refusal of the wishes' text, or the answers to them.
use Prim.Native.Nat.{◌*◌}
use native.Mathlib.Omega.{arith}
use lib.Seq.{length-take-le}
use Rattle.lists.proofs.Vertices.{length_vertices}
use Rattle.lists.proofs.Verdicts.{sound_of}
use Rattle.reading.proofs.Order.{most_vertices_lem}
use Rattle.text.proofs.Outcomes.{wishes_answered}
use Rattle.text.proofs.answer_wishes.Goals as goal

-- a travel map has at most 1,024 vertices
pub read_wishes-requires-clause-n_bound : goal.read_wishes-requires-clause-n_bound
read_wishes-requires-clause-n_bound c =
    omega (arith, (sound_of _ c.args.map.passes).few, length_vertices c.args.map.list.now, most_vertices_lem)

-- the answers have room
pub returns-in-Ok : goal.returns-in-Ok
returns-in-Ok c =
    let few = c.in-Ok.ensures.at_most in
    let long = length-take-le (3 * c.in-Ok.count) c.read_wishes.new.list (omega arith) in
    wishes_answered _ _ (omega arith) c.in-Ok.ensures.list_after c.answer_all.ensures.value (omega arith) c.answer_all.ensures.written
