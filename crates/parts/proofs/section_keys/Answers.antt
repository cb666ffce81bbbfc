-- `parts::section_keys` meets its contract: the keys are read, cut and brought to order.
use mathlib.Core.Path.{◌≡◌}
use mathlib.Core.List.{map}
use native.Mathlib.Omega.{arith}
use lib.ListN.{take, length-take}
use Rattle.meaning.specs.Lists.{vertices}
use Rattle.lists.proofs.Verdicts.{sound_of}
use Rattle.codes.specs.Keys.{key_of}
use Rattle.keys.specs.Parts.{axis_at}
use Rattle.parts.proofs.Made.{read_front, below_few, section_made}
use Rattle.parts.proofs.section_keys.Goals as goal
use Rattle.parts.proofs.section_keys.Goals.{After-read-count}

-- what was read stands in front of work
held : (c : After-read-count) → take c.read-count.result c.read-count.new.out ≡ map key_of (vertices c.args.map.list.now)
held c =
    read_front (vertices c.args.map.list.now) c.args.work.now c.read-count.ensures.0 c.read-count.ensures.1

pub read-count-requires-clause-all : goal.read-count-requires-clause-all
read-count-requires-clause-all c = (sound_of _ c.args.map.passes).valid.corners

pub cancel-requires : goal.cancel-requires
cancel-requires c =
    let read = take c.read-count.result c.read-count.new.out in
    omega (
      arith,
      below_few (axis_at c.args.axis) c.args.cut read c.pairs_below-n.ensures,
      length-take c.read-count.result c.read-count.new.out,
    )

pub returns : goal.returns
returns c =
    section_made (axis_at c.args.axis) (vertices c.args.map.list.now) (sound_of _ c.args.map.passes).valid c.args.cut (held (goal.at.returns c).After-read-count)
    c.pairs_below-n.ensures c.cancel.ensures _
