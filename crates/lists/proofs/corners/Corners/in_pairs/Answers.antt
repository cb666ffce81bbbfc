-- `lists::Corners::in_pairs` meets its contract. The loop's invariant: where the flag is up, among the vertices passed every line of the second shift is even.
use Prim.Native.Nat.{◌*◌, ◌/◌, ◌%◌}
use borrow.Author.Tests.{eqb-true}
use native.Mathlib.Omega.{arith}
use lib.Dec.{eqb}
use lib.ListN.{length}
use Rattle.meaning.proofs.Integers.{and_left, and_right}
use Rattle.lists.proofs.Lines.{evenly_more, evenly_all}
use Rattle.lists.proofs.Vertices.{length_vertices}
use Rattle.lists.proofs.corners.Corners.in_pairs.Goals as goal

pub loop-i-preserved : goal.loop-i-preserved
loop-i-preserved c =
    let l = c.args.self.list.now in
    evenly_more l c.loop-i.good c.loop-i.i c.pair_at.result c.pair_at-in-loop-i.result (omega (arith, length_vertices l)) c.pair_at.ensures
    c.pair_at-in-loop-i.ensures c.loop-i.invariant

pub returns : goal.returns
returns c e =
    let l = c.args.self.list.now in
    let test = eqb (length l / 3 % 2) 0 in
    evenly_all l c.args.self.in_range (2 * c.loop-i.i)
    (omega (arith, eqb-true (length l / 3 % 2) 0 (and_right c.loop-i.good test e), length_vertices l))
    (c.loop-i.invariant (and_left c.loop-i.good test e))
