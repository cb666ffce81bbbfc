-- `lists::Corners::all_rise` meets its contract. The loop's invariant is the state of the pass over neighbouring keys.
use Prim.Native.Nat.{◌<◌}
use native.Mathlib.Omega.{arith}
use lib.ListN.{length}
use Rattle.meaning.specs.Lists.{vertices}
use Rattle.lists.proofs.Rising.{risen_more}
use Rattle.lists.proofs.Vertices.{length_vertices}
use Rattle.lists.proofs.corners.Corners.all_rise.Goals as goal
use Rattle.lists.proofs.corners.Corners.all_rise.Goals.{In-loop-i}

-- the place of a turn is a vertex's
place : (c : In-loop-i) → c.loop-i.i < length (vertices c.args.self.list.now)
place c = omega (arith, length_vertices c.args.self.list.now)

pub key_at-last-requires-clause-corner : goal.key_at-last-requires-clause-corner
key_at-last-requires-clause-corner c = c.args.self.in_range 0 (omega (arith, length_vertices c.args.self.list.now))

pub key_at-key-requires-clause-corner : goal.key_at-key-requires-clause-corner
key_at-key-requires-clause-corner c =
    c.args.self.in_range c.loop-i.i (place (goal.at.key_at-key-requires-clause-corner c).In-loop-i)

pub loop-i-preserved : goal.loop-i-preserved
loop-i-preserved c =
    risen_more c.args.self.list.now c.args.self.in_range c.loop-i.good c.loop-i.last c.loop-i.i c.loop-i.invariant
    c.key_at-key.result (place (goal.at.loop-i-preserved c).In-loop-i) c.key_at-key.ensures

pub returns : goal.returns
returns c e k h = c.loop-i.invariant.passed e k (omega (arith, length_vertices c.args.self.list.now, c.loop-i-test.false))
