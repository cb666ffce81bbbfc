-- `levels::join_planes` meets its contract: each call of the loop's body asks, and each turn leaves, what the laws of a plane say.
use Prim.Native.Nat.{◌+◌, ◌-◌}
use lib.ListN.{length}
use Rattle.levels.proofs.Sections.{Sweeping}
use Rattle.levels.proofs.join_planes.Given as goal

abbrev pub invariant-loop-i : goal.invariant-loop-i
invariant-loop-i l = Sweeping l.op l.a l.b l.initial.out l.initial.sa l.initial.sb l.initial.room l.span.low l.span.words l.out l.sa l.sb l.room l.i l.j l.n l.na l.nb

abbrev pub decreases-loop-i : goal.decreases-loop-i
decreases-loop-i l = (length l.a + length l.b) - (l.i + l.j)
