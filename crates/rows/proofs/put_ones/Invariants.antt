-- `rows::put_ones` meets its contract.
use Prim.Native.Nat.{◌-◌}
use Rattle.rows.proofs.Ones.{OnesTo, lowest}
use Rattle.rows.proofs.put_ones.Given as goal

abbrev pub invariant-loop-left : goal.invariant-loop-left
invariant-loop-left l = OnesTo l.ones l.at l.initial.out l.n l.out l.left l.put

abbrev pub decreases-loop-left : goal.decreases-loop-left
decreases-loop-left l = 64 - lowest l.left
