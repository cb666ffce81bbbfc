-- `run_start` meets its contract: the run goes back while the numbers are not below its base.
use Prim.Native.Nat.{◌-◌}
use Rattle.search.proofs.Back.{Back}
use Rattle.search.proofs.run_start.Given as goal

abbrev pub invariant-loop-j : goal.invariant-loop-j
invariant-loop-j l = Back l.unit l.list l.i (l.j - 1)
