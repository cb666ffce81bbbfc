-- `run_start` meets its contract: the run goes back while the numbers are not below its base.
use native.Mathlib.Omega.{arith}
use Rattle.search.proofs.Back.{back_run, back_on, back_stops}
use Rattle.search.proofs.run_start.Goals as goal

pub returns-then-list-j : goal.returns-then-list-j
returns-then-list-j c =
    let b = c.loop-j.invariant in
    (back_run c.requires.unit_nonzero c.requires.from b, back_stops c.requires.unit_nonzero c.requires.from b (omega arith) c.if-list-j.true)

pub loop-j-preserved : goal.loop-j-preserved
loop-j-preserved c =
    back_on c.requires.unit_nonzero c.requires.from c.loop-j.invariant (omega arith) c.if-list-j.false
