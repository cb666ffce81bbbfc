-- `rows::put_ones` meets its contract.
use native.Mathlib.Omega.{arith}
use Rattle.rows.proofs.Ones.{ones_begin, ones_few, ones_less, ones_more, ones_end, put_one, put_over}
use Rattle.rows.proofs.put_ones.Goals as goal
use Rattle.rows.proofs.put_ones.Goals.{then-put-out, else-put-out}

pub loop-left-init : goal.loop-left-init
loop-left-init c = ones_begin (omega arith)

pub overflow_add-put : goal.overflow_add-put
overflow_add-put c = record { fits = omega (arith, ones_few c.loop-left.invariant) }

pub loop-left-smaller : goal.loop-left-smaller
loop-left-smaller c = ones_less c.loop-left.invariant c.loop-left-test.true

pub loop-left-preserved : goal.loop-left-preserved
loop-left-preserved c = ones_more c.loop-left.invariant c.loop-left-test.true
    (elim c.if-put-out.branch [ then-put-out w ↦ put_one _ _ _ _ (omega arith) w.out-is | else-put-out w ↦ put_over _ _ _ _ (omega arith) w.out-is ])

pub returns : goal.returns
returns c = ones_end c.loop-left.invariant (omega arith)
