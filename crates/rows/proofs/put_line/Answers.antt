-- `rows::put_line` meets its contract: each word of the line puts out its ends.
use borrow.Author.Rules.{rules}
use native.Mathlib.Omega.{arith}
use Rattle.rows.proofs.Ones.{line_begin, line_few, line_word, line_end_lem}
use Rattle.rows.proofs.put_line.Goals as goal

pub loop-w-init : goal.loop-w-init
loop-w-init c = line_begin

pub put_ones-put-requires : goal.put_ones-put-requires
put_ones-put-requires c = (search rules, omega (arith, line_few c.loop-w.invariant))

pub loop-w-preserved : goal.loop-w-preserved
loop-w-preserved c =
    line_word c.loop-w.invariant _ (omega arith) c.changed-now.ensures (omega arith)
    (search rules) c.put_ones-put.ensures

pub returns : goal.returns
returns c = line_end_lem c.loop-w.invariant (omega arith)
