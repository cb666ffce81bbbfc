-- `rows::put_line` meets its contract: each word of the line puts out its ends.
use Rattle.rows.proofs.Ones.{LineTo}
use Rattle.rows.proofs.put_line.Given as goal

abbrev pub invariant-loop-w : goal.invariant-loop-w
invariant-loop-w l = LineTo l.op l.ra l.rb l.ca l.cb l.initial.last l.start l.initial.out l.n l.last l.out l.put l.carry l.w
