-- `rows::take_line` meets its contract: each key turns the bits from its place on.
use Rattle.rows.proofs.Flips.{Took}
use Rattle.rows.proofs.take_line.Given as goal

abbrev pub invariant-loop-e : goal.invariant-loop-e
invariant-loop-e l = Took l.keys l.i l.start l.limit l.initial.row l.row l.e
