-- `Pairs::at_wish` meets its contract: the wish's own code has the least rank.
use mathlib.Core.Path.{sym, ◌∙◌}
use native.Mathlib.Omega.{arith}
use Rattle.cells.proofs.Line.{line_here}
use Rattle.cells.proofs.Pairs.at_wish.Goals as goal

pub returns-then-odd_upto : goal.returns-then-odd_upto
returns-then-odd_upto c =
    line_here c.args.second (sym c.if-odd_upto.true ∙ c.odd_upto.ensures) (omega (arith, c.min.ensures, c.value_at.ensures.is))
