-- `Pairs::own_line` meets its contract: the wish's own code, or what lies just behind the numbers.
use mathlib.Core.Path.{sym}
use Rattle.cells.proofs.Line.{line_behind}
use Rattle.cells.proofs.Pairs.own_line.Goals as goal

pub returns : goal.returns
returns c = line_behind c.args.second (sym c.in_default.ensures) c.behind_each.ensures
