-- `Pairs::joint_line` meets its contract: the wish's own code, or what lies just behind the numbers that are there an odd number of times.
use mathlib.Core.Path.{sym}
use Rattle.cells.proofs.Bits.{tells_none}
use Rattle.cells.proofs.Line.{line_behind}
use Rattle.cells.proofs.Pairs.joint_line.Goals as goal

pub fill-requires : goal.fill-requires
fill-requires c = tells_none

pub returns : goal.returns
returns c = line_behind c.args.second (sym c.in_default.ensures) c.behind_odd.ensures
