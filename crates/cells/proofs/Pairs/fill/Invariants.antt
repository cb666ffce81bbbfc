-- `Pairs::fill` meets its contract: each number turns its bit.
use lib.ListN.{take}
use Rattle.cells.specs.Line.{numbers_of, Tells}
use Rattle.cells.proofs.Pairs.fill.Given as goal

abbrev pub invariant-loop-pair : goal.invariant-loop-pair
invariant-loop-pair l = Tells (take l.pair-index (numbers_of l.self.base l.self.list.now)) l.row
