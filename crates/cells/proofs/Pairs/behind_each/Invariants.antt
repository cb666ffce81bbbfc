-- `Pairs::behind_each` meets its contract: each number gives one rank.
use Rattle.cells.specs.Cells.{Best}
use Rattle.cells.specs.Line.{numbers_of}
use Rattle.cells.proofs.Line.{Among}
use Rattle.cells.proofs.Pairs.behind_each.Given as goal

abbrev pub invariant-loop-pair : goal.invariant-loop-pair
invariant-loop-pair l = Best (Among l.second (numbers_of l.self.base l.self.list.now) l.pair-index l.rank) l.best l.found
