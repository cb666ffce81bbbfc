-- `Pairs::odd_upto` meets its contract: the parity so far.
use mathlib.Core.Path.{◌≡◌}
use lib.Dec.{leb}
use lib.ListN.{take}
use Rattle.meaning.proofs.Parity.{sum}
use Rattle.cells.specs.Line.{numbers_of}
use Rattle.cells.proofs.Pairs.odd_upto.Given as goal

abbrev pub invariant-loop-pair : goal.invariant-loop-pair
invariant-loop-pair l = l.odd ≡ sum (λ k. leb k l.code) (take l.pair-index (numbers_of l.self.base l.self.list.now))
