-- `Pairs::odd_upto` meets its contract: the parity so far.
use mathlib.Core.Path.{ap}
use native.Mathlib.Omega.{arith}
use lib.Dec.{leb}
use Rattle.cells.specs.Line.{numbers_of}
use Rattle.cells.proofs.Line.{numbers_long, number_at, odd_next}
use Rattle.cells.proofs.Pairs.odd_upto.Goals as goal

pub loop-pair-preserved : goal.loop-pair-preserved
loop-pair-preserved c =
    odd_next (λ k. leb k c.args.code) (numbers_of c.args.self.base c.args.self.list.now) c.loop-pair.pair-index _ _
    (omega (arith, numbers_long c.args.self.base c.args.self.list.now, c.loop-pair-test.true)) c.loop-pair.invariant
    (ap (λ n. leb n c.args.code) (number_at c.args.self.base c.args.self.list.now c.loop-pair.pair-index _ c.loop-pair-test.true c.number_of.ensures))
