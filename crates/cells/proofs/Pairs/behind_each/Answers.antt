-- `Pairs::behind_each` meets its contract: each number gives one rank.
use mathlib.Core.Path.{subst}
use Prim.Native.Nat.{ℕ}
use native.Mathlib.Omega.{arith}
use Rattle.cells.specs.Cells.{Best}
use Rattle.cells.specs.Line.{Behind}
use Rattle.cells.proofs.Line.{numbers_long, number_at, among_on, among_all}
use Rattle.cells.proofs.Pairs.behind_each.Goals as goal

pub loop-pair-preserved : goal.loop-pair-preserved
loop-pair-preserved c =
    among_on (c.requires.once c.loop-pair.pair-index (omega (arith, numbers_long c.args.self.base c.args.self.list.now, c.loop-pair-test.true)))
    c.loop-pair.invariant
    (subst (λ (n : ℕ). Best (Behind c.args.second n c.args.rank) c.loop-pair.found c.behind_one-found.result)
    (number_at c.args.self.base c.args.self.list.now c.loop-pair.pair-index _ c.loop-pair-test.true c.number_of.ensures) c.behind_one-found.ensures)

pub returns : goal.returns
returns c = among_all (omega (arith, numbers_long c.args.self.base c.args.self.list.now, c.loop-pair-test.false)) c.loop-pair.invariant
