-- `Pairs::fill` meets its contract: each number turns its bit.
use mathlib.Core.Path.{subst}
use Prim.Native.Nat.{ℕ}
use native.Mathlib.Omega.{arith}
use Rattle.cells.specs.Line.{numbers_of, Toggled}
use Rattle.cells.proofs.Line.{numbers_long, number_at, number_small}
use Rattle.cells.proofs.Bits.{tells_on}
use Rattle.cells.proofs.Pairs.fill.Goals as goal

pub toggle-requires : goal.toggle-requires
toggle-requires c = omega (arith, c.number_of.ensures, c.loop-pair.invariant.long)

pub loop-pair-preserved : goal.loop-pair-preserved
loop-pair-preserved c =
    let m = numbers_of c.args.self.base c.args.self.list.now in
    let h = c.loop-pair-test.true in
    tells_on m c.loop-pair.row _ c.loop-pair.pair-index (omega (arith, numbers_long c.args.self.base c.args.self.list.now))
    (number_small c.args.self.base c.args.self.list.now c.loop-pair.pair-index h) c.loop-pair.invariant
    (subst (λ (n : ℕ). Toggled n c.loop-pair.row c.toggle.new.row)
    (number_at c.args.self.base c.args.self.list.now c.loop-pair.pair-index _ h c.number_of.ensures) c.toggle.ensures)
