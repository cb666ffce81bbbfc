-- `Pairs::behind_odd` meets its contract: each number whose bit is set gives one rank.
use mathlib.Core.Path.{◌≡◌, sym, ◌∙◌, ap, subst}
use mathlib.Core.Bool.{Bool}
use mathlib.Core.List.{List}
use Prim.Native.Nat.{ℕ, ◌+◌, ◌-◌, ◌<◌}
use native.Mathlib.Omega.{arith}
use lib.Dec.{eqb}
use lib.ListN.{length, get_or}
use Rattle.meaning.proofs.Parity.{sum}
use Rattle.rows.specs.Rows.{bit_at}
use Rattle.cells.specs.Cells.{Best, line_unit, rest}
use Rattle.cells.specs.Line.{numbers_of, Behind, Tells}
use Rattle.cells.proofs.Line.{Among, numbers_long, number_at, number_small, among_on, among_skip, among_all}
use Rattle.cells.proofs.Pairs.behind_odd.Goals as goal
use Rattle.cells.proofs.Pairs.behind_odd.Goals.{then-is_set, else-is_set}

-- what a row says of the number at a place
told : (base : ℕ) (l row : List ℕ) (i n : ℕ) → Tells (numbers_of base l) row → i < length l → n ≡ rest line_unit (get_or l i 0 - base)
    → {b t : Bool} → b ≡ bit_at row n → b ≡ t → sum (λ k. eqb k (get_or (numbers_of base l) i 0)) (numbers_of base l) ≡ t
told base l row i n tells h e p q =
    sym (tells.bits (get_or (numbers_of base l) i 0) (number_small base l i h)) ∙
    ap (bit_at row) (sym (number_at base l i n h e)) ∙
    sym p ∙
    q

pub is_set-requires : goal.is_set-requires
is_set-requires c = omega (arith, c.number_of-number.ensures, c.requires.tells.long)

pub loop-pair-preserved : goal.loop-pair-preserved
loop-pair-preserved c =
    elim c.if-is_set.branch [
      | then-is_set w ↦
          subst (λ (r : ℕ). Best (Among c.args.second (numbers_of c.args.self.base c.args.self.list.now) (c.loop-pair.pair-index + 1) c.args.rank) c.args.best r)
          (sym w.found-is)
          (among_on
          (told c.args.self.base c.args.self.list.now c.args.row.now c.loop-pair.pair-index _ c.requires.tells c.loop-pair-test.true c.number_of-number.ensures
          c.is_set.ensures w.if-is_set.true)
          c.loop-pair.invariant
          (subst (λ (x : ℕ). Best (Behind c.args.second x c.args.rank) c.loop-pair.found w.behind_one-found.result)
          (number_at c.args.self.base c.args.self.list.now c.loop-pair.pair-index _ c.loop-pair-test.true c.number_of-number.ensures) w.behind_one-found.ensures))
      | else-is_set w ↦
          subst (λ (r : ℕ). Best (Among c.args.second (numbers_of c.args.self.base c.args.self.list.now) (c.loop-pair.pair-index + 1) c.args.rank) c.args.best r)
          (sym w.found-is)
          (among_skip
          (told c.args.self.base c.args.self.list.now c.args.row.now c.loop-pair.pair-index _ c.requires.tells c.loop-pair-test.true c.number_of-number.ensures
          c.is_set.ensures w.if-is_set.false)
          c.loop-pair.invariant)
    ]

pub returns : goal.returns
returns c = among_all (omega (arith, numbers_long c.args.self.base c.args.self.list.now, c.loop-pair-test.false)) c.loop-pair.invariant
