-- `rows::word` meets its contract: digit by digit.
use mathlib.Core.Path.{◌≡◌, refl, ◌∙◌, ap}
use mathlib.Core.Bool.{Bool, true, false, not, ◌&&◌}
use Rattle.meaning.proofs.Parity.{◌⊕◌}
use Rattle.rows.proofs.Operations.{holds_union, holds_overlap, holds_without, holds_exclusive}
use Rattle.rows.specs.Rows.{bit}
use Rattle.rows.proofs.Bits.{bit_xor_lem, bit_and_lem, bit_or_lem}
use Rattle.rows.proofs.word.Goals as goal

without : (s t : Bool) → (s ⊕ (s && t)) ≡ (s && not t)
without true t = refl
without false t = refl

pub returns-then-op-eq-UNION : goal.returns-then-op-eq-UNION
returns-then-op-eq-UNION c k = bit_or_lem _ _ k ∙ holds_union _ _ _ c.if-op-eq-UNION.true

pub returns-then-op-eq-OVERLAP : goal.returns-then-op-eq-OVERLAP
returns-then-op-eq-OVERLAP c k = bit_and_lem _ _ k ∙ holds_overlap _ _ _ c.if-op-eq-OVERLAP.true

pub returns-then-op-eq-WITHOUT : goal.returns-then-op-eq-WITHOUT
returns-then-op-eq-WITHOUT c k = let a = c.args in
    bit_xor_lem a.x _ k ∙ ap (bit a.x k ⊕◌) (bit_and_lem a.x a.y k) ∙ without (bit a.x k) (bit a.y k) ∙ holds_without _ _ _ c.if-op-eq-WITHOUT.true

pub returns : goal.returns
returns c k = let a = c.args in
    bit_xor_lem a.x a.y k ∙
    holds_exclusive _ _ _ c.if-op-eq-UNION.false c.if-op-eq-OVERLAP.false c.if-op-eq-WITHOUT.false
