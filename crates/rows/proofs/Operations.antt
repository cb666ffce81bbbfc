-- Operations by number, of two memberships.
--   holds_union, holds_overlap, holds_without, holds_exclusive    what holds by each number
--   holds_out                                                     nothing holds of a cell that is in neither
--   change_none, change_quiet                                     nothing changes where nothing turns
-- Assumes nothing.
use mathlib.Core.Path.{◌≡◌, refl, sym, ◌∙◌, ap, ap₂}
use mathlib.Core.Bool.{Bool, true, false, not, ◌&&◌, ◌||◌, cond}
use mathlib.Core.Option.{none, some}
use Prim.Native.Nat.{ℕ}
use lib.Dec.{eqb}
use borrow.Author.Tests.{ne_eqb}
use Rattle.meaning.specs.Operations.{Operation, union, overlap, without, exclusive, operation, holds}
use Rattle.meaning.proofs.Parity.{◌⊕◌, ⊕_false, ⊕_self}
use Rattle.rows.specs.Rows.{or_exclusive, holds_by, change}

xor_form : (s t : Bool) → (s ⊕ t) ≡ (s && not t || not s && t)
xor_form true true = refl
xor_form true false = refl
xor_form false true = refl
xor_form false false = refl

pub holds_union : (op : ℕ) (s t : Bool) → op ≡ 1 → (s || t) ≡ holds_by op s t
holds_union op s t e = ap (λ n. holds_by n s t) (sym e)

pub holds_overlap : (op : ℕ) (s t : Bool) → op ≡ 2 → (s && t) ≡ holds_by op s t
holds_overlap op s t e = ap (λ n. holds_by n s t) (sym e)

pub holds_without : (op : ℕ) (s t : Bool) → op ≡ 3 → (s && not t) ≡ holds_by op s t
holds_without op s t e = ap (λ n. holds_by n s t) (sym e)

pub holds_exclusive : (op : ℕ) (s t : Bool) → (op ≡ 1 → ⊥) → (op ≡ 2 → ⊥) → (op ≡ 3 → ⊥) → (s ⊕ t) ≡ holds_by op s t
holds_exclusive op s t h k l = xor_form s t ∙ ap (λ o. holds o s t) (sym (go (eqb op 4)) ∙ ap or_exclusive (sym numbered))
  where
    numbered : operation op ≡ cond (eqb op 4) (some exclusive) none
    numbered = rw (ne_eqb op 1 h, ne_eqb op 2 k, ne_eqb op 3 l)

    go : (b : Bool) → or_exclusive (cond b (some exclusive) none) ≡ exclusive
    go true = refl
    go false = refl

-- nothing holds of a cell that is in neither
pub holds_out : (op : ℕ) → holds_by op false false ≡ false
holds_out op = go (or_exclusive (operation op))
  where
    go : (o : Operation) → holds o false false ≡ false
    go union = refl
    go overlap = refl
    go without = refl
    go exclusive = refl

-- where nothing turns, nothing changes
pub change_none : (op : ℕ) (s t : Bool) → change op s t false false ≡ false
change_none op s t = ap (◌⊕ holds_by op s t) (ap₂ (holds_by op) (⊕_false s) (⊕_false t)) ∙ ⊕_self (holds_by op s t)

pub change_quiet : (op : ℕ) (s t : Bool) {u v : Bool} → u ≡ false → v ≡ false → change op s t u v ≡ false
change_quiet op s t c d = ap₂ (λ x y. change op s t x y) c d ∙ change_none op s t
