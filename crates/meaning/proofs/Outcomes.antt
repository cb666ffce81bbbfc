-- Outcomes: the cases of their order, and that the values tell verdicts apart.
--   verdict_back                    the number and the place give the verdict back
--   refused_once, verdict_once      the values of a refusal, and those of the check, tell verdicts apart
--   refused_numbers                 document 01's table of refusals 1 to 5
--   checked_next, checked_refused   the check's part in the order of refusals
--   checked_values                  where nothing follows the check, its values are those of the verdict
--   placed_fits, placed_short       a list that fits, and one that does not
-- Assumes nothing.
use mathlib.Core.Path.{◌≡◌, refl, sym, ◌∙◌, ap}
use mathlib.Core.Bool.{true, false, cond}
use mathlib.Core.List.{List}
use Prim.Native.Nat.{ℕ, zero, suc}
use lib.IntN.{ℤ}
use lib.ListN.{length}
use Rattle.std.specs.Prelude.{Ok, Err}
use Rattle.meaning.specs.Verdicts.{Verdict, Valid, passes, refusal_number, refusal_place}
use Rattle.meaning.specs.declared.Refusal.TheVariants.{NotTriples, TooMany, OutOfRange, NotRising, OddLine}
use Rattle.meaning.specs.Outcomes.{Values, done, refused, refusal, verdict_values, outcome, nothing, kept, checked, fits, front, placed, no_room}

-- ---- the values tell verdicts apart

-- the verdict with this number and place
abbrev pub verdict_by : ℕ → ℕ → Verdict
verdict_by zero place = Valid
verdict_by (suc zero) place = Err NotTriples
verdict_by (suc (suc zero)) place = Err TooMany
verdict_by (suc (suc (suc zero))) place = Err (OutOfRange place)
verdict_by (suc (suc (suc (suc zero)))) place = Err (NotRising place)
verdict_by (suc (suc (suc (suc (suc n))))) place = Err (OddLine place)

pub verdict_back : (v : Verdict) → verdict_by (refusal_number v) (refusal_place v) ≡ v
verdict_back (Ok tt) = refl
verdict_back (Err NotTriples) = refl
verdict_back (Err TooMany) = refl
verdict_back (Err (OutOfRange i)) = refl
verdict_back (Err (NotRising i)) = refl
verdict_back (Err (OddLine i)) = refl

abbrev verdict_in : Values → Verdict
verdict_in s = verdict_by s.number s.place

pub refused_once : (operand operand' : ℕ) (v w : Verdict) → refused operand v ≡ refused operand' w → v ≡ w
refused_once operand operand' v w e = sym (verdict_back v) ∙ ap verdict_in e ∙ verdict_back w

values_back : (v : Verdict) → verdict_in (verdict_values v) ≡ v
values_back (Ok tt) = refl
values_back (Err NotTriples) = refl
values_back (Err TooMany) = refl
values_back (Err (OutOfRange i)) = refl
values_back (Err (NotRising i)) = refl
values_back (Err (OddLine i)) = refl

pub verdict_once : (v w : Verdict) → verdict_values v ≡ verdict_values w → v ≡ w
verdict_once v w e = sym (values_back v) ∙ ap verdict_in e ∙ values_back w

-- document 01's table, of the list that is this operand: numbers 1 to 5, with a vertex as the place of 3, 4 and 5
pub refused_numbers : (operand i : ℕ) → (refused operand (Err NotTriples) ≡ refusal 1 operand 0) × (refused operand (Err TooMany) ≡ refusal 2 operand 0) ×
    (refused operand (Err (OutOfRange i)) ≡ refusal 3 operand i) × (refused operand (Err (NotRising i)) ≡ refusal 4 operand i) ×
    (refused operand (Err (OddLine i)) ≡ refusal 5 operand i)
refused_numbers operand i = (refl, refl, refl, refl, refl)

-- ---- the order of refusals

module _ {A : Type 0} (operand : ℕ) (v : Verdict) (refusing : Values → A) (next : A) where
  pub checked_next : passes v ≡ true → checked operand v refusing next ≡ next
  checked_next e = ap (λ t. cond t next (refusing (refused operand v))) e

  pub checked_refused : passes v ≡ false → checked operand v refusing next ≡ refusing (refused operand v)
  checked_refused e = ap (λ t. cond t next (refusing (refused operand v))) e

module _ {Given Left : Type 0} (given : Given) (left : Left) where
  pub checked_values : (v : Verdict) → checked 1 v (kept given left) (outcome (done 0) given left) ≡ outcome (verdict_values v) given left
  checked_values (Ok tt) = refl
  checked_values (Err NotTriples) = refl
  checked_values (Err TooMany) = refl
  checked_values (Err (OutOfRange i)) = refl
  checked_values (Err (NotRising i)) = refl
  checked_values (Err (OddLine i)) = refl

-- ---- lists in results

module _ {A : Type 0} (each : ℕ) (numbers_of : List A → List ℤ) (l : List A) (before : List ℤ) where
  pub placed_fits : fits each l (length before) ≡ true → placed each numbers_of l before ≡ outcome (done (length l)) nothing (front (numbers_of l) before)
  placed_fits e = ap (λ t. cond t (outcome (done (length l)) nothing (front (numbers_of l) before)) (kept nothing before no_room)) e

  pub placed_short : fits each l (length before) ≡ false → placed each numbers_of l before ≡ kept nothing before no_room
  placed_short e = ap (λ t. cond t (outcome (done (length l)) nothing (front (numbers_of l) before)) (kept nothing before no_room)) e
