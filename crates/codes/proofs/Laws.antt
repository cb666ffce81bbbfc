-- Laws of the crossing, `lifted` and `lowered`, and its ties with meaning's `steps` and `number`.
--   lifted_le, lifted_lt, lifted_same     the crossing keeps the order, of numbers of 16 bits
--   lowered_lifted, lifted_lowered        there and back
--   lifted_once                           two numbers with one crossing are equal
--   lowered_fits                          what comes back has 16 bits
--   read_back                             a number that was read comes back from its bits
--   is_number_lifted, is_code_lifted        the ranges, after the crossing
--   lifted_steps, lifted_number           the crossing of a number from the lowest up, or of a corner number, is its steps and 32256
--   number_from, number_to                a corner number is from the lowest up, and at most the last
--   code_fits, number_fits_lem                a code and a corner number have 16 bits
--   number_steps_le                       the steps of a corner number are at most 1024
--   steps_le, steps_lt, steps_same        steps keep the order, of corner numbers
--   number_steps, steps_number            there and back
--   number_le, number_lt, number_same, is_number_number     of numbers given by their steps
use mathlib.Core.Path.{◌≡◌, refl, sym, ◌∙◌, ap, ap₂}
use mathlib.Core.Bool.{true, ◌&&◌}
use Prim.Native.Nat.{ℕ, ◌+◌, ◌-◌, ◌≤◌, ◌<◌, ◌^◌}
use native.Mathlib.Omega.{arith}
use borrow.Author.Tests.{leb-true, le-leb}
use lib.Dec.{leb, ltb, eqb}
use lib.IntN.{ℤ, pos, negsuc}
use lib.Signed.{le_z, lt_z, mag}
use mir.Syntax.{w16}
use mir.Val.{SFits, hbits, to_z, of_z}
use mir.ValLaws.{to_z-of_z}
use Rattle.meaning.specs.Numbers.{lowest, last_code, last_number, is_code, is_number, number, steps}
use Rattle.meaning.specs.Lists.{same}
use Rattle.meaning.proofs.Integers as I
pub use Rattle.meaning.proofs.Integers.{number_le, number_lt, steps_number, number_is_number as is_number_number}
use Rattle.codes.specs.Lift.{lifted, lowered}
use Rattle.codes.proofs.Tests.{and_both, leb_same, leb_both}
use Rattle.codes.proofs.Shift.{up, Above, up_le, up_lt, up_same, down_up, up_down, down_above}

-- ---- the crossing is the shift by 32768

lifted_up : (z : ℤ) → lifted z ≡ up 32768 z
lifted_up (pos n) = refl
lifted_up (negsuc n) = refl

pub above : (z : ℤ) → SFits w16 z → Above 32768 z
above (pos n) f = tt
above (negsuc n) f = f.sfits

module _ (y z : ℤ) (fy : SFits w16 y) (fz : SFits w16 z) where
  pub lifted_le : le_z y z ≡ leb (lifted y) (lifted z)
  lifted_le = up_le 32768 y z (above y fy) (above z fz) ∙ sym (ap₂ leb (lifted_up y) (lifted_up z))

  pub lifted_lt : lt_z y z ≡ ltb (lifted y) (lifted z)
  lifted_lt = up_lt 32768 y z (above y fy) (above z fz) ∙ sym (ap₂ ltb (lifted_up y) (lifted_up z))

  pub lifted_same : same y z ≡ eqb (lifted y) (lifted z)
  lifted_same = up_same 32768 y z (above y fy) (above z fz) ∙ sym (ap₂ eqb (lifted_up y) (lifted_up z))

pub lowered_lifted : (z : ℤ) → SFits w16 z → lowered (lifted z) ≡ z
lowered_lifted z f = ap lowered (lifted_up z) ∙ down_up 32768 z (above z f)

pub lifted_lowered : (n : ℕ) → lifted (lowered n) ≡ n
lifted_lowered n = lifted_up (lowered n) ∙ up_down 32768 n

pub lifted_once : (y z : ℤ) → SFits w16 y → SFits w16 z → lifted y ≡ lifted z → y ≡ z
lifted_once y z fy fz e = sym (lowered_lifted y fy) ∙ ap lowered e ∙ lowered_lifted z fz

pub lifted_fits : (z : ℤ) → SFits w16 z → lifted z < 65536
lifted_fits (pos n) f = omega (arith, f.sfits)
lifted_fits (negsuc n) f = omega arith

-- of a number below 65536 the shift back has 16 bits
pub lowered_fits : (n : ℕ) → n < 65536 → SFits w16 (lowered n)
lowered_fits n h = record { sfits = by (lowered n) (down_above 32768 n) (lifted_lowered n) }
  where
    by : (z : ℤ) → Above 32768 z → lifted z ≡ n → mag z < 2 ^ 15
    by (pos m) a e = omega arith
    by (negsuc m) a e = a

-- ---- ranges

from_lowest : (z : ℤ) → le_z lowest z ≡ leb 32256 (lifted z)
from_lowest (pos n) = sym (le-leb 32256 (n + 32768) (omega arith))
from_lowest (negsuc n) = leb_same n 511 32256 (32767 - n) (omega arith) (omega arith)

to_last : (k : ℕ) (z : ℤ) → le_z z (pos k) ≡ leb (lifted z) (k + 32768)
to_last k (pos n) = leb_same n k (n + 32768) (k + 32768) (omega arith) (omega arith)
to_last k (negsuc n) = sym (le-leb (32767 - n) (k + 32768) (omega arith))

pub is_number_lifted : (z : ℤ) → is_number z ≡ (leb 32256 (lifted z) && leb (lifted z) 33280)
is_number_lifted z = ap₂ ◌&&◌ (from_lowest z) (to_last 512 z)

pub is_code_lifted : (z : ℤ) → is_code z ≡ (leb 32256 (lifted z) && leb (lifted z) 33279)
is_code_lifted z = ap₂ ◌&&◌ (from_lowest z) (to_last 511 z)

pub lifted_steps : (z : ℤ) → le_z lowest z ≡ true → lifted z ≡ steps z + 32256
lifted_steps (pos n) e = omega arith
lifted_steps (negsuc n) e = omega (arith, leb-true n 511 e)

-- ---- steps are the shift by 512

steps_up : (z : ℤ) → steps z ≡ up 512 z
steps_up (pos n) = refl
steps_up (negsuc n) = refl

module _ (z : ℤ) (e : is_number z ≡ true) where
  pub number_from : le_z lowest z ≡ true
  number_from = (and_both (le_z lowest z) (le_z z last_number) e).0

  pub number_to : le_z z last_number ≡ true
  number_to = (and_both (le_z lowest z) (le_z z last_number) e).1

pub lifted_number : (z : ℤ) → is_number z ≡ true → lifted z ≡ steps z + 32256
lifted_number z e = lifted_steps z (number_from z e)

above_number : (z : ℤ) → is_number z ≡ true → Above 512 z
above_number (pos n) e = tt
above_number (negsuc n) e = omega (arith, leb-true n 511 (number_from (negsuc n) e))

pub number_steps_le : (z : ℤ) → is_number z ≡ true → steps z ≤ 1024
number_steps_le (pos n) e = omega (arith, leb-true n 512 (number_to (pos n) e))
number_steps_le (negsuc n) e = omega arith

pub code_fits : (z : ℤ) → is_code z ≡ true → SFits w16 z
code_fits (pos n) e = record { sfits = omega (arith, leb-true n 511 (and_both (le_z lowest (pos n)) (le_z (pos n) last_code) e).1) }
code_fits (negsuc n) e = record { sfits = omega (arith, leb-true n 511 (and_both (le_z lowest (negsuc n)) (le_z (negsuc n) last_code) e).0) }

pub number_fits_lem : (z : ℤ) → is_number z ≡ true → SFits w16 z
number_fits_lem (pos n) e = record { sfits = omega (arith, leb-true n 512 (number_to (pos n) e)) }
number_fits_lem (negsuc n) e = record { sfits = omega (arith, leb-true n 511 (number_from (negsuc n) e)) }

module _ (y z : ℤ) (ey : is_number y ≡ true) (ez : is_number z ≡ true) where
  pub steps_le : le_z y z ≡ leb (steps y) (steps z)
  steps_le = up_le 512 y z (above_number y ey) (above_number z ez) ∙ sym (ap₂ leb (steps_up y) (steps_up z))

  pub steps_lt : lt_z y z ≡ ltb (steps y) (steps z)
  steps_lt = up_lt 512 y z (above_number y ey) (above_number z ez) ∙ sym (ap₂ ltb (steps_up y) (steps_up z))

  pub steps_same : same y z ≡ eqb (steps y) (steps z)
  steps_same = up_same 512 y z (above_number y ey) (above_number z ez) ∙ sym (ap₂ eqb (steps_up y) (steps_up z))

pub number_steps : (z : ℤ) → is_number z ≡ true → number (steps z) ≡ z
number_steps z e = I.number_steps z (number_from z e)

pub number_same : (a b : ℕ) → same (number a) (number b) ≡ eqb a b
number_same a b = I.number_same a b ∙ leb_both a b

pub is_code_number : (n : ℕ) → is_code (number n) ≡ leb n 1023
is_code_number n = ap₂ ◌&&◌ (number_le 0 n ∙ le-leb 0 n (omega arith)) (number_le n 1023)

-- ---- a number that was read

pub read_back : (z : ℤ) → mag z < 2 ^ hbits w16 → to_z w16 (of_z w16 z) ≡ z
read_back z h = to_z-of_z w16 z (record { sfits = h })
