-- The shift of signed numbers by any h, said once: `steps` of meaning is the shift by 512, `lifted` the shift by 32768.
--   up, Above                      how far a number lies above -h; the number lies at or above -h
--   up_le, up_lt, up_same          the shift keeps the order
--   down_up, up_down, down_above   and back: `sub_ℕ n h` is the number that lies n above -h
use mathlib.Core.Path.{◌≡◌, refl, sym, ◌∙◌, ap, ap₂}
use mathlib.Core.Bool.{Bool, true, false, ◌&&◌}
use Prim.Native.Nat.{ℕ, suc, ◌+◌, ◌-◌, ◌≤◌, ◌<◌}
use native.Mathlib.Omega.{arith}
use borrow.Author.Tests.{lt-leb, le-leb, ltb-true, ltb-false, lt-ltb, le-ltb}
use lib.Dec.{leb, ltb, eqb}
use lib.IntN.{ℤ, pos, negsuc, sub_ℕ}
use lib.Signed.{le_z, lt_z}
use Rattle.meaning.specs.Lists.{same}
use Rattle.codes.proofs.Tests.{leb_same, leb_both}

abbrev pub up : ℕ → ℤ → ℕ
up h (pos n) = n + h
up h (negsuc n) = h - 1 - n

abbrev pub Above : ℕ → ℤ → Type 0
Above h (pos n) = Unit {0}
Above h (negsuc n) = n < h

pub up_le : (h : ℕ) (y z : ℤ) → Above h y → Above h z → le_z y z ≡ leb (up h y) (up h z)
up_le h (pos a) (pos b) p q = leb_same a b (a + h) (b + h) (omega arith) (omega arith)
up_le h (pos a) (negsuc b) p q = sym (lt-leb (a + h) (h - 1 - b) (omega arith))
up_le h (negsuc a) (pos b) p q = sym (le-leb (h - 1 - a) (b + h) (omega arith))
up_le h (negsuc a) (negsuc b) p q = leb_same b a (h - 1 - a) (h - 1 - b) (omega arith) (omega arith)

pub up_lt : (h : ℕ) (y z : ℤ) → Above h y → Above h z → lt_z y z ≡ ltb (up h y) (up h z)
up_lt h (pos a) (pos b) p q = leb_same (suc a) b (suc (a + h)) (b + h) (omega arith) (omega arith)
up_lt h (pos a) (negsuc b) p q = sym (le-ltb (a + h) (h - 1 - b) (omega arith))
up_lt h (negsuc a) (pos b) p q = sym (lt-ltb (h - 1 - a) (b + h) (omega arith))
up_lt h (negsuc a) (negsuc b) p q = leb_same (suc b) a (suc (h - 1 - a)) (h - 1 - b) (omega arith) (omega arith)

pub up_same : (h : ℕ) (y z : ℤ) → Above h y → Above h z → same y z ≡ eqb (up h y) (up h z)
up_same h y z p q = ap₂ ◌&&◌ (up_le h y z p q) (up_le h z y q p) ∙ leb_both (up h y) (up h z)

-- the number that lies n above -h, by whether that is below 0
pub down_below : (n h : ℕ) → n < h → sub_ℕ n h ≡ negsuc (h - suc n)
down_below n h p = rw (lt-ltb n h p)

pub down_not : (n h : ℕ) → h ≤ n → sub_ℕ n h ≡ pos (n - h)
down_not n h p = rw (le-ltb n h p)

pub down_up : (h : ℕ) (z : ℤ) → Above h z → sub_ℕ (up h z) h ≡ z
down_up h (pos n) p = down_not (n + h) h (omega arith) ∙ ap pos (omega arith)
down_up h (negsuc n) p = down_below (h - 1 - n) h (omega arith) ∙ ap negsuc (omega arith)

module _ (h n : ℕ) where
  by_sign : (P : ℤ → Type 0) → (n < h → P (negsuc (h - suc n))) → (h ≤ n → P (pos (n - h))) → (t : Bool) → ltb n h ≡ t → P (sub_ℕ n h)
  by_sign P f g true e = rw (down_below n h (ltb-true n h e)) (f (ltb-true n h e))
  by_sign P f g false e = rw (down_not n h (ltb-false n h e)) (g (ltb-false n h e))

  pub up_down : up h (sub_ℕ n h) ≡ n
  up_down = by_sign (λ z. up h z ≡ n) (λ p. omega arith) (λ p. omega arith) (ltb n h) refl

  pub down_above : Above h (sub_ℕ n h)
  down_above = by_sign (λ z. Above h z) (λ p. omega arith) (λ p. tt) (ltb n h) refl
