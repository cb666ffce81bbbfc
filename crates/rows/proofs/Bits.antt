-- The binary digits of machine words.
--   odd_none, odd_odd                      odd numbers, by their remainder
--   bit_first, bit_next                    the first digit; each other is a digit of the half
--   bit_zero, bit_xor_lem, bit_and_lem, bit_or_lem     of 0, and of the operations
--   bit_low, bit_times                     of what a word holds of a number; of a number shifted to the left
--   bit_shifted_first, bit_shifted         shifted by one: the first digit is 0, each other that of the place before
--   bit_last, bit_last_alone               the last digit of a word, as a number
--   bit_all, bit_mask, bit_one             all digits; all from a place on; the one at a place
-- Assumes nothing.
use mathlib.Core.Path.{◌≡◌, refl, sym, ◌∙◌, ap, ap₂}
use mathlib.Core.Bool.{Bool, true, false, ◌&&◌, ◌||◌, not-not}
use Prim.Native.Nat.{ℕ, zero, suc, ◌+◌, ◌-◌, ◌*◌, ◌/◌, ◌%◌, ◌^◌, ◌≤◌, ◌<◌}
use native.Mathlib.Nat.{zero-div, div-one, mul_assoc, pow-suc, div-eq_of_lt}
use native.Mathlib.Omega.{arith}
use lib.Dec.{leb, eqb}
use lib.Arith.{dbl_pred}
use lib.Pow.{pow-add, pow_pos, field, mod-mod-pow, shl-shr, shr-shr, shr_lt, high, ones_lt, ones_split}
use lib.Bits.{bit_and, bit_or, bit_xor, and_shr, or_shr, xor_shr, and_mod, or_mod, xor_mod, shifted_even}
use borrow.Author.Tests.{leb-true, leb-false, le-leb, eq-eqb, ne_eqb}
use Rattle.meaning.specs.Counting.{odd}
use Rattle.meaning.proofs.Parity.{◌⊕◌}
use Rattle.rows.specs.Rows.{bit}

-- ---- odd numbers

odd_rem : (n : ℕ) → eqb (n % 2) 1 ≡ odd n
odd_rem zero = refl
odd_rem (suc zero) = refl
odd_rem (suc (suc n)) = let q : suc (suc n) % 2 ≡ n % 2 = omega arith in ap (λ k. eqb k 1) q ∙ odd_rem n ∙ sym (not-not (odd n))

odd_same : (m n : ℕ) → m % 2 ≡ n % 2 → odd m ≡ odd n
odd_same m n e = sym (odd_rem m) ∙ ap (λ r. eqb r 1) e ∙ odd_rem n

pub odd_none : (n : ℕ) → n % 2 ≡ 0 → odd n ≡ false
odd_none n e = sym (odd_rem n) ∙ ap (λ r. eqb r 1) e

odd_one : (n : ℕ) → n % 2 ≡ 1 → odd n ≡ true
odd_one n e = sym (odd_rem n) ∙ ap (λ r. eqb r 1) e

pub odd_odd : (n d : ℕ) → n % 2 ≡ suc d → odd n ≡ true
odd_odd n d e = odd_one n (omega arith)

odd_mod : (m j : ℕ) → odd (m % 2 ^ suc j) ≡ odd m
odd_mod m j = odd_same (m % 2 ^ suc j) m (ap (λ (i : ℕ). m % 2 ^ i % 2) (omega arith) ∙ mod-mod-pow m j 1)

-- an operation on digits, from its table
module _ (op : ℕ → ℕ → ℕ) (f : Bool → Bool → Bool) (low : (x y : ℕ) → op x y % 2 ^ 1 ≡ op (x % 2 ^ 1) (y % 2 ^ 1))
    (table : (r s : ℕ) → r < 2 → s < 2 → eqb (op r s) 1 ≡ f (eqb r 1) (eqb s 1)) where
  odd_op : (x y : ℕ) → odd (op x y) ≡ f (odd x) (odd y)
  odd_op x y =
      sym (odd_rem (op x y)) ∙
      ap (λ r. eqb r 1) (low x y) ∙
      table (x % 2) (y % 2) (omega arith) (omega arith) ∙
      ap₂ f (odd_rem x) (odd_rem y)

-- ---- the first digit, and the others

pub bit_first : (n : ℕ) → bit n 0 ≡ odd n
unfolding bit
bit_first n = ap odd (div-one n)

pub bit_next : (n k : ℕ) → bit n (suc k) ≡ bit (n / 2) k
unfolding bit
bit_next n k = let e : suc k ≡ 1 + k = omega arith in ap (λ j. odd (n / 2 ^ j)) e ∙ ap odd (sym (shr-shr n 1 k))

-- ---- the operations

pub bit_zero : (k : ℕ) → bit 0 k ≡ false
unfolding bit
bit_zero k = ap odd (zero-div (2 ^ k))

pub bit_xor_lem : (a b k : ℕ) → bit (bit_xor a b) k ≡ (bit a k ⊕ bit b k)
unfolding bit
bit_xor_lem a b k = ap odd (xor_shr a b k) ∙ odd_op bit_xor ◌⊕◌ (λ x y. xor_mod x y 1) table (a / 2 ^ k) (b / 2 ^ k)
  where
    table : (r s : ℕ) → r < 2 → s < 2 → eqb (bit_xor r s) 1 ≡ (eqb r 1 ⊕ eqb s 1)
    table zero zero h g = refl
    table zero (suc zero) h g = refl
    table (suc zero) zero h g = refl
    table (suc zero) (suc zero) h g = refl
    table (suc (suc r)) s h g = absurd (omega arith)
    table zero (suc (suc s)) h g = absurd (omega arith)
    table (suc zero) (suc (suc s)) h g = absurd (omega arith)

pub bit_and_lem : (a b k : ℕ) → bit (bit_and a b) k ≡ (bit a k && bit b k)
unfolding bit
bit_and_lem a b k = ap odd (and_shr a b k) ∙ odd_op bit_and ◌&&◌ (λ x y. and_mod x y 1) table (a / 2 ^ k) (b / 2 ^ k)
  where
    table : (r s : ℕ) → r < 2 → s < 2 → eqb (bit_and r s) 1 ≡ (eqb r 1 && eqb s 1)
    table zero zero h g = refl
    table zero (suc zero) h g = refl
    table (suc zero) zero h g = refl
    table (suc zero) (suc zero) h g = refl
    table (suc (suc r)) s h g = absurd (omega arith)
    table zero (suc (suc s)) h g = absurd (omega arith)
    table (suc zero) (suc (suc s)) h g = absurd (omega arith)

pub bit_or_lem : (a b k : ℕ) → bit (bit_or a b) k ≡ (bit a k || bit b k)
unfolding bit
bit_or_lem a b k = ap odd (or_shr a b k) ∙ odd_op bit_or ◌||◌ (λ x y. or_mod x y 1) table (a / 2 ^ k) (b / 2 ^ k)
  where
    table : (r s : ℕ) → r < 2 → s < 2 → eqb (bit_or r s) 1 ≡ (eqb r 1 || eqb s 1)
    table zero zero h g = refl
    table zero (suc zero) h g = refl
    table (suc zero) zero h g = refl
    table (suc zero) (suc zero) h g = refl
    table (suc (suc r)) s h g = absurd (omega arith)
    table zero (suc (suc s)) h g = absurd (omega arith)
    table (suc zero) (suc (suc s)) h g = absurd (omega arith)

-- ---- shifts

-- a word holds the low digits
pub bit_low : (n k : ℕ) → k < 64 → bit (n % 2 ^ 64) k ≡ bit n k
unfolding bit
bit_low n k h =
    ap odd (ap (λ (w : ℕ). n % 2 ^ w / 2 ^ k) (whole) ∙ field n (suc (63 - k)) k) ∙ odd_mod (n / 2 ^ k) (63 - k)
  where
    whole : 64 ≡ suc (63 - k) + k
    whole = omega arith

pub bit_times : (a s k : ℕ) → bit (a * 2 ^ s) k ≡ (leb s k && bit a (k - s))
unfolding bit
bit_times a s k = go (leb s k) refl
  where
    go : (t : Bool) → leb s k ≡ t → odd (a * 2 ^ s / 2 ^ k) ≡ (t && odd (a / 2 ^ (k - s)))
    go true e =
        let up : k ≡ s + (k - s) = omega (arith, leb-true s k e) in
        ap odd (ap (λ (j : ℕ). a * 2 ^ s / 2 ^ j) up ∙ sym (shr-shr (a * 2 ^ s) s (k - s)) ∙ ap (◌/ 2 ^ (k - s)) (shl-shr a s))
    go false e =
        let down : s ≡ suc (s - suc k) + k = omega (arith, leb-false s k e) in
        let d = suc (s - suc k) in
        ap odd
        (ap (λ (j : ℕ). a * 2 ^ j / 2 ^ k) down ∙
        ap (λ (m : ℕ). a * m / 2 ^ k) (pow-add 2 d k) ∙
        ap (◌/ 2 ^ k) (sym (mul_assoc a (2 ^ d) (2 ^ k))) ∙
        shl-shr (a * 2 ^ d) k) ∙
        odd_none (a * 2 ^ d) (shifted_even a (s - suc k))

pub bit_shifted_first : (a : ℕ) → bit ((a * 2 ^ 1) % 2 ^ 64) 0 ≡ false
bit_shifted_first a = bit_low (a * 2 ^ 1) 0 (omega arith) ∙ bit_times a 1 0

pub bit_shifted : (a k : ℕ) → k < 63 → bit ((a * 2 ^ 1) % 2 ^ 64) (suc k) ≡ bit a k
bit_shifted a k h =
    let back : suc k - 1 ≡ k = omega arith in
    bit_low (a * 2 ^ 1) (suc k) (omega arith) ∙
    bit_times a 1 (suc k) ∙
    ap (◌&& bit a (suc k - 1)) (le-leb 1 (suc k) (omega arith)) ∙
    ap (bit a) back

pub bit_last : (a : ℕ) → bit (a / 2 ^ 63) 0 ≡ bit a 63
unfolding bit
bit_last a = ap odd (shr-shr a 63 0)

pub bit_last_alone : (a k : ℕ) → a < 2 ^ 64 → bit (a / 2 ^ 63) (suc k) ≡ false
unfolding bit
bit_last_alone a k h = ap odd none
  where
    none : a / 2 ^ 63 / 2 ^ suc k ≡ 0
    none = div-eq_of_lt (omega (arith, shr_lt 1 63 h, pow-suc 2 k, pow_pos k))

-- ---- masks

pub bit_all : (k : ℕ) → k < 64 → bit 18446744073709551615 k ≡ true
unfolding bit
bit_all k h =
    ap odd (ap (λ (w : ℕ). (2 ^ w - 1) / 2 ^ k) whole ∙ ap (◌/ 2 ^ k) (ones_split (suc (63 - k)) k) ∙ high (2 ^ suc (63 - k) - 1) k (ones_lt k)) ∙
    odd_one (2 ^ suc (63 - k) - 1) (ap (λ (n : ℕ). (n - 1) % 2) (pow-suc 2 (63 - k)) ∙ ap (◌% 2) (dbl_pred (pow_pos (63 - k))) ∙ omega arith)
  where
    whole : 64 ≡ suc (63 - k) + k
    whole = omega arith

pub bit_mask : (s k : ℕ) → s < 64 → k < 64 → bit ((18446744073709551615 * 2 ^ s) % 2 ^ 64) k ≡ leb s k
bit_mask s k hs hk = bit_low (18446744073709551615 * 2 ^ s) k hk ∙ bit_times 18446744073709551615 s k ∙ go (leb s k)
  where
    go : (t : Bool) → (t && bit 18446744073709551615 (k - s)) ≡ t
    go true = bit_all (k - s) (omega arith)
    go false = refl

one_first : (d : ℕ) → bit 1 (suc d) ≡ false
unfolding bit
one_first d = ap odd none
  where
    none : 1 / 2 ^ suc d ≡ 0
    none = div-eq_of_lt (omega (arith, pow-suc 2 d, pow_pos d))

one_here : bit 1 0 ≡ true
unfolding bit
one_here = refl

pub bit_one : (s k : ℕ) → s < 64 → k < 64 → bit ((1 * 2 ^ s) % 2 ^ 64) k ≡ eqb s k
bit_one s k hs hk = bit_low (1 * 2 ^ s) k hk ∙ bit_times 1 s k ∙ go (leb s k) refl
  where
    at : (d : ℕ) → d ≡ k - s → s ≤ k → bit 1 d ≡ eqb s k
    at zero e h = one_here ∙ sym (eq-eqb s k (omega arith))
    at (suc d) e h = one_first d ∙ sym (ne_eqb s k (λ q. omega arith))

    go : (t : Bool) → leb s k ≡ t → (t && bit 1 (k - s)) ≡ eqb s k
    go true e = at (k - s) refl (leb-true s k e)
    go false e = sym (ne_eqb s k (λ q. omega (arith, leb-false s k e)))
