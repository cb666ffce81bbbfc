-- Laws of frames.
--   value_small              the value of a digit is below 16
--   line_long                a line at a place has its bytes
--   four_whole               four digits
--   one_four, three_whole    a line of one number; of three numbers
use mathlib.Core.Path.{◌≡◌, refl, sym, ◌∙◌}
use mathlib.Core.Bool.{Bool, true, false, ◌&&◌, cond}
use mathlib.Core.List.{List}
use Prim.Native.Nat.{ℕ, ◌+◌, ◌-◌, ◌*◌, ◌≤◌, ◌<◌}
use native.Mathlib.Omega.{arith}
use borrow.Author.Tests.{leb-true}
use lib.Dec.{leb}
use lib.ListN.{length}
use Rattle.std.specs.Prelude.{Some, None}
use Rattle.codes.proofs.Tests.{and_both}
use Rattle.frames.specs.Frames.{digit0, digit9, digit_a, digit_f, byte_at, digit_value, four_of, four_at, line_at, together, one_at, three_at}

-- ---- digits

pub value_small : (b a : ℕ) → Some a ≡ digit_value b → a < 16
value_small b a e = by (leb digit0 b && leb b digit9) (leb digit_a b && leb b digit_f) refl refl e
  where
    by : (t u : Bool) → (leb digit0 b && leb b digit9) ≡ t → (leb digit_a b && leb b digit_f) ≡ u
        → Some a ≡ cond t (Some (b - digit0)) (cond u (Some (10 + (b - digit_a))) None) → a < 16
    by true u h k e = let is : a ≡ b - digit0 = cc in omega (arith, leb-true b digit9 (and_both _ _ h).1)
    by false true h k e = let is : a ≡ 10 + (b - digit_a) = cc in omega (arith, leb-true b digit_f (and_both _ _ k).1)
    by false false h k e = let z : ◌≡◌ {A = ℕ} 0 1 = cc in absurd (omega arith)

-- ---- four digits

module _ (s : List ℕ) (at : ℕ) {a b c d : ℕ} where
  pub four_whole : digit_value (byte_at s at) ≡ Some a → digit_value (byte_at s (at + 1)) ≡ Some b → digit_value (byte_at s (at + 2)) ≡ Some c
      → digit_value (byte_at s (at + 3)) ≡ Some d → Some (((a * 16 + b) * 16 + c) * 16 + d) ≡ four_at s at
  unfolding four_at
  four_whole ea eb ec ed = λ i. four_of (sym ea i) (sym eb i) (sym ec i) (sym ed i)

-- ---- lines

pub line_long : (s : List ℕ) (tag digits at : ℕ) → line_at s tag digits at ≡ true → at + digits + 3 ≤ length s
unfolding line_at
line_long s tag digits at e = leb-true (at + digits + 3) (length s) (and_both _ _ e).0

pub one_four : (s : List ℕ) (tag at : ℕ) → line_at s tag 4 at ≡ true → four_at s (at + 2) ≡ one_at s tag at
one_four s tag at e = rw e

module _ (s : List ℕ) (tag at : ℕ) (line : line_at s tag 12 at ≡ true) {a b c : ℕ} where
  pub three_whole : Some a ≡ four_at s (at + 2) → Some b ≡ four_at s (at + 6) → Some c ≡ four_at s (at + 10) → Some (a, b, c) ≡ three_at s tag at
  three_whole ea eb ec = (λ i. together (ea i) (eb i) (ec i)) ∙ rw line
