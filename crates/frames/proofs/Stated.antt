-- Laws that docs/PORT.md names and that no proof cites.
--   value_under, value_lower, value_between, value_upper, value_over     the value of a byte, by where it lies among the digits
--   four_ill₁, four_ill₂, four_ill₃, four_ill₄     four digits of which one is none
--   line_past, line_short, line_no_zero, line_other, line_ends     a line at a place, by what is found there
--   one_ill, three_ill                where there is no line, there is no number, and there are no three numbers
--   three_ill₁, three_ill₂, three_ill₃     three numbers of which one is ill formed
--   digit_low, digit_high             the digit of four bits
use mathlib.Core.Path.{◌≡◌, refl, sym, ◌∙◌, ap}
use mathlib.Core.Bool.{true, false}
use mathlib.Core.List.{List}
use Prim.Native.Nat.{ℕ, ◌+◌, ◌-◌, ◌≤◌, ◌<◌}
use native.Mathlib.Omega.{arith}
use borrow.Author.Tests.{lt-ltb, le-ltb, lt-leb, le-leb, eq-eqb, ne_eqb}
use lib.Dec.{leb, eqb}
use lib.ListN.{length}
use Rattle.std.specs.Prelude.{Option, Some, None}
use Rattle.frames.specs.Frames.{digit0, digit9, digit_a, digit_f, line_end, byte_at, digit_value, four_of, four_at, line_at, together}
use Rattle.frames.specs.Frames.{one_at, three_at, digit_of}

-- ---- digits

module _ (b : ℕ) where
  pub value_under : b < digit0 → None ≡ digit_value b
  value_under h = rw (lt-leb digit0 b h, lt-leb digit_a b (omega arith))

  pub value_lower : digit0 ≤ b → b ≤ digit9 → Some (b - digit0) ≡ digit_value b
  value_lower h k = rw (le-leb digit0 b h, le-leb b digit9 k)

  pub value_between : digit9 < b → b < digit_a → None ≡ digit_value b
  value_between h k = rw (le-leb digit0 b (omega arith), lt-leb b digit9 h, lt-leb digit_a b k)

  pub value_upper : digit_a ≤ b → b ≤ digit_f → Some (b - (digit_a - 10)) ≡ digit_value b
  value_upper h k =
      let is : b - (digit_a - 10) ≡ 10 + (b - digit_a) = omega arith in
      ap Some is ∙ rw (le-leb digit0 b (omega arith), lt-leb b digit9 (omega arith), le-leb digit_a b h, le-leb b digit_f k)

  pub value_over : digit_f < b → None ≡ digit_value b
  value_over h = rw (le-leb digit0 b (omega arith), lt-leb b digit9 (omega arith), le-leb digit_a b (omega arith), lt-leb b digit_f h)

-- ---- four digits

module _ (s : List ℕ) (at : ℕ) where
  pub four_ill₁ : digit_value (byte_at s at) ≡ None → None ≡ four_at s at
  unfolding four_at
  four_ill₁ e = λ i. four_of (sym e i) (digit_value (byte_at s (at + 1))) (digit_value (byte_at s (at + 2))) (digit_value (byte_at s (at + 3)))

  module _ {a : ℕ} (ea : digit_value (byte_at s at) ≡ Some a) where
    pub four_ill₂ : digit_value (byte_at s (at + 1)) ≡ None → None ≡ four_at s at
    unfolding four_at
    four_ill₂ e = λ i. four_of (sym ea i) (sym e i) (digit_value (byte_at s (at + 2))) (digit_value (byte_at s (at + 3)))

    module _ {b : ℕ} (eb : digit_value (byte_at s (at + 1)) ≡ Some b) where
      pub four_ill₃ : digit_value (byte_at s (at + 2)) ≡ None → None ≡ four_at s at
      unfolding four_at
      four_ill₃ e = λ i. four_of (sym ea i) (sym eb i) (sym e i) (digit_value (byte_at s (at + 3)))

      pub four_ill₄ : {c : ℕ} → digit_value (byte_at s (at + 2)) ≡ Some c → digit_value (byte_at s (at + 3)) ≡ None → None ≡ four_at s at
      unfolding four_at
      four_ill₄ ec e = λ i. four_of (sym ea i) (sym eb i) (sym ec i) (sym e i)

-- ---- lines

module _ (s : List ℕ) (tag digits at : ℕ) where
  pub line_past : length s ≤ at → false ≡ line_at s tag digits at
  unfolding line_at
  line_past h = rw (lt-leb (at + digits + 3) (length s) (omega arith))

  pub line_short : at < length s → length s - at < digits + 3 → false ≡ line_at s tag digits at
  unfolding line_at
  line_short h k = rw (lt-leb (at + digits + 3) (length s) (omega arith))

  module _ (within : at < length s) (long : digits + 3 ≤ length s - at) where
    is_long : leb (at + digits + 3) (length s) ≡ true
    is_long = le-leb (at + digits + 3) (length s) (omega arith)

    pub line_no_zero : (byte_at s at ≡ digit0 → ⊥) → false ≡ line_at s tag digits at
    unfolding line_at
    line_no_zero h = rw (is_long, ne_eqb (byte_at s at) digit0 h)

    pub line_other : byte_at s at ≡ digit0 → (byte_at s (at + 1) ≡ tag → ⊥) → false ≡ line_at s tag digits at
    unfolding line_at
    line_other h k = rw (is_long, eq-eqb (byte_at s at) digit0 h, ne_eqb (byte_at s (at + 1)) tag k)

    pub line_ends : byte_at s at ≡ digit0 → byte_at s (at + 1) ≡ tag → eqb (byte_at s (at + 2 + digits)) line_end ≡ line_at s tag digits at
    unfolding line_at
    line_ends h k = rw (is_long, eq-eqb (byte_at s at) digit0 h, eq-eqb (byte_at s (at + 1)) tag k)

-- ---- three numbers

pub one_ill : (s : List ℕ) (tag at : ℕ) → line_at s tag 4 at ≡ false → None ≡ one_at s tag at
one_ill s tag at e = rw e

pub three_ill : (s : List ℕ) (tag at : ℕ) → line_at s tag 12 at ≡ false → None ≡ three_at s tag at
three_ill s tag at e = rw e

module _ (s : List ℕ) (tag at : ℕ) (line : line_at s tag 12 at ≡ true) (o p q : Option ℕ) where
  three_is : o ≡ four_at s (at + 2) → p ≡ four_at s (at + 6) → q ≡ four_at s (at + 10) → together o p q ≡ three_at s tag at
  three_is eo ep eq = (λ i. together (eo i) (ep i) (eq i)) ∙ rw line

module _ (s : List ℕ) (tag at : ℕ) (line : line_at s tag 12 at ≡ true) {o : Option ℕ} (eo : o ≡ four_at s (at + 2)) where
  pub three_ill₁ : o ≡ None → None ≡ three_at s tag at
  three_ill₁ e = three_is s tag at line None (four_at s (at + 6)) (four_at s (at + 10)) (sym e ∙ eo) refl refl

  module _ {a : ℕ} (ea : o ≡ Some a) {p : Option ℕ} (ep : p ≡ four_at s (at + 6)) where
    pub three_ill₂ : p ≡ None → None ≡ three_at s tag at
    three_ill₂ e = three_is s tag at line (Some a) None (four_at s (at + 10)) (sym ea ∙ eo) (sym e ∙ ep) refl

    module _ {b : ℕ} (eb : p ≡ Some b) {q : Option ℕ} (eq : q ≡ four_at s (at + 10)) where
      pub three_ill₃ : q ≡ None → None ≡ three_at s tag at
      three_ill₃ e = three_is s tag at line (Some a) (Some b) None (sym ea ∙ eo) (sym eb ∙ ep) (sym e ∙ eq)

-- ---- the digit of four bits

pub digit_low : (d : ℕ) → d < 10 → digit0 + d ≡ digit_of d
digit_low d h = rw (lt-ltb d 10 h)

pub digit_high : (d : ℕ) → 10 ≤ d → digit_a - 10 + d ≡ digit_of d
digit_high d h =
    let is : digit_a - 10 + d ≡ digit_a + (d - 10) = omega arith in
    is ∙ rw (le-ltb d 10 h)
