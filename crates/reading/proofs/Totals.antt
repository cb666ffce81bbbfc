-- The closing sum, number by number.
--   sum_fold     the sum, taken modulo 65,536 after each number
--   coordinates  the sum of the coordinates as integers, with their signs
--   Congruent    two integers that are equal modulo 65,536: equal when each is raised by some times 65,536
--   closing_sum_lem  the closing sum is below 65,536, and congruent to the count and the coordinates added up as integers (document 01: "the sum
--                of the count and all coordinates modulo 65,536")
--   numbers_fit  the numbers that are read have 16 bits, so that this holds of them
use mathlib.Core.Path.{◌≡◌, refl, sym, ◌∙◌, ap, ap₂, subst}
use mathlib.Core.Bool.{Bool, true, false, cond}
use mathlib.Core.List.{List, [], ◌∷◌, ◌++◌}
use Prim.Native.Nat.{ℕ, zero, suc, ◌+◌, ◌-◌, ◌*◌, ◌/◌, ◌%◌, ◌<◌}
use native.Mathlib.Omega.{arith}
use borrow.Author.Tests.{ltb-true, ltb-false}
use lib.Dec.{ltb}
use lib.IntN.{ℤ, pos, negsuc, sub_ℕ, ◌+ℤ◌, +ℤ_assoc, +ℤ_comm}
use mir.Syntax.{w16}
use mir.Val.{SFits}
use Rattle.meaning.specs.Counting.{All}
use Rattle.codes.proofs.Shift.{down_not, down_below}
use Rattle.std.specs.Prelude.{Option, Some, None}
use Rattle.std.specs.List.{fold}
use Rattle.std.proofs.lemmas.Option.{none-some}
use Rattle.frames.specs.Frames.{long_line, byte_at, digit_value, four_of, four_at, line_at, together, three_at}
use Rattle.frames.proofs.FrameLaws.{value_small}
use Rattle.words.specs.Words.{word, signed}
use Rattle.reading.specs.Reading.{numbers_of, numbers_from, total, closing_sum}

pub sum_fold : (n : ℕ) (l : List ℤ) → n < 65536 → fold (λ sum z. (sum + word z) % 65536) n l ≡ closing_sum n l
sum_fold n [] h = omega arith
sum_fold n (z ∷ l) h = sum_fold ((n + word z) % 65536) l (omega arith) ∙ omega arith

-- ---- the sum as integers

abbrev pub coordinates : List ℤ → ℤ
coordinates [] = pos 0
coordinates (z ∷ l) = z +ℤ coordinates l

pub record Congruent (a b : ℤ) : Type 0 where
  pub up : ℕ
  pub down : ℕ
  pub is : a +ℤ pos (65536 * up) ≡ b +ℤ pos (65536 * down)

-- how often 65,536 is added where four digits stand for a number below 0
abbrev turn : ℤ → ℕ
turn (pos n) = 0
turn (negsuc n) = 1

abbrev turns : List ℤ → ℕ
turns [] = 0
turns (z ∷ l) = turn z + turns l

word_turn : (z : ℤ) → SFits w16 z → pos (word z) ≡ z +ℤ pos (65536 * turn z)
word_turn (pos n) f = ap pos (omega arith)
word_turn (negsuc n) f = let same : 65535 - n ≡ 65536 - suc n = omega arith in ap pos same ∙ sym (down_not 65536 (suc n) (omega (arith, f.sfits)))

swap : (a b c d : ℤ) → (a +ℤ b) +ℤ (c +ℤ d) ≡ (a +ℤ c) +ℤ (b +ℤ d)
swap a b c d =
    +ℤ_assoc a b (c +ℤ d) ∙
    ap (a +ℤ◌) (sym (+ℤ_assoc b c d) ∙ ap (◌+ℤ d) (+ℤ_comm b c) ∙ +ℤ_assoc c b d) ∙
    sym (+ℤ_assoc a c (b +ℤ d))

total_turns : (l : List ℤ) → All (SFits w16) l → pos (total l) ≡ coordinates l +ℤ pos (65536 * turns l)
total_turns [] h = refl
total_turns (z ∷ l) h =
    let both : 65536 * turn z + 65536 * turns l ≡ 65536 * (turn z + turns l) = omega arith in
    ap₂ ◌+ℤ◌ (word_turn z h.0) (total_turns l h.1) ∙
    swap z (pos (65536 * turn z)) (coordinates l) (pos (65536 * turns l)) ∙
    ap (λ k. (z +ℤ coordinates l) +ℤ pos k) both

pub closing_sum_lem : (n : ℕ) (ns : List ℤ) → All (SFits w16) ns → Congruent (pos n +ℤ coordinates ns) (pos (closing_sum n ns)) × (closing_sum n ns < 65536)
closing_sum_lem n ns h =
    let parts : n + total ns ≡ closing_sum n ns + 65536 * ((n + total ns) / 65536) = omega arith in (
      record {
        up = turns ns;
        down = (n + total ns) / 65536;
        is = +ℤ_assoc (pos n) (coordinates ns) (pos (65536 * turns ns)) ∙ ap (pos n +ℤ◌) (sym (total_turns ns h)) ∙ ap pos parts;
      },
      omega arith,
    )

-- ---- the numbers that are read

signed_fits : (n : ℕ) → n < 65536 → SFits w16 (signed n)
signed_fits n h = by (ltb n 32768) refl
  where
    by : (t : Bool) → ltb n 32768 ≡ t → SFits w16 (cond t (pos n) (sub_ℕ n 65536))
    by true e = record { sfits = omega (arith, ltb-true n 32768 e) }
    by false e = subst (SFits w16) (sym (down_below n 65536 h)) (record { sfits = omega (arith, ltb-false n 32768 e) })

number_small : (p q r t m : ℕ) → four_of (digit_value p) (digit_value q) (digit_value r) (digit_value t) ≡ Some m → m < 65536
number_small p q r t m = by (digit_value p) (digit_value q) (digit_value r) (digit_value t) refl refl refl refl
  where
    by : (a b c d : Option ℕ) → digit_value p ≡ a → digit_value q ≡ b → digit_value r ≡ c → digit_value t ≡ d → four_of a b c d ≡ Some m → m < 65536
    by (Some a) (Some b) (Some c) (Some d) ea eb ec ed e =
        let is : ((a * 16 + b) * 16 + c) * 16 + d ≡ m = cc in
        omega (arith, value_small p a (sym ea), value_small q b (sym eb), value_small r c (sym ec), value_small t d (sym ed))
    by (Some a) (Some b) (Some c) None ea eb ec ed e = absurd (none-some m e)
    by (Some a) (Some b) None d ea eb ec ed e = absurd (none-some m e)
    by (Some a) None c d ea eb ec ed e = absurd (none-some m e)
    by None b c d ea eb ec ed e = absurd (none-some m e)

module _ (s : List ℕ) (tag : ℕ) where
  four_fits : (at m : ℕ) → four_at s at ≡ Some m → SFits w16 (signed m)
  unfolding four_at
  four_fits at m e =
      signed_fits m
      (number_small (byte_at s at) (byte_at s (at + 1)) (byte_at s (at + 2)) (byte_at s (at + 3)) m e)

  frame_fits : (at : ℕ) → All (SFits w16) (numbers_of (three_at s tag at))
  frame_fits at = by (line_at s tag 12 at)
    where
      parts : (o p q : Option ℕ) → four_at s (at + 2) ≡ o → four_at s (at + 6) ≡ p → four_at s (at + 10) ≡ q → All (SFits w16) (numbers_of (together o p q))
      parts (Some a) (Some b) (Some c) eo ep eq = (four_fits (at + 2) a eo, (four_fits (at + 6) b ep, (four_fits (at + 10) c eq, tt)))
      parts (Some a) (Some b) None eo ep eq = tt
      parts (Some a) None q eo ep eq = tt
      parts None p q eo ep eq = tt

      by : (t : Bool) → All (SFits w16) (numbers_of (cond t (together (four_at s (at + 2)) (four_at s (at + 6)) (four_at s (at + 10))) None))
      by true = parts (four_at s (at + 2)) (four_at s (at + 6)) (four_at s (at + 10)) refl refl refl
      by false = tt

  both_fit : (l m : List ℤ) → All (SFits w16) l → All (SFits w16) m → All (SFits w16) (l ++ m)
  both_fit [] m h k = k
  both_fit (z ∷ l) m h k = (h.0, both_fit l m h.1 k)

  pub numbers_fit : (start n : ℕ) → All (SFits w16) (numbers_from s tag start n)
  numbers_fit start zero = tt
  numbers_fit start (suc n) =
      both_fit (numbers_from s tag start n) (numbers_of (three_at s tag (start + long_line * n))) (numbers_fit start n) (frame_fits (start + long_line * n))
