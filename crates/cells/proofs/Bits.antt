-- Rows of bits of which single ones are turned.
--   toggled                     one bit turned
--   set_bit                     a bit, as it is read
--   tells_none, tells_on        a row that tells of the numbers at the first places
-- Assumes nothing.
use mathlib.Core.Path.{◌≡◌, refl, sym, ◌∙◌, ap, ap₂}
use mathlib.Core.Bool.{Bool, true, false}
use mathlib.Core.List.{List, [], ◌∷◌}
use Prim.Native.Nat.{ℕ, zero, suc, ◌+◌, ◌*◌, ◌/◌, ◌%◌, ◌^◌, ◌<◌}
use native.Mathlib.Omega.{arith}
use native.Mathlib.Numerals.{add-one}
use lib.Dec.{eqb}
use lib.Bits.{bit_xor}
use lib.ListN.{length, get_or, take, set, length-set, replicate, get_or-replicate, length-replicate}
use lib.Seq.{get_or-set_same, get_or-set_other, take-suc}
use borrow.Author.Tests.{eqb-true, eqb-false, eq-eqb, ne_eqb}
use Rattle.meaning.specs.Counting.{odd}
use Rattle.meaning.proofs.Parity.{◌⊕◌, ⊕_comm, ⊕_false, sum, sum_append}
use Rattle.rows.specs.Rows.{bit, bit_at}
use Rattle.rows.proofs.Bits.{bit_xor_lem, bit_one, bit_zero, odd_none, odd_odd}
use Rattle.cells.specs.Cells.{line_unit}
use Rattle.cells.specs.Line.{row_words, Toggled, Tells}

pub toggled : (at : ℕ) (row : List ℕ) → at < 64 * length row
    → Toggled at row (set row (at / 64) (bit_xor (get_or row (at / 64) 0) ((1 * 2 ^ (at % 64)) % 2 ^ 64)))
toggled at row h = record { long = length-set row (at / 64) _; bits = λ x u. go x (eqb (at / 64) (x / 64)) refl }
  where
    word : ℕ
    word = bit_xor (get_or row (at / 64) 0) ((1 * 2 ^ (at % 64)) % 2 ^ 64)

    same : (x : ℕ) → at / 64 ≡ x / 64 → eqb (at % 64) (x % 64) ≡ eqb at x
    same x e = by (eqb (at % 64) (x % 64)) refl
      where
        by : (b : Bool) → eqb (at % 64) (x % 64) ≡ b → eqb (at % 64) (x % 64) ≡ eqb at x
        by true p = p ∙ sym (eq-eqb at x (omega (arith, eqb-true (at % 64) (x % 64) p)))
        by false p = p ∙ sym (ne_eqb at x (λ q. eqb-false (at % 64) (x % 64) p (ap (◌% 64) q)))

    go : (x : ℕ) (b : Bool) → eqb (at / 64) (x / 64) ≡ b → bit_at (set row (at / 64) word) x ≡ (eqb at x ⊕ bit_at row x)
    go x true e =
        let s = eqb-true (at / 64) (x / 64) e in
        ap (λ (i : ℕ). bit (get_or (set row (at / 64) word) i 0) (x % 64)) (sym s) ∙
        ap (λ n. bit n (x % 64)) (get_or-set_same row (at / 64) word 0 (omega arith)) ∙
        bit_xor_lem (get_or row (at / 64) 0) ((1 * 2 ^ (at % 64)) % 2 ^ 64) (x % 64) ∙
        ⊕_comm (bit (get_or row (at / 64) 0) (x % 64)) _ ∙
        ap₂ ◌⊕◌ (bit_one (at % 64) (x % 64) (omega arith) (omega arith) ∙ same x s) (ap (λ (i : ℕ). bit (get_or row i 0) (x % 64)) s)
    go x false e =
        let d = eqb-false (at / 64) (x / 64) e in
        ap (λ n. bit n (x % 64)) (get_or-set_other row (at / 64) (x / 64) word 0 (λ q. d (sym q))) ∙
        ap (◌⊕ bit_at row x) (sym (ne_eqb at x (λ q. d (ap (◌/ 64) q))))

-- a bit as it is read: the rest by two of a shifted word
pub set_bit : (row : List ℕ) (at : ℕ) → eqb (get_or row (at / 64) 0 / 2 ^ (at % 64) % 2) 1 ≡ bit_at row at
unfolding bit
set_bit row at = go (get_or row (at / 64) 0 / 2 ^ (at % 64))
  where
    by : (n r : ℕ) → n % 2 ≡ r → eqb r 1 ≡ odd n
    by n zero e = sym (odd_none n e)
    by n (suc zero) e = sym (odd_odd n 0 e)
    by n (suc (suc r)) e = absurd (omega arith)

    go : (n : ℕ) → eqb (n % 2) 1 ≡ odd n
    go n = by n (n % 2) refl

-- ---- a row that takes in numbers

pub tells_none : Tells [] (replicate row_words 0)
tells_none =
    record {
      long = length-replicate {A = ℕ} 32 0;
      bits = λ x u. ap (λ n. bit n (x % 64)) (get_or-replicate {A = ℕ} 32 (x / 64) 0 0 (omega arith)) ∙ bit_zero (x % 64);
    }

pub tells_on : (l row row' : List ℕ) (i : ℕ) → i < length l → get_or l i 0 < line_unit → Tells (take i l) row → Toggled (get_or l i 0) row row'
    → Tells (take (i + 1) l) row'
tells_on l row row' i h small t f =
    record {
      long = f.long ∙ t.long;
      bits = λ x u.
          f.bits x (omega (arith, t.long)) ∙
          ap (eqb (get_or l i 0) x ⊕◌) (t.bits x u) ∙
          ⊕_comm (eqb (get_or l i 0) x) (sum (λ k. eqb k x) (take i l)) ∙
          ap (sum (λ k. eqb k x) (take i l) ⊕◌) (sym (⊕_false (eqb (get_or l i 0) x))) ∙
          sym (sum_append (λ k. eqb k x) (take i l) (get_or l i 0 ∷ [])) ∙
          ap (sum (λ k. eqb k x)) (sym (take-suc l i 0 h) ∙ ap (λ (n : ℕ). take n l) (sym (add-one i)));
    }
