-- The space of one axis: the corner numbers, and the codes between them.
-- Assumes nothing.
use mathlib.Core.Path.{◌≡◌, refl, sym, ◌∙◌, ap, ap₂, subst}
use mathlib.Core.Bool.{Bool, true, false, not, ◌&&◌, true≢false, and-true, and-false}
use mathlib.Core.List.{List, [], ◌∷◌, ◌++◌, map}
use Prim.Native.Nat.{ℕ, zero, suc, ◌≤◌, ◌<◌, min}
use native.Mathlib.Omega.{arith}
use lib.Dec.{leb}
use lib.IntN.{ℤ, negsuc, pred_ℤ}
use lib.Signed.{le_z, lt_z}
use borrow.Author.Tests.{leb-true, leb-false, le-leb, lt-leb, lt-ltb, le-ltb}
use Rattle.meaning.specs.Numbers.{lowest, is_code, is_number, number, steps}
use Rattle.meaning.specs.Counting.{All, upto}
use Rattle.meaning.specs.Lists.{same}
use Rattle.meaning.specs.OneList.{corner_numbers}
use Rattle.meaning.proofs.Parity.{◌⊕◌, ⊕_false, ⊕_self, ⊕_assoc, ⊕_swap, sum, sum_append, sum_ext, sum_false, sum_map}
use Rattle.meaning.proofs.Integers.{same_refl, same_sound, lt_z_trans, lt_z_le_z, lt_z_le, lt_z_total, line_step, number_le, number_lt, number_same, number_steps, number_pred, number_is_code, number_is_number, under_lowest, not_yes, and_left}
use Rattle.meaning.proofs.Space.{Order, Up, Space, all_append}

abbrev pub line_order : Order ℤ
line_order =
    record {
      eq = same;
      lt = lt_z;
      eq_refl = same_refl;
      eq_sound = same_sound;
      lt_trans = λ u v w h k. lt_z_trans u v w h (lt_z_le_z v w k);
      lt_apart = λ v w h. ap (le_z v w &&◌) (lt_z_le v w h) ∙ and-false (le_z v w);
      lt_total = lt_z_total;
    }

-- ---- sums over 0 .. n

sum_upto : (f : ℕ → Bool) (n : ℕ) → sum f (upto (suc n)) ≡ (sum f (upto n) ⊕ f (suc n))
sum_upto f n = sum_append f (upto n) (suc n ∷ []) ∙ ap (sum f (upto n) ⊕◌) (⊕_false (f (suc n)))

abbrev change : (ℕ → Bool) → ℕ → Bool
change g zero = g zero
change g (suc n) = g n ⊕ g (suc n)

undo : (a b : Bool) → (a ⊕ (a ⊕ b)) ≡ b
undo a b = sym (⊕_assoc a a b) ∙ ap (◌⊕ b) (⊕_self a)

-- the changes of a test up to a add up to the test at a
cut : (g : ℕ → Bool) (a n : ℕ) → sum (λ k. change g k && leb k a) (upto n) ≡ g (min a n)
cut g a zero =
    ⊕_false (g zero && leb zero a) ∙
    ap (g zero &&◌) (le-leb zero a (omega arith)) ∙
    and-true (g zero) ∙
    ap g (omega arith)
cut g a (suc n) = sum_upto (λ k. change g k && leb k a) n ∙ ap (◌⊕ (change g (suc n) && leb (suc n) a)) (cut g a n) ∙ go (leb (suc n) a) refl
  where
    go : (t : Bool) → leb (suc n) a ≡ t → (g (min a n) ⊕ ((g n ⊕ g (suc n)) && t)) ≡ g (min a (suc n))
    go true e =
        let h : suc n ≤ a = leb-true (suc n) a e in
        let p : min a n ≡ n = omega arith in
        let q : min a (suc n) ≡ suc n = omega arith in
        ap₂ ◌⊕◌ (ap g p) (and-true (g n ⊕ g (suc n))) ∙ undo (g n) (g (suc n)) ∙ ap g (sym q)
    go false e =
        let h : a < suc n = leb-false (suc n) a e in
        let p : min a n ≡ min a (suc n) = omega arith in
        ap (g (min a n) ⊕◌) (and-false (g n ⊕ g (suc n))) ∙ ⊕_false (g (min a n)) ∙ ap g p

pub once : (a n : ℕ) → sum (λ k. same (number a) (number k)) (upto n) ≡ leb a n
once a zero = ⊕_false (same (number a) (number zero)) ∙ number_same a zero ∙ ap (leb a zero &&◌) (le-leb zero a (omega arith)) ∙ and-true (leb a zero)
once a (suc n) = sum_upto (λ k. same (number a) (number k)) n ∙ ap₂ ◌⊕◌ (once a n) (number_same a (suc n)) ∙ go (leb a n) refl
  where
    go : (t : Bool) → leb a n ≡ t → (t ⊕ (leb a (suc n) && leb (suc n) a)) ≡ leb a (suc n)
    go true e =
        ap not (ap (leb a (suc n) &&◌) (lt-leb (suc n) a (omega (arith, leb-true a n e))) ∙ and-false (leb a (suc n))) ∙
        sym (le-leb a (suc n) (omega (arith, leb-true a n e)))
    go false e = ap (leb a (suc n) &&◌) (le-leb (suc n) a (leb-false a n e)) ∙ and-true (leb a (suc n))

pub all_upto : (Q : ℕ → Type 0) (n : ℕ) → ((k : ℕ) → k ≤ n → Q k) → All Q (upto n)
all_upto Q zero h = (h zero (omega arith), tt)
all_upto Q (suc n) h = all_append Q (upto n) (suc n ∷ []) (all_upto Q n (λ k l. h k (omega arith))) (h (suc n) (omega arith), tt)

pub all_numbers : (Q : ℤ → Type 0) (l : List ℕ) → All (λ k. Q (number k)) l → All Q (map number l)
all_numbers Q [] h = tt
all_numbers Q (k ∷ l) h = (h.0, all_numbers Q l h.1)

up_numbers : (l : List ℕ) (n : ℕ) → Up line_order (map number l) → All (λ k. k < n) l → Up line_order (map number (l ++ (n ∷ [])))
up_numbers [] n h k = (tt, tt)
up_numbers (i ∷ l) n h k = (higher l h.0, up_numbers l n h.1 k.1)
  where
    higher : (m : List ℕ) → All (λ z. lt_z (number i) z ≡ true) (map number m) → All (λ z. lt_z (number i) z ≡ true) (map number (m ++ (n ∷ [])))
    higher [] r = (number_lt i n ∙ lt-ltb i n k.0, tt)
    higher (j ∷ m) r = (r.0, higher m r.1)

pub up_upto : (n : ℕ) → Up line_order (map number (upto n))
up_upto zero = (tt, tt)
up_upto (suc n) = up_numbers (upto n) (suc n) (up_upto n) (all_upto (λ k. k < suc n) n (λ k h. omega arith))

-- ---- the space

abbrev pub line_diff : (ℤ → Bool) → ℤ → Bool
line_diff S z = S (pred_ℤ z) ⊕ S z

module _ (S : ℤ → Bool) (h : (c : ℤ) → S c ≡ true → is_code c ≡ true) where
  beyond : (n : ℕ) → 1024 ≤ n → S (number n) ≡ false
  beyond n l = not_yes (S (number n)) (λ e. true≢false (sym (h (number n) e) ∙ number_is_code n ∙ le-ltb n 1024 l))

  before : (z : ℤ) → le_z lowest z ≡ false → S z ≡ false
  before z l = not_yes (S z) (λ e. true≢false (sym (and_left (le_z lowest z) _ (h z e)) ∙ l))

  diff_change : (n : ℕ) → line_diff S (number n) ≡ change (λ k. S (number k)) n
  diff_change zero = ap (◌⊕ S lowest) (before (negsuc 512) refl)
  diff_change (suc n) = ap (λ z. S z ⊕ S (number (suc n))) (number_pred n)

  recover_at : (a n : ℕ) → sum (λ z. line_diff S z && le_z z (number a)) (map number (upto n)) ≡ S (number (min a n))
  recover_at a n =
      sum_map (λ z. line_diff S z && le_z z (number a)) number (upto n) ∙
      sum_ext (λ k. line_diff S (number k) && le_z (number k) (number a)) (λ k. change (λ i. S (number i)) k && leb k a) (upto n)
      (λ k. ap₂ ◌&&◌ (diff_change k) (number_le k a)) ∙
      cut (λ k. S (number k)) a n

  recover_low : (c : ℤ) (l : List ℕ) → le_z lowest c ≡ false → sum (λ z. line_diff S z && le_z z c) (map number l) ≡ false
  recover_low c l e =
      sum_map (λ z. line_diff S z && le_z z c) number l ∙
      sum_ext (λ k. line_diff S (number k) && le_z (number k) c) (λ k. false) l (λ k. ap (line_diff S (number k) &&◌) (under_lowest k c e) ∙ and-false (line_diff S (number k))) ∙
      sum_false l

  pub recover_line : (n : ℕ) → n ≡ 1024 → (c : ℤ) → sum (λ z. line_diff S z && le_z z c) (map number (upto n)) ≡ S c
  recover_line n p c = go (le_z lowest c) refl
    where
      clamped : (a : ℕ) → S (number (min a n)) ≡ S (number a)
      clamped a = past (leb a n) refl
        where
          past : (t : Bool) → leb a n ≡ t → S (number (min a n)) ≡ S (number a)
          past true e = let l : a ≤ n = leb-true a n e in let q : min a n ≡ a = omega arith in ap (λ k. S (number k)) q
          past false e =
              let l : n < a = leb-false a n e in
              let q : min a n ≡ n = omega arith in
              ap (λ k. S (number k)) q ∙ beyond n (omega arith) ∙ sym (beyond a (omega arith))

      go : (t : Bool) → le_z lowest c ≡ t → sum (λ z. line_diff S z && le_z z c) (map number (upto n)) ≡ S c
      go true e =
          let q = number_steps c e in
          subst (λ (x : ℤ). sum (λ z. line_diff S z && le_z z x) (map number (upto n)) ≡ S x) q (recover_at (steps c) n ∙ clamped (steps c))
      go false e = recover_low c (upto n) e ∙ sym (before c e)

module _ (ns : List ℤ) (n : ℕ) (are : ns ≡ map number (upto n)) (most : n ≡ 1024) where
  pub once_in : (v : ℤ) → is_number v ≡ true → sum (same v) (map number (upto n)) ≡ true
  once_in v h =
      let q = number_steps v (and_left (le_z lowest v) _ h) in
      let k : steps v ≤ 1024 = leb-true (steps v) 1024 (sym (number_is_number (steps v)) ∙ ap is_number q ∙ h) in
      sum_map (same v) number (upto n) ∙
      ap (λ x. sum (λ i. same x (number i)) (upto n)) (sym q) ∙
      once (steps v) n ∙
      le-leb (steps v) n (omega arith)

  abbrev pub line_over : Space ℤ ℤ
  line_over =
      record {
        order = line_order;
        fits = λ c v. le_z v c;
        diff = line_diff;
        grid = ns;
        inside = is_code;
        proper = is_number;
        diff_⊕ = λ f g v. ⊕_swap (f (pred_ℤ v)) (g (pred_ℤ v)) (f v) (g v);
        diff_false = λ v. refl;
        diff_fits = line_step;
        recover = λ S h c. ap (sum (λ z. line_diff S z && le_z z c)) are ∙ recover_line S h n most c;
        grid_up = subst (Up line_order) (sym are) (up_upto n);
        grid_once = λ v h. ap (sum (same v)) are ∙ once_in v h;
        grid_proper = subst (All (λ v. is_number v ≡ true)) (sym are)
            (all_numbers (λ v. is_number v ≡ true) (upto n) (all_upto (λ k. is_number (number k) ≡ true) n (λ k h. number_is_number k ∙ le-leb k 1024 (omega arith))));
      }

pub are_numbers : corner_numbers ≡ map number (upto 1024)
unfolding corner_numbers
are_numbers = refl

abbrev pub line : Space ℤ ℤ
line = line_over corner_numbers 1024 are_numbers refl
