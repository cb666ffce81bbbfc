-- The codes of the nearest cell, axis by axis (document 01, "What can be asked": nearest).
--   HasNumber, Beside      a vertex has a number on an axis; a code is one of the two beside a number that a vertex has there
--   InRange                a code lies in the range of a map's cells on an axis: some vertex has a number not above it, and some one above it
--   permitted_range        the codes of a permitted cell lie in that range
--   nearest_code           on each axis the nearest cell has the wish's own code, or one of the two codes beside a number that a vertex has there
--   nearest_codes          and of a map it has the wish's own code only where that lies in the range of the map's cells
-- The distance goes through the weight of an axis, of which only is used that it is not 0.
-- Assumes nothing.
use mathlib.Core.Path.{◌≡◌, refl, sym, ◌∙◌, ap, ap₂, subst}
use mathlib.Core.Logic.{◌⊎◌, inl, inr}
use mathlib.Core.Bool.{Bool, true, false, not, ◌&&◌, cond, true≢false, false≢true, and-true, and-false}
use mathlib.Core.List.{List, [], ◌∷◌, Memᴰ}
use Prim.Native.Nat.{ℕ, zero, suc, ◌+◌, ◌-◌, ◌*◌, ◌<◌}
use native.Mathlib.Omega.{arith}
use borrow.Author.Tests.{ltb-true, ltb-false}
use lib.Dec.{ltb}
use lib.IntN.{ℤ, pos, negsuc, suc_ℤ, pred_ℤ, pred-suc, sub_ℕ, nat_abs}
use lib.Signed.{le_z, lt_z}
use Rattle.meaning.specs.Numbers.{Axis, focus, first, second, Square, code_on, number_on, square_of, pair_of, across, lowest, last_number, is_number, is_corner}
use Rattle.meaning.specs.declared.Cell.{Cell}
use Rattle.meaning.specs.declared.Corner.{Corner}
use Rattle.meaning.specs.Counting.{◌⊕◌, sum, All}
use Rattle.meaning.specs.Lists.{at_or_below, permitted, Valid}
use Rattle.meaning.specs.Nearest.{gap, weight, distance, Nearest}
use Rattle.meaning.proofs.Parity.{sum_⊕, sum_all, sum_some}
use Rattle.meaning.proofs.Integers.{lt_z_not, lt_z_total, same_sound, line_step, not_yes, and_left, and_right}
use Rattle.meaning.proofs.Space.{all_map}
use Rattle.meaning.proofs.Solid.{plane, permitted_sum, along, code_across, square_across, cell_eta}
use Rattle.meaning.proofs.Maps.{theorem_3_4}

abbrev pub HasNumber : Axis → List Corner → ℤ → Type 0
HasNumber axis l x = (v : Corner) × Memᴰ v l × (number_on axis v ≡ x)

-- the cells of code k begin at number k and end at the next
abbrev pub Beside : Axis → List Corner → ℤ → Type 0
Beside axis l k = HasNumber axis l k ⊎ HasNumber axis l (suc_ℤ k)

pub record InRange (axis : Axis) (l : List Corner) (k : ℤ) : Type 0 where
  pub low : Corner
  pub low_in : Memᴰ low l
  pub from : le_z (number_on axis low) k ≡ true
  pub high : Corner
  pub high_in : Memᴰ high l
  pub below : lt_z k (number_on axis high) ≡ true

-- ---- one step nearer

sub_abs : (a b : ℕ) → nat_abs (sub_ℕ a b) ≡ a - b + (b - a)
sub_abs a b = by (ltb a b) refl
  where
    by : (t : Bool) → ltb a b ≡ t → nat_abs (cond t (negsuc (b - suc a)) (pos (a - b))) ≡ a - b + (b - a)
    by true e = omega (arith, ltb-true a b e)
    by false e = omega (arith, ltb-false a b e)

gap_pos_pos : (a b : ℕ) → gap (pos a) (pos b) ≡ a - b + (b - a)
gap_pos_pos a zero = omega arith
gap_pos_pos a (suc b) = sub_abs a (suc b)

gap_pos_neg : (a b : ℕ) → gap (pos a) (negsuc b) ≡ a + suc b
gap_pos_neg a b = refl

gap_neg_pos : (a b : ℕ) → gap (negsuc a) (pos b) ≡ suc a + b
gap_neg_pos a zero = sub_abs zero (suc a) ∙ omega arith
gap_neg_pos a (suc b) = omega arith

gap_neg_neg : (a b : ℕ) → gap (negsuc a) (negsuc b) ≡ a - b + (b - a)
gap_neg_neg a b = sub_abs (suc b) (suc a) ∙ omega arith

gap_down : (a b : ℤ) → lt_z a b ≡ true → gap a b ≡ suc (gap a (pred_ℤ b))
gap_down (pos a) (pos zero) h = absurd (omega (arith, ltb-true a zero h))
gap_down (pos a) (pos (suc b)) h = omega (arith, ltb-true a (suc b) h, gap_pos_pos a (suc b), gap_pos_pos a b)
gap_down (pos a) (negsuc b) h = absurd (false≢true h)
gap_down (negsuc a) (pos zero) h = omega (arith, gap_neg_pos a zero, gap_neg_neg a zero)
gap_down (negsuc a) (pos (suc b)) h = omega (arith, gap_neg_pos a (suc b), gap_neg_pos a b)
gap_down (negsuc a) (negsuc b) h = omega (arith, ltb-true b a h, gap_neg_neg a b, gap_neg_neg a (suc b))

gap_up : (a b : ℤ) → lt_z b a ≡ true → gap a b ≡ suc (gap a (suc_ℤ b))
gap_up (pos a) (pos b) h = omega (arith, ltb-true b a h, gap_pos_pos a b, gap_pos_pos a (suc b))
gap_up (pos a) (negsuc zero) h = omega (arith, gap_pos_neg a zero, gap_pos_pos a zero)
gap_up (pos a) (negsuc (suc b)) h = omega (arith, gap_pos_neg a (suc b), gap_pos_neg a b)
gap_up (negsuc a) (pos b) h = absurd (false≢true h)
gap_up (negsuc a) (negsuc zero) h = absurd (omega (arith, ltb-true a zero h))
gap_up (negsuc a) (negsuc (suc b)) h = omega (arith, ltb-true a (suc b) h, gap_neg_neg a (suc b), gap_neg_neg a b)

pub weight_some : (axis : Axis) → 0 < weight axis
unfolding weight
weight_some focus = omega arith
weight_some first = omega arith
weight_some second = omega arith

-- the cell with another code on an axis, one step nearer to the wish there, is nearer
nearer : (axis : Axis) (w c : Cell) (k : ℤ) → gap (code_on axis w) (code_on axis c) ≡ suc (gap (code_on axis w) k)
    → distance w (across axis k (square_of axis c)) < distance w c
unfolding distance
nearer focus w c k e = omega (arith, weight_some focus, ap (weight focus *◌) e)
nearer first w c k e = omega (arith, weight_some first, ap (weight first *◌) e)
nearer second w c k e = omega (arith, weight_some second, ap (weight second *◌) e)

-- ---- where a list begins or ends to permit

members : {A : Type 0} (l : List A) → All (λ x. Memᴰ x l) l
members [] = tt
members (x ∷ l) = (Memᴰ.head refl, all_map l (λ y m. Memᴰ.tail m) (members l))

-- between a code at which a cell is permitted and one at which it is not, some vertex is passed
passed : (axis : Axis) (l : List Corner) (j k : ℤ) (s : Square) → permitted l (across axis j s) ≡ true → permitted l (across axis k s) ≡ false
    → (v : Corner) × Memᴰ v l × ((le_z (number_on axis v) j ⊕ le_z (number_on axis v) k) ≡ true)
passed axis l j k s e f =
    let at : ℤ → Corner → Bool = λ i. at_or_below (across axis i s) in
    let differ : sum (λ v. at j v ⊕ at k v) l ≡ true =
    sum_⊕ (at j) (at k) l ∙ ap₂ ◌⊕◌ (sym (permitted_sum l (across axis j s)) ∙ e) (sym (permitted_sum l (across axis k s)) ∙ f) in
    let (v, m, d) = sum_some (λ v. Memᴰ v l) (λ v. at j v ⊕ at k v) l (members l) differ in
    (v, m, same_rest (le_z (number_on axis v) j) (le_z (number_on axis v) k) (plane.fits s (pair_of axis v)) (sym (ap₂ ◌⊕◌ (apart v j) (apart v k)) ∙ d))
  where
    apart : (v : Corner) (i : ℤ) → at_or_below (across axis i s) v ≡ (le_z (number_on axis v) i && plane.fits s (pair_of axis v))
    apart v i =
        along axis (across axis i s) v ∙
        ap₂ (λ x r. le_z (number_on axis v) x && plane.fits r (pair_of axis v)) (code_across axis i s) (square_across axis i s)

    same_rest : (a b r : Bool) → ((a && r) ⊕ (b && r)) ≡ true → (a ⊕ b) ≡ true
    same_rest a b true e = sym (ap₂ ◌⊕◌ (and-true a) (and-true b)) ∙ e
    same_rest a b false e = absurd (true≢false (sym e ∙ ap₂ ◌⊕◌ (and-false a) (and-false b)))

⊕_comm : (a b : Bool) → (a ⊕ b) ≡ (b ⊕ a)
⊕_comm true true = refl
⊕_comm true false = refl
⊕_comm false true = refl
⊕_comm false false = refl

-- ---- the law

module _ (l : List Corner) (w c : Cell) (n : Nearest (permitted l) w c) (axis : Axis) where
  here : permitted l (across axis (code_on axis c) (square_of axis c)) ≡ true
  here = ap (permitted l) (cell_eta axis c) ∙ n.member

  -- the cell one step nearer is not permitted
  not_nearer : (k : ℤ) → gap (code_on axis w) (code_on axis c) ≡ suc (gap (code_on axis w) k) → permitted l (across axis k (square_of axis c)) ≡ false
  not_nearer k e =
      not_yes (permitted l (across axis k (square_of axis c)))
      (λ p. omega (arith, nearer axis w c k e, n.least (across axis k (square_of axis c)) p))

  pub nearest_code : (code_on axis c ≡ code_on axis w) ⊎ Beside axis l (code_on axis c)
  nearest_code = by (lt_z (code_on axis w) (code_on axis c)) refl (lt_z (code_on axis c) (code_on axis w)) refl
    where
      by : (s : Bool) → lt_z (code_on axis w) (code_on axis c) ≡ s → (t : Bool) → lt_z (code_on axis c) (code_on axis w) ≡ t
          → (code_on axis c ≡ code_on axis w) ⊎ Beside axis l (code_on axis c)
      by true e t f =
          let k = code_on axis c in
          let (v, m, d) = passed axis l k (pred_ℤ k) (square_of axis c) here (not_nearer (pred_ℤ k) (gap_down (code_on axis w) k e)) in
          let at = same_sound k (number_on axis v) (sym (line_step (number_on axis v) k) ∙ ⊕_comm (le_z (number_on axis v) (pred_ℤ k)) (le_z (number_on axis v) k) ∙ d) in
          inr (inl (v, m, sym at))
      by false e true f =
          let k = code_on axis c in
          let (v, m, d) = passed axis l k (suc_ℤ k) (square_of axis c) here (not_nearer (suc_ℤ k) (gap_up (code_on axis w) k f)) in
          let at = same_sound (suc_ℤ k) (number_on axis v)
          (sym (line_step (number_on axis v) (suc_ℤ k)) ∙ ap (λ j. le_z (number_on axis v) j ⊕ le_z (number_on axis v) (suc_ℤ k)) (pred-suc k) ∙ d) in
          inr (inr (v, m, sym at))
      by false e false f = inl (lt_z_total (code_on axis c) (code_on axis w) f e)

-- ---- the range of a map's cells

-- some vertex has a number above k on an axis, or all have one not above it
above : (axis : Axis) (k : ℤ) (l : List Corner) → ((v : Corner) × Memᴰ v l × (lt_z k (number_on axis v) ≡ true)) ⊎ All (λ v. le_z (number_on axis v) k ≡ true) l
above axis k [] = inr tt
above axis k (v ∷ l) = by (le_z (number_on axis v) k) refl (above axis k l)
  where
    by : (t : Bool) → le_z (number_on axis v) k ≡ t
        → ((u : Corner) × Memᴰ u l × (lt_z k (number_on axis u) ≡ true)) ⊎ All (λ u. le_z (number_on axis u) k ≡ true) l
        → ((u : Corner) × Memᴰ u (v ∷ l) × (lt_z k (number_on axis u) ≡ true)) ⊎ All (λ u. le_z (number_on axis u) k ≡ true) (v ∷ l)
    by false e r = inl (v, Memᴰ.head refl, lt_z_not k (number_on axis v) ∙ ap not e)
    by true e (inl (u, m, h)) = inl (u, Memᴰ.tail m, h)
    by true e (inr h) = inr (e, h)

pub permitted_range : (l : List Corner) → Valid l → (c : Cell) → permitted l c ≡ true → (axis : Axis) → InRange axis l (code_on axis c)
permitted_range l h c e axis =
    let k = code_on axis c in
    let (v, m, p) = sum_some (λ v. Memᴰ v l) (at_or_below c) l (members l) (sym (permitted_sum l c) ∙ e) in
    let under = and_left (le_z (number_on axis v) k) (plane.fits (square_of axis c) (pair_of axis v)) (sym (along axis c v) ∙ p) in
    by v m under (above axis k l)
  where
    -- past all vertices of an axis nothing is permitted
    none : All (λ v. le_z (number_on axis v) (code_on axis c) ≡ true) l → permitted l c ≡ false
    none all =
        let far = across axis last_number (square_of axis c) in
        permitted_sum l c ∙
        sum_all (at_or_below c) (at_or_below far) l (both l all h.corners) ∙
        sym (permitted_sum l far) ∙
        (theorem_3_4 axis l h.corners).0 (h.even axis) far (ap (le_z last_number) (code_across axis last_number (square_of axis c)))
      where
        last : (axis : Axis) (v : Corner) → is_corner v ≡ true → le_z (number_on axis v) last_number ≡ true
        last focus v p = and_right (le_z lowest v.focus) _ (and_left (is_number v.focus) _ p)
        last first v p = and_right (le_z lowest v.first) _ (and_left (is_number v.first) _ (and_right (is_number v.focus) _ p))
        last second v p = and_right (le_z lowest v.second) _ (and_right (is_number v.first) _ (and_right (is_number v.focus) _ p))

        both : (m : List Corner) → All (λ v. le_z (number_on axis v) (code_on axis c) ≡ true) m → All (λ v. is_corner v ≡ true) m
            → All (λ v. at_or_below c v ≡ at_or_below (across axis last_number (square_of axis c)) v) m
        both [] a q = tt
        both (v ∷ m) a q = (
          along axis c v ∙
              ap (◌&& plane.fits (square_of axis c) (pair_of axis v)) (a.0 ∙ sym (last axis v q.0)) ∙
              sym (along axis (across axis last_number (square_of axis c)) v ∙
              ap₂ (λ x r. le_z (number_on axis v) x && plane.fits r (pair_of axis v)) (code_across axis last_number (square_of axis c)) (square_across axis last_number (square_of axis c))),
          both m a.1 q.1,
        )

    by : (v : Corner) → Memᴰ v l → le_z (number_on axis v) (code_on axis c) ≡ true
        → ((u : Corner) × Memᴰ u l × (lt_z (code_on axis c) (number_on axis u) ≡ true)) ⊎ All (λ u. le_z (number_on axis u) (code_on axis c) ≡ true) l
        → InRange axis l (code_on axis c)
    by v m under (inl (u, o, p)) = record { low = v; low_in = m; from = under; high = u; high_in = o; below = p }
    by v m under (inr all) = absurd (true≢false (sym e ∙ none all))

pub nearest_codes : (l : List Corner) → Valid l → (w c : Cell) → Nearest (permitted l) w c → (axis : Axis)
    → ((code_on axis c ≡ code_on axis w) × InRange axis l (code_on axis w)) ⊎ Beside axis l (code_on axis c)
nearest_codes l h w c n axis = by (nearest_code l w c n axis)
  where
    by : (code_on axis c ≡ code_on axis w) ⊎ Beside axis l (code_on axis c)
        → ((code_on axis c ≡ code_on axis w) × InRange axis l (code_on axis w)) ⊎ Beside axis l (code_on axis c)
    by (inl e) = inl (e, subst (InRange axis l) e (permitted_range l h c n.member axis))
    by (inr b) = inr b
