-- Joins, sections and splits, in terms of vertices (report, theorem 3.3 and sections 4 and 5).
--   permitted_append, by_occurrence   exclusive or of lists is exclusive or of what they permit, and only the parity of a vertex's
--                                     occurrences counts
--   permitted_meets                   overlap: the axis-wise larger of each pair of vertices
--   made, made_permits                each operation by these two
--   join_within                       a join of sets within the codes is within the codes
--   section_below, section_within     a section is what the vertices at or below the cut give on the other two axes
--   upper_raise, lower_rest           the upper half is every vertex raised to the cut, the lower half the rest
--   is_one_pairs                      a rising list of pairs that permits a set of squares within the codes is its one list
-- Assumes nothing.
use mathlib.Core.Path.{◌≡◌, refl, sym, ◌∙◌, ap, ap₂}
use mathlib.Core.Bool.{Bool, true, false, not, ◌&&◌, ◌||◌, cond, and-false, false≢true}
use mathlib.Core.List.{List, ◌++◌, map}
use lib.IntN.{ℤ}
use lib.Signed.{le_z, lt_z}
use Rattle.meaning.specs.Numbers.{Axis, focus, first, second, Square, Pair, corner, code_on, number_on, square_of, pair_of, across, upright, is_code, is_cell, is_corner}
use Rattle.meaning.specs.declared.Cell.{Cell}
use Rattle.meaning.specs.declared.Corner.{Corner}
use Rattle.meaning.specs.Counting.{keep, All}
use Rattle.meaning.specs.Lists.{at_or_below, permitted}
use Rattle.meaning.specs.OneList.{one_pairs, each, WithinCodes, SquaresWithin}
use Rattle.meaning.specs.Operations.{Operation, union, overlap, without, exclusive, holds, join, section_at, lower_half, upper_half}
use Rattle.meaning.proofs.Parity.{◌⊕◌, ⊕_false, ⊕_self, sum, sum_append, sum_ext, sum_map, sum_each, sum_keep, sum_and}
use Rattle.meaning.proofs.Integers.{le_z_trans, le_z_total, lt_z_not, and_left, and_right, and_both}
use Rattle.meaning.proofs.Space as Space
use Rattle.meaning.proofs.Space.{Up, occ, permits, sum_grid}
use Rattle.meaning.proofs.Product.{sum_product}
use Rattle.meaning.proofs.Solid.{plane, solid, along, permitted_sum, pair_upright, number_upright, code_across, square_across, one_pairs_one_of}

-- ---- exclusive or

pub permitted_append : (l m : List Corner) (c : Cell) → permitted (l ++ m) c ≡ (permitted l c ⊕ permitted m c)
permitted_append l m c =
    permitted_sum (l ++ m) c ∙ sum_append (at_or_below c) l m ∙ ap₂ ◌⊕◌ (sym (permitted_sum l c)) (sym (permitted_sum m c))

-- two lists in which every corner occurs alike permit the same
pub by_occurrence : (l m : List Corner) → All (λ v. is_corner v ≡ true) l → All (λ v. is_corner v ≡ true) m → ((v : Corner) → occ solid.order v l ≡ occ solid.order v m) → (c : Cell) → permitted l c ≡ permitted m c
unfolding solid
by_occurrence l m h k e c =
    permitted_sum l c ∙
    sum_grid solid (at_or_below c) l h ∙
    sum_ext (λ v. occ solid.order v l && at_or_below c v) (λ v. occ solid.order v m && at_or_below c v) solid.grid (λ v. ap (◌&& at_or_below c v) (e v)) ∙
    sym (sum_grid solid (at_or_below c) m k) ∙
    sym (permitted_sum m c)

-- ---- overlap

abbrev pub larger : ℤ → ℤ → ℤ
larger a b = cond (le_z a b) b a

pub larger_le : (a b c : ℤ) → le_z (larger a b) c ≡ (le_z a c && le_z b c)
larger_le a b c = go (le_z a b) refl
  where
    go : (t : Bool) → le_z a b ≡ t → le_z (cond t b a) c ≡ (le_z a c && le_z b c)
    go true e = up (le_z b c) refl
      where
        up : (s : Bool) → le_z b c ≡ s → s ≡ (le_z a c && s)
        up true f = sym (ap (◌&& true) (le_z_trans a b c e f))
        up false f = sym (and-false (le_z a c))
    go false e = up (le_z a c) refl
      where
        up : (s : Bool) → le_z a c ≡ s → s ≡ (s && le_z b c)
        up true f = sym (le_z_trans b a c (le_z_total b a e) f)
        up false f = refl

abbrev pub larger_corner : Corner → Corner → Corner
larger_corner v w = corner (larger v.focus w.focus) (larger v.first w.first) (larger v.second w.second)

pub larger_below : (c : Cell) (v w : Corner) → at_or_below c (larger_corner v w) ≡ (at_or_below c v && at_or_below c w)
larger_below c v w =
    ap₂ ◌&&◌ (larger_le v.focus w.focus c.focus)
    (ap₂ ◌&&◌ (larger_le v.first w.first c.first) (larger_le v.second w.second c.second)) ∙
    deal (le_z v.focus c.focus) (le_z w.focus c.focus) (le_z v.first c.first) (le_z w.first c.first) (le_z v.second c.second) (le_z w.second c.second)
  where
    deal : (a x b y d z : Bool) → (a && x && (b && y && (d && z))) ≡ ((a && (b && d)) && (x && (y && z)))
    deal false x b y d z = refl
    deal true false false y d z = refl
    deal true false true y false z = refl
    deal true false true y true z = refl
    deal true true false y d z = refl
    deal true true true false false z = refl
    deal true true true false true z = refl
    deal true true true true d z = refl

abbrev pub meets : List Corner → List Corner → List Corner
meets l m = each (λ v. map (larger_corner v) m) l

pub permitted_meets : (l m : List Corner) (c : Cell) → permitted (meets l m) c ≡ (permitted l c && permitted m c)
permitted_meets l m c =
    permitted_sum (meets l m) c ∙
    sum_each (at_or_below c) (λ v. map (larger_corner v) m) l ∙
    sum_ext (λ v. sum (at_or_below c) (map (larger_corner v) m)) (λ v. sum (λ w. at_or_below c v && at_or_below c w) m) l
    (λ v.
    sum_map (at_or_below c) (larger_corner v) m ∙
    sum_ext (λ w. at_or_below c (larger_corner v w)) (λ w. at_or_below c v && at_or_below c w) m (λ w. larger_below c v w)) ∙
    sum_product (at_or_below c) (at_or_below c) l m ∙
    ap₂ ◌&&◌ (sym (permitted_sum l c)) (sym (permitted_sum m c))

-- ---- the four operations

abbrev pub made : Operation → List Corner → List Corner → List Corner
made union l m = l ++ (m ++ meets l m)
made overlap l m = meets l m
made without l m = l ++ meets l m
made exclusive l m = l ++ m

pub made_permits : (op : Operation) (l m : List Corner) (c : Cell) → permitted (made op l m) c ≡ join op (permitted l) (permitted m) c
made_permits union l m c =
    permitted_append l (m ++ meets l m) c ∙
    ap (permitted l c ⊕◌) (permitted_append m (meets l m) c ∙ ap (permitted m c ⊕◌) (permitted_meets l m c)) ∙
    either (permitted l c) (permitted m c)
  where
    either : (a b : Bool) → (a ⊕ (b ⊕ (a && b))) ≡ (a || b)
    either true true = refl
    either true false = refl
    either false true = refl
    either false false = refl
made_permits overlap l m c = permitted_meets l m c
made_permits without l m c =
    permitted_append l (meets l m) c ∙ ap (permitted l c ⊕◌) (permitted_meets l m c) ∙ less (permitted l c) (permitted m c)
  where
    less : (a b : Bool) → (a ⊕ (a && b)) ≡ (a && not b)
    less true b = refl
    less false b = refl
made_permits exclusive l m c = permitted_append l m c ∙ apart (permitted l c) (permitted m c)
  where
    apart : (a b : Bool) → (a ⊕ b) ≡ (a && not b || not a && b)
    apart true true = refl
    apart true false = refl
    apart false b = refl

-- no operation holds of two cells that are both out
pub holds_out : (op : Operation) → holds op false false ≡ false
holds_out union = refl
holds_out overlap = refl
holds_out without = refl
holds_out exclusive = refl

pub join_within : (op : Operation) (S R : Cell → Bool) → WithinCodes S → WithinCodes R → WithinCodes (join op S R)
join_within op S R h k c e = go (S c) (R c) refl refl e
  where
    go : (a b : Bool) → S c ≡ a → R c ≡ b → holds op a b ≡ true → is_cell c ≡ true
    go true b p q f = h c p
    go false true p q f = k c q
    go false false p q f = absurd (false≢true (sym (holds_out op) ∙ f))

-- ---- sections

pub section_below : (axis : Axis) (k : ℤ) (l : List Corner) (s : Square)
    → section_at axis k (permitted l) s ≡ permits plane (map (pair_of axis) (keep (λ v. le_z (number_on axis v) k) l)) s
section_below axis k l s =
    permitted_sum l (across axis k s) ∙
    sum_ext (at_or_below (across axis k s)) (λ v. le_z (number_on axis v) k && plane.fits s (pair_of axis v)) l
    (λ v.
    along axis (across axis k s) v ∙
    ap₂ (λ x y. le_z (number_on axis v) x && plane.fits y (pair_of axis v)) (code_across axis k s) (square_across axis k s)) ∙
    sym (sum_keep (λ v. plane.fits s (pair_of axis v)) (λ v. le_z (number_on axis v) k) l) ∙
    sym (sum_map (plane.fits s) (pair_of axis) (keep (λ v. le_z (number_on axis v) k) l))

pub section_within : (axis : Axis) (k : ℤ) (S : Cell → Bool) → WithinCodes S → SquaresWithin (section_at axis k S)
section_within focus k S h s e = and_right (is_code k) _ (h (across focus k s) e)
section_within first k S h s e =
    let r = h (across first k s) e in
    and_both (is_code s.one) _ (and_left (is_code s.one) _ r) (and_right (is_code k) _ (and_right (is_code s.one) _ r))
section_within second k S h s e =
    let r = h (across second k s) e in
    and_both (is_code s.one) _ (and_left (is_code s.one) _ r) (and_left (is_code s.two) _ (and_right (is_code s.one) _ r))

pub is_one_pairs : (S : Square → Bool) → SquaresWithin S → (l : List Pair) → Up plane.order l → ((s : Square) → permits plane l s ≡ S s) → l ≡ one_pairs S
is_one_pairs S h l u e = Space.is_one plane S h l u e ∙ sym (one_pairs_one_of S)

-- ---- splits

-- a vertex raised to at least p on an axis
abbrev pub raise : Axis → ℤ → Corner → Corner
raise axis p v = upright axis (larger (number_on axis v) p) (pair_of axis v)

pub upper_raise : (axis : Axis) (p : ℤ) (l : List Corner) (c : Cell) → permitted (map (raise axis p) l) c ≡ upper_half axis p (permitted l) c
upper_raise axis p l c =
    permitted_sum (map (raise axis p) l) c ∙
    sum_map (at_or_below c) (raise axis p) l ∙
    sum_ext (λ v. at_or_below c (raise axis p v)) (λ v. le_z p (code_on axis c) && at_or_below c v) l raised ∙
    sum_and (le_z p (code_on axis c)) (at_or_below c) l ∙
    ap (le_z p (code_on axis c) &&◌) (sym (permitted_sum l c))
  where
    turn : (a b r : Bool) → ((a && b) && r) ≡ (b && (a && r))
    turn true b r = refl
    turn false true r = refl
    turn false false r = refl

    raised : (v : Corner) → at_or_below c (raise axis p v) ≡ (le_z p (code_on axis c) && at_or_below c v)
    raised v =
        along axis c (raise axis p v) ∙
        ap₂ (λ x y. le_z x (code_on axis c) && plane.fits (square_of axis c) y) (number_upright axis (larger (number_on axis v) p) (pair_of axis v)) (pair_upright axis (larger (number_on axis v) p) (pair_of axis v)) ∙
        ap (◌&& plane.fits (square_of axis c) (pair_of axis v)) (larger_le (number_on axis v) p (code_on axis c)) ∙
        turn (le_z (number_on axis v) (code_on axis c)) (le_z p (code_on axis c)) (plane.fits (square_of axis c) (pair_of axis v)) ∙
        ap (le_z p (code_on axis c) &&◌) (sym (along axis c v))

-- the lower half is the whole without the upper half
pub lower_rest : (axis : Axis) (p : ℤ) (S : Cell → Bool) (c : Cell) → lower_half axis p S c ≡ (S c ⊕ upper_half axis p S c)
lower_rest axis p S c = ap (◌&& S c) (lt_z_not (code_on axis c) p) ∙ go (le_z p (code_on axis c)) (S c)
  where
    go : (t s : Bool) → (not t && s) ≡ (s ⊕ (t && s))
    go true s = sym (⊕_self s)
    go false s = sym (⊕_false s)

pub lower_within : (axis : Axis) (p : ℤ) (S : Cell → Bool) → WithinCodes S → WithinCodes (lower_half axis p S)
lower_within axis p S h c e = h c (and_right (lt_z (code_on axis c) p) _ e)

pub upper_within : (axis : Axis) (p : ℤ) (S : Cell → Bool) → WithinCodes S → WithinCodes (upper_half axis p S)
upper_within axis p S h c e = h c (and_right (le_z p (code_on axis c)) _ e)
