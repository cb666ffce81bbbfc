-- Lists and sets of cells: what document 01 and the report say of them.
--   lemma_3_8              of a rising list, a corner is in it exactly when an odd number of its eight cells is permitted
--   unique_list            two rising lists that permit the same cells are equal
--   theorem_3_4            the lines along an axis are even exactly when nothing is permitted beyond the last number of that axis
--   valid_within           a valid list permits nothing outside the codes
--   one_permits, one_valid the one list of a set within the codes permits the set, and is valid where it is short enough
--   one_of_valid           a valid list is the one list of what it permits
--   is_one_list            a rising list that permits a set within the codes is its one list
--   empty_iff              a valid list is empty exactly when it permits nothing
-- Assumes nothing.
use mathlib.Core.Path.{◌≡◌, refl, sym, ◌∙◌, ap, subst, fun_ext}
use mathlib.Core.Logic.{◌↔◌}
use mathlib.Core.Bool.{Bool, true, false, ◌&&◌, true≢false}
use mathlib.Core.List.{List, [], ◌∷◌, map, Memᴰ, cons≢nil}
use Prim.Native.Nat.{◌≤◌}
use lib.IntN.{pos}
use lib.Signed.{le_z}
use lib.ListN.{length}
use Rattle.meaning.specs.Numbers.{Axis, focus, first, second, code_on, number_on, square_of, pair_of, across, upright, is_code, is_number, is_cell, is_corner, lowest, last_code, last_number}
use Rattle.meaning.specs.declared.Cell.{Cell}
use Rattle.meaning.specs.declared.Corner.{Corner}
use Rattle.meaning.specs.Counting.{All}
use Rattle.meaning.specs.Lists.{at_or_below, permitted, listed, surrounding, Rising, on_line, odd_line, same_pair, most_vertices, Valid}
use Rattle.meaning.specs.OneList.{one_list, WithinCodes}
use Rattle.meaning.proofs.Parity.{odd_count, sum_all, sum_ext, sum_map, sum_some}
use Rattle.meaning.proofs.Integers.{le_z_trans, under_number, not_yes, and_left, and_right, and_both}
use Rattle.meaning.proofs.Space as Space
use Rattle.meaning.proofs.Space.{all_map, permits, occ, vanish}
use Rattle.meaning.proofs.Solid.{plane, solid, solid_fits, permitted_sum, listed_diff, along, pair_upright, code_across, square_across, rising_up, up_rising, one_list_one_of}

-- what a list permits, in the solid's terms
pub permits_permitted : (l : List Corner) (c : Cell) → permits solid l c ≡ permitted l c
permits_permitted l c = sum_ext (solid.fits c) (at_or_below c) l (solid_fits c) ∙ sym (permitted_sum l c)

listed_permitted : (l : List Corner) (v : Corner) → listed (permitted l) v ≡ solid.diff (permits solid l) v
listed_permitted l v = listed_diff (permitted l) v ∙ Space.diff_ext solid (permitted l) (permits solid l) v (λ c. sym (permits_permitted l c))

pub lemma_3_8 : (l : List Corner) → Rising l → (v : Corner) → (listed (permitted l) v ≡ true) ↔ Memᴰ v l
lemma_3_8 l h v =
    let r = Space.listed_iff solid l (rising_up l h) v in
    (λ e. r.0 (sym (listed_permitted l v) ∙ e), λ m. listed_permitted l v ∙ r.1 m)

pub unique_list : (l m : List Corner) → Rising l → Rising m → ((c : Cell) → permitted l c ≡ permitted m c) → l ≡ m
unique_list l m h k e =
    Space.unique solid l m (rising_up l h) (rising_up m k) (λ c. permits_permitted l c ∙ e c ∙ sym (permits_permitted m c))

-- ---- theorem 3.4

number_proper : (axis : Axis) (v : Corner) → is_corner v ≡ true → is_number (number_on axis v) ≡ true
number_proper focus v h = and_left (is_number v.focus) _ h
number_proper first v h = and_left (is_number v.first) _ (and_right (is_number v.focus) _ h)
number_proper second v h = and_right (is_number v.first) _ (and_right (is_number v.focus) _ h)

pub pair_proper : (axis : Axis) (v : Corner) → is_corner v ≡ true → plane.proper (pair_of axis v) ≡ true
pair_proper focus v h = and_both (is_number v.first) _ (number_proper first v h) (number_proper second v h)
pair_proper first v h = and_both (is_number v.focus) _ (number_proper focus v h) (number_proper second v h)
pair_proper second v h = and_both (is_number v.focus) _ (number_proper focus v h) (number_proper first v h)

all_pairs : (axis : Axis) (l : List Corner) → All (λ v. is_corner v ≡ true) l → All (λ p. plane.proper p ≡ true) (map (pair_of axis) l)
all_pairs axis [] h = tt
all_pairs axis (v ∷ l) h = (pair_proper axis v h.0, all_pairs axis l h.1)

-- beyond the last number of an axis every vertex stands below on that axis
beyond_sum : (axis : Axis) (l : List Corner) → All (λ v. is_corner v ≡ true) l → (c : Cell) → le_z last_number (code_on axis c) ≡ true
    → permitted l c ≡ permits plane (map (pair_of axis) l) (square_of axis c)
beyond_sum axis l h c k =
    permitted_sum l c ∙
    sum_all (at_or_below c) (λ v. plane.fits (square_of axis c) (pair_of axis v)) l
    (all_map l
    (λ v p.
    along axis c v ∙
    ap (◌&& plane.fits (square_of axis c) (pair_of axis v))
    (le_z_trans (number_on axis v) last_number (code_on axis c) (and_right (le_z lowest (number_on axis v)) _ (number_proper axis v p)) k))
    h) ∙
    sym (sum_map (plane.fits (square_of axis c)) (pair_of axis) l)

line_occ : (axis : Axis) (l : List Corner) (v : Corner) → odd_line axis l v ≡ occ plane.order (pair_of axis v) (map (pair_of axis) l)
line_occ axis l v = odd_count (on_line axis v) l ∙ sym (sum_map (same_pair (pair_of axis v)) (pair_of axis) l)

pub theorem_3_4 : (axis : Axis) (l : List Corner) → All (λ v. is_corner v ≡ true) l
    → ((v : Corner) → odd_line axis l v ≡ false) ↔ ((c : Cell) → le_z last_number (code_on axis c) ≡ true → permitted l c ≡ false)
theorem_3_4 axis l h =
    let r = vanish plane (map (pair_of axis) l) (all_pairs axis l h) in (
      λ e c k.
          beyond_sum axis l h c k ∙
          r.0
          (λ p.
          ap (λ q. occ plane.order q (map (pair_of axis) l)) (sym (pair_upright axis (pos 0) p)) ∙
          sym (line_occ axis l (upright axis (pos 0) p)) ∙
          e (upright axis (pos 0) p))
          (square_of axis c),
      λ e v.
          line_occ axis l v ∙
          r.1
          (λ s.
          ap (permits plane (map (pair_of axis) l)) (sym (square_across axis last_number s)) ∙
          sym (beyond_sum axis l h (across axis last_number s) (ap (le_z last_number) (code_across axis last_number s))) ∙
          e (across axis last_number s) (ap (le_z last_number) (code_across axis last_number s)))
          (pair_of axis v),
    )

-- ---- valid lists and sets within the codes are the same thing

code_by : (axis : Axis) (l : List Corner) → All (λ v. is_corner v ≡ true) l → ((v : Corner) → odd_line axis l v ≡ false) → (c : Cell) → permitted l c ≡ true → is_code (code_on axis c) ≡ true
code_by axis l h even c e = and_both (le_z lowest (code_on axis c)) _ low (under_number (code_on axis c) high)
  where
    low : le_z lowest (code_on axis c) ≡ true
    low =
        let (v, p, f) = sum_some (λ v. is_corner v ≡ true) (at_or_below c) l h (sym (permitted_sum l c) ∙ e) in
        le_z_trans lowest (number_on axis v) (code_on axis c)
        (and_left (le_z lowest (number_on axis v)) _ (number_proper axis v p))
        (and_left (le_z (number_on axis v) (code_on axis c)) _ (sym (along axis c v) ∙ f))

    high : le_z last_number (code_on axis c) ≡ false
    high = not_yes (le_z last_number (code_on axis c)) (λ k. true≢false (sym e ∙ (theorem_3_4 axis l h).0 even c k))

pub valid_within : (l : List Corner) → Valid l → WithinCodes (permitted l)
valid_within l h c e =
    and_both (is_code c.focus) _ (code_by focus l h.corners (h.even focus) c e)
    (and_both (is_code c.first) _ (code_by first l h.corners (h.even first) c e)
    (code_by second l h.corners (h.even second) c e))

inside_cell : (S : Cell → Bool) → WithinCodes S → Space.Within solid S
unfolding solid
inside_cell S h = h

pub one_permits : (S : Cell → Bool) → WithinCodes S → (c : Cell) → permitted (one_list S) c ≡ S c
one_permits S h c =
    ap (λ l. permitted l c) (one_list_one_of S) ∙ sym (permits_permitted (Space.one_of solid S) c) ∙ Space.one_permits solid S (inside_cell S h) c

pub one_rising : (S : Cell → Bool) → Rising (one_list S)
one_rising S = subst Rising (sym (one_list_one_of S)) (up_rising (Space.one_of solid S) (Space.one_up solid S))

pub one_corners : (S : Cell → Bool) → All (λ v. is_corner v ≡ true) (one_list S)
unfolding solid
one_corners S = subst (All (λ v. is_corner v ≡ true)) (sym (one_list_one_of S)) (Space.one_proper solid S)

code_on_lem : (axis : Axis) (c : Cell) → is_cell c ≡ true → is_code (code_on axis c) ≡ true
code_on_lem focus c h = and_left (is_code c.focus) _ h
code_on_lem first c h = and_left (is_code c.first) _ (and_right (is_code c.focus) _ h)
code_on_lem second c h = and_right (is_code c.first) _ (and_right (is_code c.focus) _ h)

pub one_even : (S : Cell → Bool) → WithinCodes S → (axis : Axis) (v : Corner) → odd_line axis (one_list S) v ≡ false
one_even S h axis =
    (theorem_3_4 axis (one_list S) (one_corners S)).1
    (λ c k. not_yes (permitted (one_list S) c)
    (λ e. true≢false
    (sym (le_z_trans last_number (code_on axis c) last_code k
    (and_right (le_z lowest (code_on axis c)) _ (code_on_lem axis c (h c (sym (one_permits S h c) ∙ e)))))
    ∙ refl)))

pub one_valid : (S : Cell → Bool) → WithinCodes S → length (one_list S) ≤ most_vertices → Valid (one_list S)
one_valid S h n = record { few = n; corners = one_corners S; rising = one_rising S; even = one_even S h }

-- a rising list that permits a set within the codes is its one list
pub is_one_list : (S : Cell → Bool) → WithinCodes S → (l : List Corner) → Rising l → ((c : Cell) → permitted l c ≡ S c) → l ≡ one_list S
is_one_list S h l u e = unique_list l (one_list S) u (one_rising S) (λ c. e c ∙ sym (one_permits S h c))

pub one_of_valid : (l : List Corner) → Valid l → one_list (permitted l) ≡ l
one_of_valid l h = sym (is_one_list (permitted l) (valid_within l h) l h.rising (λ c. refl))

-- the one list depends on the members of the set alone
pub one_ext : (S R : Cell → Bool) → ((c : Cell) → S c ≡ R c) → one_list S ≡ one_list R
one_ext S R e = ap one_list (fun_ext e)

-- ---- the empty list

-- a listed corner of a rising list touches a permitted cell
pub some_permitted : (v : Corner) (l : List Corner) → Rising (v ∷ l) → (c : Cell) × (permitted (v ∷ l) c ≡ true)
some_permitted v l h =
    let e = (lemma_3_8 (v ∷ l) h v).1 (Memᴰ.head refl) in
    let (c, _, p) = sum_some (λ c. Unit {0}) (permitted (v ∷ l)) (surrounding v) (tt, (tt, (tt, (tt, (tt, (tt, (tt, (tt, tt)))))))) (sym (odd_count (permitted (v ∷ l)) (surrounding v)) ∙ e) in
    (c, p)

-- a rising list is empty exactly when it permits nothing
pub empty_iff : (l : List Corner) → Rising l → (l ≡ []) ↔ ((c : Cell) → permitted l c ≡ false)
empty_iff [] h = (λ e c. refl, λ e. refl)
empty_iff (v ∷ l) h =
    (λ e. absurd (cons≢nil e), λ e. let (c, p) = some_permitted v l h in absurd (true≢false (sym p ∙ e c)))
