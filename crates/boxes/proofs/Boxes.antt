-- The list of a box: what the promise of making one says, and that the eight corners are the map of the cells between the ends.
--   values_once                          the values tell the answers apart
--   by_ends, room_for                    the outcome, by the test of the ends; the test of the room
--   made_bad, made_narrow, made_done     the promise, by the tests
--   box_settled                          two outcomes that the promise allows are equal, answer and contents
--   Ends, ends_of                        good ends of one axis
--   between_steps, between_code          the numbers between them: from the low end on and not from the high end on; all codes
--   box_rising, box_permits, box_within  the eight corners rise, and permit the cells of the box, which are within the codes
--   box_one, box_valid                   they are the one list of those cells, and a valid list
use mathlib.Core.Path.{◌≡◌, refl, sym, ◌∙◌, ap, ap₂, subst}
use mathlib.Core.Bool.{Bool, true, false, not, ◌&&◌, ◌||◌, cond, or-true, and-true, false≢true}
use mathlib.Core.List.{List}
use Prim.Native.Nat.{ℕ, ◌≤◌, ◌<◌}
use native.Mathlib.Omega.{arith}
use borrow.Author.Tests.{le-leb, lt-leb}
use lib.Dec.{leb, eqb}
use lib.IntN.{ℤ}
use lib.ListN.{length}
use lib.Signed.{le_z, lt_z}
use Rattle.meaning.specs.Numbers.{corner, lowest, last_code, last_number, is_code}
use Rattle.meaning.specs.declared.Cell.{Cell}
use Rattle.meaning.specs.Lists.{numbers, at_or_below, permitted, below, Rising, most_vertices, Valid}
use Rattle.meaning.specs.OneList.{one_list, WithinCodes}
use Rattle.meaning.specs.Operations.{between, box_cells}
use Rattle.meaning.specs.Outcomes.{Values, Outcome, Nothing, nothing, bad_number, kept, per_vertex, fits, front, placed}
use Rattle.meaning.proofs.Parity.{◌⊕◌, ⊕_false, ⊕_assoc, ⊕_and, and_⊕, odd_count}
use Rattle.meaning.proofs.Integers.{and_left, and_right, and_both, le_z_refl, le_z_trans, lt_z_not, lt_z_le, lt_z_le_z, lt_z_trans, under_number}
use Rattle.meaning.proofs.Outcomes.{placed_fits, placed_short}
use Rattle.meaning.proofs.Maps.{is_one_list, one_valid}
use Rattle.boxes.specs.Box.{low_on, high_on, good_end, good_ends, box_set, eight_corners, box_vertices, Boxed, box_values, box_says, box_outcome, BoxMade}
use Rattle.std.specs.Prelude.{Ok, Err}
use Rattle.boxes.specs.declared.BoxError.TheVariants.{BadEnds, NoRoom}

-- ---- the promise

-- the answer with these values: the number tells
abbrev box_by : Values → Boxed
box_by v = cond (eqb v.number 0) (Ok tt) (Err (cond (eqb v.number 9) BadEnds NoRoom))

values_back : (r : Boxed) → box_by (box_values r) ≡ r
values_back (Ok tt) = refl
values_back (Err BadEnds) = refl
values_back (Err NoRoom) = refl

pub values_once : (r s : Boxed) → box_values r ≡ box_values s → r ≡ s
values_once r s e = sym (values_back r) ∙ ap box_by e ∙ values_back s

module _ (ends : List (List ℤ)) (before : List ℤ) where
  abbrev pub eight_placed : Outcome Nothing (List ℤ)
  eight_placed = placed per_vertex numbers (box_vertices ends) before

  -- the outcome, by what the test of the ends says
  pub by_ends : (t : Bool) → good_ends ends ≡ t → box_outcome ends before ≡ cond t eight_placed (kept nothing before bad_number)
  by_ends t g = ap (λ u. cond u eight_placed (kept nothing before bad_number)) g

  pub room_for : (t : Bool) → leb 24 (length before) ≡ t → fits per_vertex (box_vertices ends) (length before) ≡ t
  unfolding most_vertices
  room_for t e = ap (◌&& true) e ∙ and-true t

  pub made_bad : good_ends ends ≡ false → BoxMade ends before (Err BadEnds) before
  unfolding BoxMade
  made_bad g = sym (by_ends false g)

  module _ (g : good_ends ends ≡ true) where
    pub made_narrow : length before < 24 → BoxMade ends before (Err NoRoom) before
    unfolding BoxMade
    made_narrow h =
        sym (by_ends true g ∙ placed_short per_vertex numbers (box_vertices ends) before (room_for false (lt-leb 24 (length before) h)))

    pub made_done : {after : List ℤ} → 24 ≤ length before → after ≡ front (numbers (box_vertices ends)) before → BoxMade ends before (Ok tt) after
    unfolding BoxMade
    made_done h e =
        ap (box_says (Ok tt)) e ∙
        sym (by_ends true g ∙ placed_fits per_vertex numbers (box_vertices ends) before (room_for true (le-leb 24 (length before) h)))

  pub box_settled : (r s : Boxed) (after last : List ℤ) → BoxMade ends before r after → BoxMade ends before s last → (r ≡ s) × (after ≡ last)
  unfolding BoxMade
  box_settled r s after last f g =
      let same = f ∙ sym g in (values_once r s (ap (λ o. o.values) same), ap (λ o. o.left) same)

-- ---- one axis

pub record Ends (low high : ℤ) : Type 0 where
  pub code : is_code low ≡ true
  pub above : lt_z low high ≡ true
  pub last : le_z high last_number ≡ true

pub ends_of : (low high : ℤ) → good_end low high ≡ true → Ends low high
ends_of low high e =
    let r = and_right (is_code low) (lt_z low high && le_z high last_number) e in
    record {
      code = and_left (is_code low) (lt_z low high && le_z high last_number) e;
      above = and_left (lt_z low high) (le_z high last_number) r;
      last = and_right (lt_z low high) (le_z high last_number) r;
    }

-- exclusive or of two of which the second implies the first
less : (a b : Bool) → (b ≡ true → a ≡ true) → (a ⊕ b) ≡ (a && not b)
less true b f = refl
less false true f = absurd (false≢true (f refl))
less false false f = refl

module _ (low high : ℤ) (e : Ends low high) where
  pub between_steps : (z : ℤ) → (le_z low z ⊕ le_z high z) ≡ between low high z
  between_steps z =
      less (le_z low z) (le_z high z) (λ h. le_z_trans low high z (lt_z_le_z low high e.above) h) ∙
      ap (λ b. le_z low z && b) (sym (lt_z_not z high))

  pub between_code : (z : ℤ) → between low high z ≡ true → is_code z ≡ true
  between_code z h =
      and_both (le_z lowest z) (le_z z last_code)
      (le_z_trans lowest low z (and_left (le_z lowest low) (le_z low last_code) e.code) (and_left (le_z low z) (lt_z z high) h))
      (under_number z (lt_z_le z last_number (lt_z_trans z high last_number (and_right (le_z low z) (lt_z z high) h) e.last)))

-- ---- the eight corners

-- a later number on one axis, with the axes before it the same
focus_later : (a b d x y z : ℤ) → lt_z a x ≡ true → below (corner a b d) (corner x y z) ≡ true
focus_later a b d x y z h = ap (λ t. t || le_z a x && (lt_z b y || le_z b y && lt_z d z)) h

same_then : (a : ℤ) (rest : Bool) → rest ≡ true → (lt_z a a || le_z a a && rest) ≡ true
same_then a rest h = ap₂ (λ t u. lt_z a a || t && u) (le_z_refl a) h ∙ or-true (lt_z a a)

first_later : (a b d y z : ℤ) → lt_z b y ≡ true → below (corner a b d) (corner a y z) ≡ true
first_later a b d y z h = same_then a (lt_z b y || le_z b y && lt_z d z) (ap (λ t. t || le_z b y && lt_z d z) h)

second_later : (a b d z : ℤ) → lt_z d z ≡ true → below (corner a b d) (corner a b z) ≡ true
second_later a b d z h = same_then a (lt_z b b || le_z b b && lt_z d z) (same_then b (lt_z d z) h)

-- the exclusive or of eight products is the product of three
eight : (a a' b b' d d' : Bool) →
    ((a && (b && d)) ⊕ ((a && (b && d')) ⊕ ((a && (b' && d)) ⊕ ((a && (b' && d')) ⊕
    ((a' && (b && d)) ⊕ ((a' && (b && d')) ⊕ ((a' && (b' && d)) ⊕ ((a' && (b' && d')) ⊕ false)))))))) ≡
    ((a ⊕ a') && ((b ⊕ b') && (d ⊕ d')))
eight a a' b b' d d' = simp (⊕_and, and_⊕, ⊕_assoc, ⊕_false)

module _ (a a' b b' d d' : ℤ) (ea : Ends a a') (eb : Ends b b') (ed : Ends d d') where
  eight_rising : Rising (eight_corners a a' b b' d d')
  eight_rising = (
    second_later a b d d' ed.above,
    (
      first_later a b d' b' d eb.above,
      (
        second_later a b' d d' ed.above,
        (
          focus_later a b' d' a' b d ea.above,
          (second_later a' b d d' ed.above, (first_later a' b d' b' d eb.above, (second_later a' b' d d' ed.above, tt))),
        ),
      ),
    ),
  )

  eight_permits : (c : Cell) → permitted (eight_corners a a' b b' d d') c ≡ box_cells a a' b b' d d' c
  eight_permits c =
      odd_count (at_or_below c) (eight_corners a a' b b' d d') ∙
      eight (le_z a c.focus) (le_z a' c.focus) (le_z b c.first) (le_z b' c.first) (le_z d c.second) (le_z d' c.second) ∙
      ap₂ ◌&&◌ (between_steps a a' ea c.focus) (ap₂ ◌&&◌ (between_steps b b' eb c.first) (between_steps d d' ed c.second))

  eight_within : WithinCodes (box_cells a a' b b' d d')
  eight_within c h =
      let x = between a a' c.focus in
      let y = between b b' c.first in
      let z = between d d' c.second in
      let r = and_right x (y && z) h in
      and_both (is_code c.focus) (is_code c.first && is_code c.second) (between_code a a' ea c.focus (and_left x (y && z) h))
      (and_both (is_code c.first) (is_code c.second)
      (between_code b b' eb c.first (and_left y z r))
      (between_code d d' ed c.second (and_right y z r)))

-- ---- of good ends

module _ (ends : List (List ℤ)) (g : good_ends ends ≡ true) where
  abbrev good : ℕ → Bool
  good axis = good_end (low_on ends axis) (high_on ends axis)

  on_focus : Ends (low_on ends 0) (high_on ends 0)
  on_focus = ends_of (low_on ends 0) (high_on ends 0) (and_left (good 0) (good 1 && good 2) g)

  on_first : Ends (low_on ends 1) (high_on ends 1)
  on_first = ends_of (low_on ends 1) (high_on ends 1) (and_left (good 1) (good 2) (and_right (good 0) (good 1 && good 2) g))

  on_second : Ends (low_on ends 2) (high_on ends 2)
  on_second = ends_of (low_on ends 2) (high_on ends 2) (and_right (good 1) (good 2) (and_right (good 0) (good 1 && good 2) g))

  pub box_rising : Rising (box_vertices ends)
  box_rising = eight_rising _ _ _ _ _ _ on_focus on_first on_second

  pub box_permits : (c : Cell) → permitted (box_vertices ends) c ≡ box_set ends c
  box_permits = eight_permits _ _ _ _ _ _ on_focus on_first on_second

  pub box_within : WithinCodes (box_set ends)
  box_within = eight_within _ _ _ _ _ _ on_focus on_first on_second

  pub box_one : box_vertices ends ≡ one_list (box_set ends)
  box_one = is_one_list (box_set ends) box_within (box_vertices ends) box_rising box_permits

  few : length (box_vertices ends) ≤ most_vertices
  unfolding most_vertices
  few = omega arith

  pub box_valid : Valid (box_vertices ends)
  box_valid = subst Valid (sym box_one) (one_valid (box_set ends) box_within (subst (λ l. length l ≤ most_vertices) box_one few))
