-- The spaces of the documents: pairs and squares, corners and cells, the latter along any axis. What the definitions say, in the terms
-- of the theory of spaces.
--   plane, solid_along, solid    the spaces
--   permitted_sum, listed_diff  permitted is the sum of at_or_below; listed is the solid's diff
--   along                       at or below, taken apart along any axis
--   rising_up, up_rising        Rising is the solid's Up
-- Assumes nothing.
use mathlib.Core.Path.{◌≡◌, refl, sym, ◌∙◌, ap, ap₂}
use mathlib.Core.Bool.{Bool, true, false, not, ◌&&◌, ◌||◌, cond, and-true}
use mathlib.Core.List.{List, [], ◌∷◌}
use lib.IntN.{ℤ}
use lib.Signed.{le_z, lt_z}
use Rattle.meaning.specs.Numbers.{Axis, focus, first, second, Square, Pair, square, pair, code_on, number_on, square_of, pair_of, across, upright}
use Rattle.meaning.specs.declared.Cell.{Cell}
use Rattle.meaning.specs.declared.Corner.{Corner}
use Rattle.meaning.specs.Counting.{keep}
use Rattle.meaning.specs.Lists.{at_or_below, permitted, surrounding, listed, below, Rising, same}
use Rattle.meaning.specs.OneList.{one_list, one_pairs, listed_pair, around}
use Rattle.meaning.proofs.Parity.{⊕_false, ⊕_assoc, sum, odd_count}
use Rattle.meaning.proofs.Integers.{lt_z_not}
use Rattle.meaning.proofs.Space.{Space, Up, one_of, all_map}
use Rattle.meaning.proofs.Line.{line}
use Rattle.meaning.proofs.Product.{Pairing, product}

abbrev pub pairs : Pairing ℤ ℤ Pair
pairs = record { mk = pair; left = λ p. p.one; right = λ p. p.two; left_mk = λ a b. refl; right_mk = λ a b. refl; mk_eta = λ p. refl }

abbrev pub squares : Pairing ℤ ℤ Square
squares = record { mk = square; left = λ s. s.one; right = λ s. s.two; left_mk = λ a b. refl; right_mk = λ a b. refl; mk_eta = λ s. refl }

abbrev pub plane : Space Pair Square
plane = product line line pairs squares

pub number_upright : (axis : Axis) (x : ℤ) (p : Pair) → number_on axis (upright axis x p) ≡ x
number_upright focus x p = refl
number_upright first x p = refl
number_upright second x p = refl

pub pair_upright : (axis : Axis) (x : ℤ) (p : Pair) → pair_of axis (upright axis x p) ≡ p
pair_upright focus x p = refl
pair_upright first x p = refl
pair_upright second x p = refl

pub corner_eta : (axis : Axis) (v : Corner) → upright axis (number_on axis v) (pair_of axis v) ≡ v
corner_eta focus v = refl
corner_eta first v = refl
corner_eta second v = refl

pub code_across : (axis : Axis) (k : ℤ) (s : Square) → code_on axis (across axis k s) ≡ k
code_across focus k s = refl
code_across first k s = refl
code_across second k s = refl

pub square_across : (axis : Axis) (k : ℤ) (s : Square) → square_of axis (across axis k s) ≡ s
square_across focus k s = refl
square_across first k s = refl
square_across second k s = refl

pub cell_eta : (axis : Axis) (c : Cell) → across axis (code_on axis c) (square_of axis c) ≡ c
cell_eta focus c = refl
cell_eta first c = refl
cell_eta second c = refl

abbrev pub corners_along : Axis → Pairing ℤ Pair Corner
corners_along axis =
    record {
      mk = upright axis;
      left = number_on axis;
      right = pair_of axis;
      left_mk = number_upright axis;
      right_mk = pair_upright axis;
      mk_eta = corner_eta axis;
    }

abbrev pub cells_along : Axis → Pairing ℤ Square Cell
cells_along axis =
    record {
      mk = across axis;
      left = code_on axis;
      right = square_of axis;
      left_mk = code_across axis;
      right_mk = square_across axis;
      mk_eta = cell_eta axis;
    }

unfoldable pub solid : Space Corner Cell
solid = product line plane (corners_along focus) (cells_along focus)

-- ---- what the definitions say in these terms

pub permitted_sum : (l : List Corner) (c : Cell) → permitted l c ≡ sum (at_or_below c) l
permitted_sum l c = odd_count (at_or_below c) l

pub solid_fits : (c : Cell) (v : Corner) → solid.fits c v ≡ at_or_below c v
unfolding solid
solid_fits c v = refl

-- at or below, taken apart along any axis
pub along : (axis : Axis) (c : Cell) (v : Corner) → at_or_below c v ≡ (le_z (number_on axis v) (code_on axis c) && plane.fits (square_of axis c) (pair_of axis v))
along focus c v = refl
along first c v = turn (le_z v.focus c.focus) (le_z v.first c.first) (le_z v.second c.second)
  where
    turn : (x y z : Bool) → (x && (y && z)) ≡ (y && (x && z))
    turn true y z = refl
    turn false true z = refl
    turn false false z = refl
along second c v = turn (le_z v.focus c.focus) (le_z v.first c.first) (le_z v.second c.second)
  where
    turn : (x y z : Bool) → (x && (y && z)) ≡ (z && (x && y))
    turn true true true = refl
    turn true true false = refl
    turn true false true = refl
    turn true false false = refl
    turn false y true = refl
    turn false y false = refl

pub listed_diff : (S : Cell → Bool) (v : Corner) → listed S v ≡ solid.diff S v
unfolding solid
listed_diff S v = odd_count S (surrounding v) ∙ simp (⊕_assoc, ⊕_false)

pub listed_pair_diff : (S : Square → Bool) (p : Pair) → listed_pair S p ≡ plane.diff S p
listed_pair_diff S p = odd_count S (around p) ∙ simp (⊕_assoc, ⊕_false)

-- a number less, or at most and then something, is less, or the same and then something
earlier_same : (a x : ℤ) (r : Bool) → (lt_z a x || le_z a x && r) ≡ (lt_z a x || same a x && r)
earlier_same a x r = go (le_z x a) refl
  where
    go : (t : Bool) → le_z x a ≡ t → (lt_z a x || le_z a x && r) ≡ (lt_z a x || same a x && r)
    go true e = ap (λ b. lt_z a x || b && r) (sym (ap (le_z a x &&◌) e ∙ and-true (le_z a x)))
    go false e = ap (◌|| le_z a x && r) (lt_z_not a x ∙ ap not e) ∙ sym (ap (◌|| same a x && r) (lt_z_not a x ∙ ap not e))

pub below_lt : (v w : Corner) → below v w ≡ solid.order.lt v w
unfolding solid
below_lt v w =
    ap (λ b. lt_z v.focus w.focus || le_z v.focus w.focus && b) (earlier_same v.first w.first (lt_z v.second w.second)) ∙
    earlier_same v.focus w.focus (lt_z v.first w.first || same v.first w.first && lt_z v.second w.second)

pub rising_up : (l : List Corner) → Rising l → Up solid.order l
rising_up [] h = tt
rising_up (v ∷ []) h = (tt, tt)
rising_up (v ∷ w ∷ l) h =
    let r = rising_up (w ∷ l) h.1 in
    let k : solid.order.lt v w ≡ true = sym (below_lt v w) ∙ h.0 in
    ((k, all_map l (λ u e. solid.order.lt_trans v w u k e) r.0), r)

pub up_rising : (l : List Corner) → Up solid.order l → Rising l
up_rising [] h = tt
up_rising (v ∷ []) h = tt
up_rising (v ∷ w ∷ l) h = (below_lt v w ∙ h.0.0, up_rising (w ∷ l) h.1)

pub keep_ext : {A : Type 0} (p q : A → Bool) (l : List A) → ((x : A) → p x ≡ q x) → keep p l ≡ keep q l
keep_ext p q [] h = refl
keep_ext p q (x ∷ l) h = ap₂ (λ b m. cond b (x ∷ m) m) (h x) (keep_ext p q l h)

pub one_list_one_of : (S : Cell → Bool) → one_list S ≡ one_of solid S
unfolding one_list solid
one_list_one_of S = keep_ext (listed S) (solid.diff S) solid.grid (listed_diff S)

pub one_pairs_one_of : (S : Square → Bool) → one_pairs S ≡ one_of plane S
unfolding one_pairs
one_pairs_one_of S = keep_ext (listed_pair S) (plane.diff S) plane.grid (listed_pair_diff S)
