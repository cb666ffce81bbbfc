-- The one list of a set over few numbers. Small examples take few numbers, and the list is the same as over all corner numbers.
--   every, rises           tests of numbers: each passes; they rise strictly
--   among, Ends, Holds     a number is among some numbers; a code's two ends are; both ends of every cell of a set are, on each axis
--   occ_over               which corners the list of a set over some numbers has
--   over_same              two rising lists of numbers that hold a set give it the same list
--   few_one                over few numbers that hold a set it is the one list of the set
-- Assumes nothing.
use mathlib.Core.Path.{◌≡◌, refl, sym, ◌∙◌, ap, ap₂, subst}
use mathlib.Core.Logic.{◌⊎◌, inl, inr}
use mathlib.Core.Bool.{Bool, true, false, ◌&&◌, and-false}
use mathlib.Core.List.{List, [], ◌∷◌}
use lib.IntN.{ℤ, suc_ℤ, pred_ℤ, suc-pred}
use lib.Signed.{lt_z}
use Rattle.meaning.specs.Numbers.{Axis, focus, first, second, code_on, number_on, is_number}
use Rattle.meaning.specs.declared.Cell.{Cell}
use Rattle.meaning.specs.declared.Corner.{Corner}
use Rattle.meaning.specs.Counting.{keep, sum, All}
use Rattle.meaning.specs.Lists.{same, beside, cell_by, surrounding, listed}
use Rattle.meaning.specs.OneList.{corner_numbers, pairs_over, corners_over, one_list_over, one_list}
use Rattle.meaning.proofs.Parity.{odd_count, sum_ext, sum_keep, sum_and, sum_some}
use Rattle.meaning.proofs.Integers.{same_sound, and_left, and_right}
use Rattle.meaning.proofs.Space.{Order, Up, occ, unique_occ, up_keep}
use Rattle.meaning.proofs.Line.{line_order, line}
use Rattle.meaning.proofs.Product.{Pairing, both_eq, pair_order, rows, up_rows, sum_rows, sum_product}
use Rattle.meaning.proofs.Solid.{pairs, corners_along}

abbrev pub every : (ℤ → Bool) → List ℤ → Bool
every p [] = true
every p (z ∷ ns) = p z && every p ns

abbrev pub rises : List ℤ → Bool
rises [] = true
rises (z ∷ ns) = every (lt_z z) ns && rises ns

every_all : (p : ℤ → Bool) (ns : List ℤ) → every p ns ≡ true → All (λ z. p z ≡ true) ns
every_all p [] e = tt
every_all p (z ∷ ns) e = (and_left (p z) (every p ns) e, every_all p ns (and_right (p z) (every p ns) e))

rises_up : (ns : List ℤ) → rises ns ≡ true → Up line_order ns
rises_up [] e = tt
rises_up (z ∷ ns) e = (every_all (lt_z z) ns (and_left (every (lt_z z) ns) (rises ns) e), rises_up ns (and_right (every (lt_z z) ns) (rises ns) e))

abbrev pub among : List ℤ → ℤ → Bool
among ns z = sum (same z) ns

-- where the cells of a code begin and end
abbrev pub Ends : List ℤ → ℤ → Type 0
Ends ns k = (among ns k ≡ true) × (among ns (suc_ℤ k) ≡ true)

abbrev pub Holds : List ℤ → (Cell → Bool) → Type 0
Holds ns S = (c : Cell) → S c ≡ true → (axis : Axis) → Ends ns (code_on axis c)

-- ---- the corners of few numbers

abbrev corner_order : Order Corner
corner_order = pair_order line_order (pair_order line_order line_order pairs) (corners_along focus)

module _ {A B P : Type 0} (O : Order A) (O' : Order B) (π : Pairing A B P) where
  -- a pair occurs as its parts do
  occ_rows : (v : P) (l : List A) (m : List B) → occ (pair_order O O' π) v (rows O O' π l m) ≡ (occ O (π.left v) l && occ O' (π.right v) m)
  occ_rows v l m =
      sum_rows O O' π (both_eq O O' π v) l m ∙
      sum_ext _ (λ a. sum (λ b. O.eq (π.left v) a && O'.eq (π.right v) b) m) l
      (λ a. sum_ext _ (λ b. O.eq (π.left v) a && O'.eq (π.right v) b) m
      (λ b. ap₂ (λ x y. O.eq (π.left v) x && O'.eq (π.right v) y) (π.left_mk a b) (π.right_mk a b))) ∙
      sum_product (O.eq (π.left v)) (O'.eq (π.right v)) l m

module _ {Pt : Type 0} (O : Order Pt) (p : Pt → Bool) (v : Pt) where
  -- of what is kept, a vertex occurs if it passes and occurs
  occ_keep : (l : List Pt) → occ O v (keep p l) ≡ (p v && occ O v l)
  occ_keep l = sum_keep (O.eq v) p l ∙ sum_ext (λ x. p x && O.eq v x) (λ x. p v && O.eq v x) l (λ x. at x (O.eq v x) refl) ∙ sum_and (p v) (O.eq v) l
    where
      at : (x : Pt) (t : Bool) → O.eq v x ≡ t → (p x && t) ≡ (p v && t)
      at x true e = ap (λ y. p y && true) (sym (O.eq_sound v x e))
      at x false e = and-false (p x) ∙ sym (and-false (p v))

module _ (ns : List ℤ) where
  up_over : Up line_order ns → (S : Cell → Bool) → Up corner_order (one_list_over ns S)
  up_over up S =
      up_keep corner_order (listed S) (corners_over ns)
      (up_rows line_order (pair_order line_order line_order pairs) (corners_along focus) ns (pairs_over ns) up (up_rows line_order line_order pairs ns ns up up))

  pub occ_over : (S : Cell → Bool) (v : Corner)
      → occ corner_order v (one_list_over ns S) ≡ (listed S v && (among ns v.focus && (among ns v.first && among ns v.second)))
  occ_over S v =
      occ_keep corner_order (listed S) v (corners_over ns) ∙
      ap (listed S v &&◌)
      (occ_rows line_order (pair_order line_order line_order pairs) (corners_along focus) v ns (pairs_over ns) ∙
      ap (among ns v.focus &&◌) (occ_rows line_order line_order pairs (record { one = v.first; two = v.second }) ns ns))

-- ---- the numbers of a listed corner

-- a code of one of the eight cells round a corner is the corner's number, or one less
Near : Corner → Cell → Type 0
Near v c = (axis : Axis) → (code_on axis c ≡ number_on axis v) ⊎ (code_on axis c ≡ pred_ℤ (number_on axis v))

beside_near : (i : Bool) (z : ℤ) → (beside i z ≡ z) ⊎ (beside i z ≡ pred_ℤ z)
beside_near true z = inl refl
beside_near false z = inr refl

near_by : (v : Corner) (i j k : Bool) → Near v (cell_by v i j k)
unfolding Near
near_by v i j k focus = beside_near i v.focus
near_by v i j k first = beside_near j v.first
near_by v i j k second = beside_near k v.second

all_near : (v : Corner) → All (Near v) (surrounding v)
all_near v = (
  near_by v false false false,
  (
    near_by v false false true,
    (
      near_by v false true false,
      (near_by v false true true, (near_by v true false false, (near_by v true false true, (near_by v true true false, (near_by v true true true, tt))))),
    ),
  ),
)

-- the numbers of a listed corner are among those that hold the set
listed_among : (ns : List ℤ) (S : Cell → Bool) → Holds ns S → (v : Corner) → listed S v ≡ true → (axis : Axis) → among ns (number_on axis v) ≡ true
unfolding Near
listed_among ns S h v e axis =
    let (c, near, m) = sum_some (Near v) S (surrounding v) (all_near v) (sym (odd_count S (surrounding v)) ∙ e) in
    by (code_on axis c) (near axis) (h c m axis)
  where
    by : (k : ℤ) → (k ≡ number_on axis v) ⊎ (k ≡ pred_ℤ (number_on axis v)) → Ends ns k → among ns (number_on axis v) ≡ true
    by k (inl q) d = subst (λ z. among ns z ≡ true) q d.0
    by k (inr q) d = ap (among ns) (sym (ap suc_ℤ q ∙ suc-pred (number_on axis v))) ∙ d.1

-- ---- the law

listed_over : (ns : List ℤ) (S : Cell → Bool) → Holds ns S → (v : Corner) → occ corner_order v (one_list_over ns S) ≡ listed S v
listed_over ns S h v = occ_over ns S v ∙ by (listed S v) refl
  where
    by : (t : Bool) → listed S v ≡ t → (t && (among ns v.focus && (among ns v.first && among ns v.second))) ≡ t
    by true e =
        let at = listed_among ns S h v e in
        ap₂ ◌&&◌ (at focus) (ap₂ ◌&&◌ (at first) (at second))
    by false e = refl

pub over_same : (ns ms : List ℤ) → Up line_order ns → Up line_order ms → (S : Cell → Bool) → Holds ns S → Holds ms S → one_list_over ns S ≡ one_list_over ms S
over_same ns ms u w S h k =
    unique_occ corner_order (one_list_over ns S) (one_list_over ms S) (up_over ns u S) (up_over ms w S)
    (λ v. listed_over ns S h v ∙ sym (listed_over ms S k v))

pub few_one : (ns : List ℤ) → rises ns ≡ true → every is_number ns ≡ true → (S : Cell → Bool) → Holds ns S → one_list_over ns S ≡ one_list S
unfolding one_list
few_one ns up all S h =
    over_same ns corner_numbers (rises_up ns up) line.grid_up S h (λ c e axis. (one (code_on axis c) (h c e axis).0, one (suc_ℤ (code_on axis c)) (h c e axis).1))
  where
    -- a number that is among them is a corner number
    one : (z : ℤ) → among ns z ≡ true → among corner_numbers z ≡ true
    one z e =
        let (x, p, q) = sum_some (λ x. is_number x ≡ true) (same z) ns (every_all is_number ns all) e in
        line.grid_once z (ap is_number (same_sound z x q) ∙ p)
