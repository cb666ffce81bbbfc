-- Every claim of every worked example of the table holds: computed. The lists of the sets are taken over few numbers there; that they are the
-- one lists of the sets is shown beside it.
--   examples          the claims of the table
--   few_is_one        the list of a set over the few numbers is its one list, if these hold the set
--   ExamplesCount, vertex_counts    what the table claims of the number of vertices of a set's list holds of its one list
-- Assumes nothing.
use mathlib.Core.Path.{◌≡◌, refl, sym, ◌∙◌, ap}
use mathlib.Core.Bool.{Bool, true, false, ◌&&◌, ◌||◌, false≢true}
use mathlib.Core.List.{List, [], ◌∷◌}
use Prim.Native.Nat.{ℕ, zero, suc}
use native.Mathlib.Omega.{arith}
use borrow.Author.Tests.{ltb-true}
use lib.Dec.{leb}
use lib.IntN.{ℤ, pos, negsuc}
use lib.ListN.{length}
use lib.Signed.{le_z, lt_z}
use Rattle.meaning.specs.Numbers.{Axis, focus, first, second, code_on}
use Rattle.meaning.specs.declared.Cell.{Cell}
use Rattle.meaning.specs.Lists.{most_vertices}
use Rattle.meaning.specs.Verdicts.{verdict}
use Rattle.meaning.specs.OneList.{one_list_over, one_list}
use Rattle.meaning.specs.Operations.{union, overlap, between, box_cells, join}
use Rattle.meaning.specs.Nearest.{weight, distance}
use Rattle.meaning.specs.Kinds.{kind}
use Rattle.meaning.specs.Examples.{Claim, verdict_is, even_lines, odd_lines, permits, forbids, nearest_gets, apart, taken, has, lacks}
use Rattle.meaning.specs.Examples.{vertex_count, unlisted, round, Example, few, diagonal, low_slab, high_slab, true_of, table}
use Rattle.meaning.proofs.Integers.{le_z_trans, lt_z_trans, and_left, and_right, and_both}
use Rattle.meaning.proofs.Few.{Ends, Holds, few_one}

abbrev pub claims_hold : List Claim → Bool
claims_hold [] = true
claims_hold (c ∷ l) = true_of c && claims_hold l

abbrev pub examples_hold : List Example → Bool
examples_hold [] = true
examples_hold (e ∷ l) = claims_hold e.claims && examples_hold l

pub examples : examples_hold table ≡ true
unfolding table true_of verdict most_vertices weight distance kind
examples = refl

-- ---- few numbers are enough

-- what a claim says of the vertices of a set's one list, if it does, and something more
abbrev pub AndCounts : Claim → Type 0 → Type 0
AndCounts (vertex_count S n) more = (length (one_list S) ≡ n) × more
AndCounts (verdict_is ns number place) more = more
AndCounts (even_lines ns axis) more = more
AndCounts (odd_lines ns axis) more = more
AndCounts (permits ns c) more = more
AndCounts (forbids ns c) more = more
AndCounts (nearest_gets ns number) more = more
AndCounts (apart w c n) more = more
AndCounts (taken c d) more = more
AndCounts (has S c) more = more
AndCounts (lacks S c) more = more
AndCounts (unlisted S v) more = more
AndCounts (round S v n k) more = more

abbrev pub ClaimsCount : List Claim → Type 0 → Type 0
ClaimsCount [] more = more
ClaimsCount (c ∷ l) more = AndCounts c (ClaimsCount l more)

-- every claim of some examples on the number of vertices holds of the one list
abbrev pub ExamplesCount : List Example → Type 0
ExamplesCount [] = Unit {0}
ExamplesCount (e ∷ l) = ClaimsCount e.claims (ExamplesCount l)

-- a code from 0 to below 4 begins and ends at one of the few numbers
near : (z : ℤ) → between (pos 0) (pos 4) z ≡ true → Ends few z
unfolding few
near (pos zero) h = (refl, refl)
near (pos (suc zero)) h = (refl, refl)
near (pos (suc (suc zero))) h = (refl, refl)
near (pos (suc (suc (suc zero)))) h = (refl, refl)
near (pos (suc (suc (suc (suc n))))) h = absurd (omega (arith, ltb-true (suc (suc (suc (suc n)))) 4 (and_right (leb 0 (suc (suc (suc (suc n))))) _ h)))
near (negsuc n) h = absurd (false≢true h)

-- the ends of a box lie from 0 to 4
abbrev small : ℤ → ℤ → Bool
small low high = le_z (pos 0) low && le_z high (pos 4)

near_between : (low high z : ℤ) → small low high ≡ true → between low high z ≡ true → Ends few z
near_between low high z s h =
    near z
    (and_both (le_z (pos 0) z) (lt_z z (pos 4))
    (le_z_trans (pos 0) low z (and_left (le_z (pos 0) low) (le_z high (pos 4)) s) (and_left (le_z low z) (lt_z z high) h))
    (lt_z_trans z high (pos 4) (and_right (le_z low z) (lt_z z high) h) (and_right (le_z (pos 0) low) (le_z high (pos 4)) s)))

module _ (a a' b b' d d' : ℤ) (x : small a a' ≡ true) (y : small b b' ≡ true) (z : small d d' ≡ true) where
  box_near : Holds few (box_cells a a' b b' d d')
  box_near c h focus = near_between a a' c.focus x (and_left (between a a' c.focus) _ h)
  box_near c h first = near_between b b' c.first y (and_left (between b b' c.first) _ (and_right (between a a' c.focus) _ h))
  box_near c h second = near_between d d' c.second z (and_right (between b b' c.first) _ (and_right (between a a' c.focus) _ h))

-- of two sets that the few numbers hold, they hold the cells of either
either : (S R : Cell → Bool) → Holds few S → Holds few R → Holds few (λ c. S c || R c)
either S R h k c e = by (S c) refl e
  where
    by : (t : Bool) → S c ≡ t → (t || R c) ≡ true → (axis : Axis) → Ends few (code_on axis c)
    by true p q = h c p
    by false p q = k c q

pub few_is_one : (S : Cell → Bool) → Holds few S → one_list_over few S ≡ one_list S
unfolding few
few_is_one S h = few_one few refl refl S h

diagonal_near : Holds few diagonal
unfolding diagonal
diagonal_near =
    either (box_cells (pos 0) (pos 1) (pos 0) (pos 1) (pos 0) (pos 1)) (box_cells (pos 1) (pos 2) (pos 1) (pos 2) (pos 0) (pos 1))
    (box_near (pos 0) (pos 1) (pos 0) (pos 1) (pos 0) (pos 1) refl refl refl) (box_near (pos 1) (pos 2) (pos 1) (pos 2) (pos 0) (pos 1) refl refl refl)

low_near : Holds few low_slab
unfolding low_slab
low_near = box_near (pos 0) (pos 2) (pos 0) (pos 1) (pos 0) (pos 1) refl refl refl

high_near : Holds few high_slab
unfolding high_slab
high_near = box_near (pos 2) (pos 4) (pos 0) (pos 1) (pos 0) (pos 1) refl refl refl

union_near : Holds few (join union low_slab high_slab)
union_near = either low_slab high_slab low_near high_near

overlap_near : Holds few (join overlap low_slab high_slab)
overlap_near c e = low_near c (and_left (low_slab c) (high_slab c) e)

-- the list over the few numbers is computed
counted : (S : Cell → Bool) (n : ℕ) → Holds few S → length (one_list_over few S) ≡ n → length (one_list S) ≡ n
counted S n h e = ap length (sym (few_is_one S h)) ∙ e

pub vertex_counts : ExamplesCount table
unfolding table few diagonal low_slab high_slab
vertex_counts = (
  counted diagonal 12 diagonal_near refl,
  (counted (join union low_slab high_slab) 8 union_near refl, (counted (join overlap low_slab high_slab) 0 overlap_near refl, tt)),
)
