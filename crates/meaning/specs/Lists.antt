-- What a list of numbers means (document 01, "Codes, cells and corners"; report, sections 3.4 and 3.5, lemma 3.8, theorem 3.4).
--   vertices, numbers      from a list of numbers to its vertices, three numbers each, focus first; and back
--   at_or_below, permitted   a vertex whose three numbers are not above the cell's codes; an odd number of such vertices
--   surrounding            the eight cells round a corner, in the order of the mask's bits: bit 4i + 2j + k is the cell whose codes
--                          are the corner's numbers, less 1 on each axis where i, j, k is 0
--   how_many, listed        how many of the eight are in a set; an odd number of them
--   mask                   the eight memberships as a number
--   below, Rising          the order of a list: focus, then first shift, then second; each vertex above the one before it
--   on_line                 two corners on one line parallel to an axis
--   most_vertices           the most vertices that a list may have
--   Valid                  a travel map
use Rattle.std.specs.Prelude.{◌≡◌, Bool, true, false, ◌&&◌, ◌||◌, cond, List, [], ◌∷◌, map, ℕ, ◌+◌, ◌*◌, ◌≤◌, ℤ, length}
use Rattle.std.proofs.Math.IntN.{pred_ℤ}
use Rattle.std.specs.Int.Signed.{le_z, lt_z}
use Rattle.meaning.specs.Numbers.{Axis, Pair, cell, corner, is_corner, pair_of}
use Rattle.meaning.specs.declared.Cell.{Cell}
use Rattle.meaning.specs.declared.Corner.{Corner}
use Rattle.meaning.specs.Counting.{count, odd, All}

abbrev pub vertices : List ℤ → List Corner
vertices [] = []
vertices (x ∷ []) = []
vertices (x ∷ y ∷ []) = []
vertices (x ∷ y ∷ z ∷ l) = corner x y z ∷ vertices l

abbrev pub numbers : List Corner → List ℤ
numbers [] = []
numbers (v ∷ l) = v.focus ∷ v.first ∷ v.second ∷ numbers l

abbrev pub at_or_below : Cell → Corner → Bool
at_or_below c v = le_z v.focus c.focus && (le_z v.first c.first && le_z v.second c.second)

abbrev pub permitted : List Corner → Cell → Bool
permitted l c = odd (count (at_or_below c) l)

-- the code on the low side of a number (false) and on its high side (true)
abbrev pub beside : Bool → ℤ → ℤ
beside false z = pred_ℤ z
beside true z = z

abbrev pub cell_by : Corner → Bool → Bool → Bool → Cell
cell_by v i j k = cell (beside i v.focus) (beside j v.first) (beside k v.second)

abbrev pub surrounding : Corner → List Cell
surrounding v =
    cell_by v false false false ∷
    cell_by v false false true ∷
    cell_by v false true false ∷
    cell_by v false true true ∷
    cell_by v true false false ∷
    cell_by v true false true ∷
    cell_by v true true false ∷
    cell_by v true true true ∷
    []

abbrev pub how_many : (Cell → Bool) → Corner → ℕ
how_many S v = count S (surrounding v)

abbrev pub listed : (Cell → Bool) → Corner → Bool
listed S v = odd (how_many S v)

-- the number whose bits are these, the lowest first
abbrev pub weigh : List Bool → ℕ
weigh [] = 0
weigh (b ∷ l) = cond b 1 0 + 2 * weigh l

abbrev pub mask : (Cell → Bool) → Corner → ℕ
mask S v = weigh (map S (surrounding v))

-- three numbers before three others: the first decides, then the second, then the third
abbrev pub earlier : ℤ → ℤ → ℤ → ℤ → ℤ → ℤ → Bool
earlier a b d x y z = lt_z a x || le_z a x && (lt_z b y || le_z b y && lt_z d z)

abbrev pub below : Corner → Corner → Bool
below v w = earlier v.focus v.first v.second w.focus w.first w.second

abbrev pub Rising : List Corner → Type 0
Rising [] = Unit {0}
Rising (v ∷ []) = Unit {0}
Rising (v ∷ w ∷ l) = (below v w ≡ true) × Rising (w ∷ l)

abbrev pub same : ℤ → ℤ → Bool
same a b = le_z a b && le_z b a

abbrev pub same_pair : Pair → Pair → Bool
same_pair p q = same p.one q.one && same p.two q.two

abbrev pub on_line : Axis → Corner → Corner → Bool
on_line axis v w = same_pair (pair_of axis v) (pair_of axis w)

abbrev pub odd_line : Axis → List Corner → Corner → Bool
odd_line axis l v = odd (count (on_line axis v) l)

unfoldable pub most_vertices : ℕ
most_vertices = 1024

pub record Valid (l : List Corner) : Type 0 where
  pub few : length l ≤ most_vertices
  pub corners : All (λ v. is_corner v ≡ true) l
  pub rising : Rising l
  pub even : (axis : Axis) (v : Corner) → odd_line axis l v ≡ false
