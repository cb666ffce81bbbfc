-- The kind of a corner from the mask of its eight cells (document 01, "Kinds of corner"; report, section 2.3).
--   bit_of                   one bit of a mask: the cell at i, j, k
--   Edge, edge              of four cells in a ring: one or three make a two-manifold edge, two that lie diagonally a non-manifold one
--   half_edge, half_edges     the six half-edges, one along each direction; each has four cells round it
--   edges, kind             how many half-edges are of a sort; the kind, 0 to 8
--   extreme                 kinds 1, 3 and 7
use Rattle.std.specs.Prelude.{Bool, true, false, not, ◌&&◌, ◌||◌, cond, List, [], ◌∷◌, ℕ, ◌+◌, ◌*◌, ◌/◌, ◌^◌, eqb}
use Rattle.std.specs.Bool.{beq}
use Rattle.meaning.specs.Numbers.{Axis, focus, first, second}
use Rattle.meaning.specs.Counting.{count, odd}

abbrev pub bit : Bool → ℕ
bit b = cond b 1 0

-- bit 4i + 2j + k
abbrev pub bit_of : ℕ → Bool → Bool → Bool → Bool
bit_of m i j k = odd (m / 2 ^ (4 * bit i + 2 * bit j + bit k))

pub data Edge : Type 0 where
  none manifold non_manifold : Edge

abbrev pub edge : Bool → Bool → Bool → Bool → Edge
edge a b c d =
    cond (odd (bit a + bit b + bit c + bit d)) manifold
    (cond (beq a c && beq b d && not (beq a b)) non_manifold none)

-- the half-edge along an axis, to the low side (false) or the high side (true): the ring of the four cells on that side
abbrev pub half_edge : ℕ → Axis → Bool → Edge
half_edge m focus s = edge (bit_of m s false false) (bit_of m s false true) (bit_of m s true true) (bit_of m s true false)
half_edge m first s = edge (bit_of m false s false) (bit_of m false s true) (bit_of m true s true) (bit_of m true s false)
half_edge m second s = edge (bit_of m false false s) (bit_of m false true s) (bit_of m true true s) (bit_of m true false s)

abbrev pub half_edges : ℕ → List Edge
half_edges m =
    half_edge m focus false ∷
    half_edge m focus true ∷
    half_edge m first false ∷
    half_edge m first true ∷
    half_edge m second false ∷
    half_edge m second true ∷
    []

abbrev pub is_manifold : Edge → Bool
is_manifold none = false
is_manifold manifold = true
is_manifold non_manifold = false

abbrev pub is_non_manifold : Edge → Bool
is_non_manifold none = false
is_non_manifold manifold = false
is_non_manifold non_manifold = true

-- the kind of a corner with so many two-manifold and so many non-manifold edges
abbrev pub kind_by : ℕ → ℕ → ℕ
kind_by two non =
    cond (eqb two 3 && eqb non 0) 1
    (cond (eqb two 4 && eqb non 0) 2
    (cond (eqb two 3 && eqb non 1) 3
    (cond (eqb two 2 && eqb non 2) 4
    (cond (eqb two 4 && eqb non 1) 5
    (cond (eqb two 6 && eqb non 0) 6
    (cond (eqb two 3 && eqb non 3) 7
    (cond (eqb two 0 && eqb non 6) 8 0)))))))

unfoldable pub kind : ℕ → ℕ
kind m = kind_by (count is_manifold (half_edges m)) (count is_non_manifold (half_edges m))

abbrev pub extreme : ℕ → Bool
extreme n = eqb n 1 || (eqb n 3 || eqb n 7)
