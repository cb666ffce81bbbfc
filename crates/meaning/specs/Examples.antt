-- The worked examples of document 01 that are marked P, at the cells and corners that they name: one table.
--   Claim, true_of    what an example says, and the test of it
--   Example, table    the examples by document 01's numbers
use Rattle.std.specs.Prelude.{Bool, not, ◌&&◌, ◌||◌, List, [], ◌∷◌, ◌++◌, ℕ, ℤ, pos, negsuc, eqb, length}
use Rattle.meaning.specs.Numbers.{Axis, focus, first, second, cell, corner}
use Rattle.meaning.specs.declared.Cell.{Cell}
use Rattle.meaning.specs.declared.Corner.{Corner}
use Rattle.meaning.specs.Counting.{count}
use Rattle.meaning.specs.Lists.{vertices, numbers, permitted, listed, how_many, mask, odd_line}
use Rattle.meaning.specs.Verdicts.{verdict, refusal_number, refusal_place}
use Rattle.meaning.specs.OneList.{one_list_over}
use Rattle.meaning.specs.Operations.{join, union, overlap, box_cells}
use Rattle.meaning.specs.Nearest.{distance, lower, nearest_outcome}
use Rattle.meaning.specs.Kinds.{kind}

pub data Claim : Type 0 where
  -- the verdict on a list has this number and this place
  verdict_is : List ℤ → ℕ → ℕ → Claim
  -- every line along an axis through a vertex of a list holds an even number of its vertices; an odd number
  even_lines odd_lines : List ℤ → Axis → Claim
  -- a list permits a cell, or does not
  permits forbids : List ℤ → Cell → Claim
  -- nearest of a list is refused with this number
  nearest_gets : List ℤ → ℕ → Claim
  -- a cell lies so far from a wish
  apart : Cell → Cell → ℕ → Claim
  -- among equals the first of two cells is taken
  taken : Cell → Cell → Claim
  -- a set has, or has not, a cell
  has lacks : (Cell → Bool) → Cell → Claim
  -- the one list of a set has so many vertices; it does not list a corner
  vertex_count : (Cell → Bool) → ℕ → Claim
  unlisted : (Cell → Bool) → Corner → Claim
  -- round a corner a set has so many cells, and the corner is of this kind
  round : (Cell → Bool) → Corner → ℕ → ℕ → Claim

-- the numbers from -1 to 5, which hold every corner of the sets below: over these the list of each is its one list (`vertex_counts` of
-- proofs/Examples.antt)
unfoldable pub few : List ℤ
few = negsuc 0 ∷ pos 0 ∷ pos 1 ∷ pos 2 ∷ pos 3 ∷ pos 4 ∷ pos 5 ∷ []

origin : Cell
origin = cell (pos 0) (pos 0) (pos 0)

unfoldable pub true_of : Claim → Bool
unfolding few origin
true_of (verdict_is ns number place) = eqb (refusal_number (verdict ns)) number && eqb (refusal_place (verdict ns)) place
true_of (even_lines ns axis) = eqb (count (odd_line axis (vertices ns)) (vertices ns)) 0
true_of (odd_lines ns axis) = eqb (count (odd_line axis (vertices ns)) (vertices ns)) (length (vertices ns))
true_of (permits ns c) = permitted (vertices ns) c
true_of (forbids ns c) = not (permitted (vertices ns) c)
true_of (nearest_gets ns number) = eqb (nearest_outcome ns origin origin).values.number number
true_of (apart w c n) = eqb (distance w c) n
true_of (taken c d) = lower c d && not (lower d c)
true_of (has S c) = S c
true_of (lacks S c) = not (S c)
true_of (vertex_count S n) = eqb (length (one_list_over few S)) n
true_of (unlisted S v) = not (listed S v)
true_of (round S v n k) = eqb (how_many S v) n && eqb (kind (mask S v)) k

pub record Example : Type 0 where
  pub number : ℕ
  pub claims : List Claim

-- ---- the maps

unit_box_less_one : List ℤ
unit_box_less_one =
    numbers
    (corner (pos 0) (pos 0) (pos 0) ∷
    corner (pos 0) (pos 0) (pos 1) ∷
    corner (pos 0) (pos 1) (pos 0) ∷
    corner (pos 0) (pos 1) (pos 1) ∷
    corner (pos 1) (pos 0) (pos 0) ∷
    corner (pos 1) (pos 0) (pos 1) ∷
    corner (pos 1) (pos 1) (pos 0) ∷
    [])

-- the four corners of the unit square of shifts at a focus number
unit_face : ℤ → List Corner
unit_face x = corner x (pos 0) (pos 0) ∷ corner x (pos 0) (pos 1) ∷ corner x (pos 1) (pos 0) ∷ corner x (pos 1) (pos 1) ∷ []

one_face : List ℤ
unfolding unit_face
one_face = numbers (unit_face (pos 0))

whole_range : List ℤ
whole_range =
    numbers
    (corner (negsuc 511) (negsuc 511) (negsuc 511) ∷
    corner (negsuc 511) (negsuc 511) (pos 512) ∷
    corner (negsuc 511) (pos 512) (negsuc 511) ∷
    corner (negsuc 511) (pos 512) (pos 512) ∷
    corner (pos 512) (negsuc 511) (negsuc 511) ∷
    corner (pos 512) (negsuc 511) (pos 512) ∷
    corner (pos 512) (pos 512) (negsuc 511) ∷
    corner (pos 512) (pos 512) (pos 512) ∷
    [])

-- the cells (-1,0,0) and (1,0,0)
two_apart : List ℤ
unfolding unit_face
two_apart =
    numbers (unit_face (negsuc 0) ++ (unit_face (pos 0) ++ (unit_face (pos 1) ++ unit_face (pos 2))))

-- the cells (0,0,0) and (1,1,0)
unfoldable pub diagonal : Cell → Bool
diagonal c = box_cells (pos 0) (pos 1) (pos 0) (pos 1) (pos 0) (pos 1) c || box_cells (pos 1) (pos 2) (pos 1) (pos 2) (pos 0) (pos 1) c

-- focus 0 to 2, and focus 2 to 4, with the same unit shifts
unfoldable pub low_slab : Cell → Bool
low_slab = box_cells (pos 0) (pos 2) (pos 0) (pos 1) (pos 0) (pos 1)

unfoldable pub high_slab : Cell → Bool
high_slab = box_cells (pos 2) (pos 4) (pos 0) (pos 1) (pos 0) (pos 1)

-- the corner (512,512,512) alone, and with a number past the last; a vertex given twice
at_the_end : ℤ → List ℤ
at_the_end x = x ∷ pos 512 ∷ pos 512 ∷ []

given_twice : List ℤ
given_twice = pos 0 ∷ pos 0 ∷ pos 0 ∷ pos 0 ∷ pos 0 ∷ pos 0 ∷ []

unfoldable pub table : List Example
unfolding unit_box_less_one unit_face one_face whole_range two_apart diagonal low_slab high_slab at_the_end given_twice origin
table =
    record { number = 1; claims = verdict_is [] 0 0 ∷ forbids [] origin ∷ nearest_gets [] 7 ∷ [] } ∷
    record { number = 2; claims = verdict_is (pos 0 ∷ pos 0 ∷ pos 0 ∷ []) 5 0 ∷ [] } ∷
    record {
      number = 3;
      claims = verdict_is one_face 5 0 ∷ even_lines one_face first ∷ even_lines one_face second ∷ odd_lines one_face focus ∷ [];
    } ∷
    record { number = 4; claims = verdict_is unit_box_less_one 5 3 ∷ [] } ∷
    record {
      number = 5;
      claims =
          verdict_is whole_range 0 0 ∷
          permits whole_range (cell (negsuc 511) (negsuc 511) (negsuc 511)) ∷
          permits whole_range (cell (pos 511) (pos 511) (pos 511)) ∷
          permits whole_range (cell (pos 511) (pos 0) (pos 0)) ∷
          forbids whole_range (cell (pos 512) (pos 0) (pos 0)) ∷
          apart (cell (pos 512) (pos 0) (pos 0)) (cell (pos 511) (pos 0) (pos 0)) 1 ∷
          permits whole_range (cell (negsuc 511) (pos 0) (pos 0)) ∷
          forbids whole_range (cell (negsuc 512) (pos 0) (pos 0)) ∷
          apart (cell (negsuc 512) (pos 0) (pos 0)) (cell (negsuc 511) (pos 0) (pos 0)) 1 ∷
          [];
    } ∷
    record {
      number = 6;
      claims =
          verdict_is two_apart 0 0 ∷
          permits two_apart (cell (negsuc 0) (pos 0) (pos 0)) ∷
          permits two_apart (cell (pos 1) (pos 0) (pos 0)) ∷
          forbids two_apart origin ∷
          apart origin (cell (negsuc 0) (pos 0) (pos 0)) 1 ∷
          apart origin (cell (pos 1) (pos 0) (pos 0)) 1 ∷
          taken (cell (negsuc 0) (pos 0) (pos 0)) (cell (pos 1) (pos 0) (pos 0)) ∷
          nearest_gets two_apart 0 ∷
          [];
    } ∷
    record {
      number = 7;
      claims =
          apart (cell (pos 32767) (pos 0) (pos 0)) (cell (negsuc 0) (pos 0) (pos 0)) 32768 ∷
          apart (cell (pos 32767) (pos 0) (pos 0)) (cell (pos 1) (pos 0) (pos 0)) 32766 ∷
          [];
    } ∷
    record {
      number = 8;
      claims = vertex_count diagonal 12 ∷ round diagonal (corner (pos 1) (pos 1) (pos 0)) 2 5 ∷ unlisted diagonal (corner (pos 1) (pos 1) (pos 0)) ∷ [];
    } ∷
    record {
      number = 9;
      claims =
          unlisted (join union low_slab high_slab) (corner (pos 2) (pos 0) (pos 0)) ∷
          lacks (join overlap low_slab high_slab) (cell (pos 2) (pos 0) (pos 0)) ∷
          has (join union low_slab high_slab) (cell (pos 2) (pos 0) (pos 0)) ∷
          vertex_count (join union low_slab high_slab) 8 ∷
          vertex_count (join overlap low_slab high_slab) 0 ∷
          [];
    } ∷
    record {
      number = 12;
      claims = verdict_is (at_the_end (pos 512)) 5 0 ∷ verdict_is (at_the_end (pos 513)) 3 0 ∷ verdict_is given_twice 4 1 ∷ [];
    } ∷
    []
