-- Inner: the rank of a cell.
--   rank_of     a cell's distance and codes as one number
--   Ranked     the least rank of the permitted cells
--   LeastRank, RankedFor    the same, and that it fits; for a wish by its steps above -32768
--   code_at     the code that stands at a place of a rank
--   cell_of, found_at    the cell of a rank; the cell and its distance
--   Keyed      the keys of a map that is not empty
--   Located    the same, and from where to where the map lies on the three axes
--   Wished     a wish by its steps above -32768
--   few_vertices    the most vertices for which small rooms do
--   Rooms      the rooms of the search are long enough for so many keys
use Rattle.std.specs.Prelude.{◌≡◌, true, List, map, ℕ, ◌+◌, ◌*◌, ◌/◌, ◌%◌, ◌^◌, ◌≤◌, ◌<◌, ℤ, length}
use Rattle.meaning.specs.Numbers.{focus, first, second, cell, number}
use Rattle.meaning.specs.declared.Cell.{Cell}
use Rattle.meaning.specs.declared.Corner.{Corner}
use Rattle.meaning.specs.declared.Reached.{Reached}
use Rattle.meaning.specs.Lists.{permitted, Valid}
use Rattle.meaning.specs.Nearest.{distance, reached}
use Rattle.codes.specs.Keys.{key_of, of_key}
use Rattle.codes.specs.Lift.{lowered}
use Rattle.ranks.specs.Values.{axis_codes}
use Rattle.ranks.specs.Extents.{Extends}
use Rattle.nearest.specs.declared.Extents.{Extents}

-- the distance, then focus, first shift and second shift, as one number
abbrev pub rank_of : Cell → ℕ → ℕ → ℕ → ℕ
rank_of w a b d = distance w (cell (number a) (number b) (number d)) * 1073741824 + (a * 1048576 + b * 1024 + d)

-- the least rank of the permitted cells
pub record Ranked (l : List Corner) (w : Cell) (r : ℕ) : Type 0 where
  pub focus_code : ℕ
  pub first_code : ℕ
  pub second_code : ℕ
  pub codes : (focus_code < axis_codes) × (first_code < axis_codes) × (second_code < axis_codes)
  pub member : permitted l (cell (number focus_code) (number first_code) (number second_code)) ≡ true
  pub is : r ≡ rank_of w focus_code first_code second_code
  pub least : (a b d : ℕ) → (a < axis_codes) × (b < axis_codes) × (d < axis_codes)
      → permitted l (cell (number a) (number b) (number d)) ≡ true → r ≤ rank_of w a b d

abbrev pub LeastRank : List Corner → Cell → ℕ → Type 0
LeastRank l w r = Ranked l w r × (r < 2 ^ 62)

abbrev pub RankedFor : List Corner → ℕ → ℕ → ℕ → ℕ → Type 0
RankedFor l focus' first' second' r = LeastRank l (cell (lowered focus') (lowered first') (lowered second')) r

abbrev pub code_at : ℕ → ℕ → ℤ
code_at r place = number (r / place % axis_codes)

abbrev pub cell_of : ℕ → Cell
cell_of r = cell (code_at r 1048576) (code_at r 1024) (code_at r 1)

abbrev pub found_at : ℕ → Reached
found_at r = reached (cell_of r) (r / 1073741824)

-- each number of a wish is so many steps above -32768
abbrev pub Wished : ℕ → ℕ → ℕ → Type 0
Wished focus' first' second' = (focus' < 65536) × (first' < 65536) × (second' < 65536)

pub record Keyed (keys : List ℕ) : Type 0 where
  pub valid : Valid (map of_key keys)
  pub some : 0 < length (map of_key keys)
  pub back : keys ≡ map key_of (map of_key keys)

pub record Located (keys : List ℕ) (r : Extents) : Type 0 where
  pub keyed : Keyed keys
  pub on_focus : Extends focus keys r.focus
  pub on_first : Extends first keys r.first
  pub on_second : Extends second keys r.second

pub record Rooms (n : ℕ) (keys room work : List ℕ) : Type 0 where
  pub keys_fit : n ≤ length keys
  pub room_fits : n ≤ length room
  pub work_fits : n ≤ length work

abbrev pub few_vertices : ℕ
few_vertices = 32
