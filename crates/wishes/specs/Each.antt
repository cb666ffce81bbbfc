-- Inner: the cells nearest to wishes, put where they belong.
--   wish_from      the wish whose three numbers stand from a place on
--   NearestPut    the three codes of the cell nearest to that wish stand from the same place on, and nothing else is touched
--   Wishable      a map that is not empty, wishes that come in threes, and room for their cells
--   EachPut       the cells nearest to the wishes stand at the front, in their order, and everything behind is untouched
use Rattle.std.specs.Prelude.{◌≡◌, List, ℕ, ◌+◌, ◌%◌, ◌≤◌, ◌<◌, ℤ, pos, length, get_or, set}
use Rattle.meaning.specs.Numbers.{cell}
use Rattle.meaning.specs.declared.Cell.{Cell}
use Rattle.meaning.specs.declared.Corner.{Corner}
use Rattle.meaning.specs.Lists.{vertices, permitted}
use Rattle.meaning.specs.Nearest.{Nearest}
use Rattle.meaning.specs.Outcomes.{per_vertex, front}
use Rattle.wishes.specs.Many.{wishes, cell_numbers, EachNearest}

abbrev pub wish_from : List ℤ → ℕ → Cell
wish_from ws at = cell (get_or ws at (pos 0)) (get_or ws (at + 1) (pos 0)) (get_or ws (at + 2) (pos 0))

pub record NearestPut (l : List Corner) (w : Cell) (at : ℕ) (before after : List ℤ) : Type 0 where
  pub found : Cell
  pub nearest : Nearest (permitted l) w found
  pub is : after ≡ set (set (set before at found.focus) (at + 1) found.first) (at + 2) found.second

pub record Wishable (ns ws before : List ℤ) : Type 0 where
  pub some : 0 < length (vertices ns)
  pub threes : length ws % per_vertex ≡ 0
  pub room : length ws ≤ length before

pub record EachPut (ns ws before after : List ℤ) : Type 0 where
  pub cells : List Cell
  pub nearest : EachNearest ns (wishes ws) cells
  pub is : after ≡ front (cell_numbers cells) before
