-- Codes, cells and corners (document 01, "Codes, cells and corners").
--   lowest, last_code, last_number   -512, 511, 512
--   is_code, is_number               -512 to 511; -512 to 512
--   Axis                           focus, first shift, second shift
--   cell, corner                   triples of codes and of corner numbers: two types (Cell and Corner of src/lib.rt), so that they cannot be mixed;
--                                  a cell is the unit cube from code to code + 1 on each axis
--   code_on, number_on               a cell's code and a corner's number on an axis
--   is_cell, is_corner               all three are codes; all three are corner numbers
--   Square, Pair                   what is left of a cell and of a corner when one axis is left out
--   number, steps                  the shift to and from counting from 0: n steps above the lowest number
use Rattle.std.specs.Prelude.{Bool, ◌&&◌, ℕ, ◌+◌, ◌-◌, ℤ, pos, negsuc}
use Rattle.std.proofs.Math.IntN.{sub_ℕ}
use Rattle.std.specs.Int.Signed.{le_z}
use Rattle.meaning.specs.declared.Cell.{Cell}
use Rattle.meaning.specs.declared.Corner.{Corner}

abbrev pub lowest : ℤ
lowest = negsuc 511

abbrev pub last_code : ℤ
last_code = pos 511

abbrev pub last_number : ℤ
last_number = pos 512

abbrev pub is_code : ℤ → Bool
is_code z = le_z lowest z && le_z z last_code

abbrev pub is_number : ℤ → Bool
is_number z = le_z lowest z && le_z z last_number

pub data Axis : Type 0 where
  focus first second : Axis

abbrev pub cell : ℤ → ℤ → ℤ → Cell
cell x y z = record { focus = x; first = y; second = z }

abbrev pub corner : ℤ → ℤ → ℤ → Corner
corner x y z = record { focus = x; first = y; second = z }

abbrev pub code_on : Axis → Cell → ℤ
code_on focus c = c.focus
code_on first c = c.first
code_on second c = c.second

abbrev pub number_on : Axis → Corner → ℤ
number_on focus v = v.focus
number_on first v = v.first
number_on second v = v.second

abbrev pub is_cell : Cell → Bool
is_cell c = is_code c.focus && (is_code c.first && is_code c.second)

abbrev pub is_corner : Corner → Bool
is_corner v = is_number v.focus && (is_number v.first && is_number v.second)

-- the two codes of a cell, and the two numbers of a corner, that are left when an axis is left out, in axis order
pub record Square : Type 0 where
  pub one : ℤ
  pub two : ℤ

pub record Pair : Type 0 where
  pub one : ℤ
  pub two : ℤ

abbrev pub square : ℤ → ℤ → Square
square u w = record { one = u; two = w }

abbrev pub pair : ℤ → ℤ → Pair
pair u w = record { one = u; two = w }

abbrev pub square_of : Axis → Cell → Square
square_of focus c = square c.first c.second
square_of first c = square c.focus c.second
square_of second c = square c.focus c.first

abbrev pub pair_of : Axis → Corner → Pair
pair_of focus v = pair v.first v.second
pair_of first v = pair v.focus v.second
pair_of second v = pair v.focus v.first

-- the cell with code k on the axis and the square's codes on the other two
abbrev pub across : Axis → ℤ → Square → Cell
across focus k s = cell k s.one s.two
across first k s = cell s.one k s.two
across second k s = cell s.one s.two k

-- the corner with number x on the axis and the pair's numbers on the other two
abbrev pub upright : Axis → ℤ → Pair → Corner
upright focus x p = corner x p.one p.two
upright first x p = corner p.one x p.two
upright second x p = corner p.one p.two x

-- where counting goes from 0: the number that lies n above the lowest
abbrev pub number : ℕ → ℤ
number n = sub_ℕ n 512

-- and how far a number lies above the lowest
abbrev pub steps : ℤ → ℕ
steps (pos n) = n + 512
steps (negsuc n) = 511 - n
