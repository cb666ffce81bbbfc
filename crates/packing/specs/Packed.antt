-- How an answer is packed into one number (document 01, "Why a call comes back"; docs/DECISIONS.md, 34), and how it is read back, as
-- include/travelmap.h does.
--   packed                      number in bits 56 to 63, operand 48 to 55, place 32 to 47, second count 16 to 31, count 0 to 15
--   packed_values                what every answer carries
--   packed_cell                  the cell query: beside it yes or no, in bit 0
--   packed_corner                the corner report: beside it the mask in bits 0 to 7, how many in 8 to 15, the kind in 16 to 23
--   packed_part                  the plane query: where the part starts in bits 32 to 63, its length in bits 0 to 31; 0 where it is empty
--   packed_nearest               nearest: beside it the 16 bits of each code, focus in bits 32 to 47, first shift in 16 to 31, second in 0 to 15
--   packed_distance              the distance to the nearest cell: beside it the distance in bits 0 to 31
--   Few                         values whose place and counts are those of lists that are not too long
--   bits, number_in              so many bits of a number, from a place up; the number of an answer
--   Reads, ReadsCounts          what is read from an answer is the number, the operand and the place of these values; and the counts
--   place_in, cell_in             the place and the cell that are read from an answer of nearest
use Rattle.std.specs.Prelude.{◌≡◌, Bool, cond, ℕ, ◌+◌, ◌*◌, ◌-◌, ◌/◌, ◌%◌, ◌^◌, ◌≤◌, ◌<◌, eqb}
use Rattle.meaning.specs.Lists.{most_vertices}
use Rattle.meaning.specs.Numbers.{cell}
use Rattle.meaning.specs.declared.Cell.{Cell}
use Rattle.meaning.specs.Nearest.{nowhere}
use Rattle.meaning.specs.declared.Reached.{Reached}
use Rattle.meaning.specs.Outcomes.{Values, Outcome, Nothing}
use Rattle.meaning.specs.Kinds.{bit}
use Rattle.words.specs.Words.{word, signed}
use Rattle.asks.specs.declared.Report.{Report}
use Rattle.asks.specs.declared.Ends.{Ends}

-- ---- packed

abbrev pub packed : ℕ → ℕ → ℕ → ℕ → ℕ → ℕ
packed number operand place second count = number * 2 ^ 56 + operand * 2 ^ 48 + place * 2 ^ 32 + second * 2 ^ 16 + count

abbrev pub packed_values : Values → ℕ
packed_values v = packed v.number v.operand v.place v.second v.count

abbrev pub packed_cell : Outcome Bool Nothing → ℕ
packed_cell o = packed_values o.values + bit o.given

abbrev pub packed_report : Report → ℕ
packed_report r = r.kind * 2 ^ 16 + r.how_many * 2 ^ 8 + r.mask

abbrev pub packed_corner : Outcome Report Nothing → ℕ
packed_corner o = packed_values o.values + packed_report o.given

abbrev pub packed_part : Ends → ℕ
packed_part e = cond (eqb e.start e.end) 0 (e.start * 2 ^ 32 + (e.end - e.start))

abbrev pub packed_codes : Cell → ℕ
packed_codes c = word c.focus * 2 ^ 32 + word c.first * 2 ^ 16 + word c.second

abbrev pub packed_nearest : Outcome Reached Nothing → ℕ
packed_nearest o = packed_values o.values + packed_codes o.given.at

abbrev pub packed_distance : Outcome Reached Nothing → ℕ
packed_distance o = packed_values o.values + o.given.far

pub record Few (v : Values) : Type 0 where
  pub number : v.number < 2 ^ 8
  pub operand : v.operand < 2 ^ 8
  pub place : v.place ≤ most_vertices
  pub count : v.count ≤ most_vertices
  pub second : v.second ≤ most_vertices

-- ---- read back

abbrev pub bits : ℕ → ℕ → ℕ → ℕ
bits many from x = x / 2 ^ from % 2 ^ many

abbrev pub number_in : ℕ → ℕ
number_in x = bits 8 56 x

-- what every answer carries, after whatever it gives beside
pub record Reads (x : ℕ) (v : Values) : Type 0 where
  pub number : number_in x ≡ v.number
  pub operand : bits 8 48 x ≡ v.operand
  pub place : bits 16 32 x ≡ v.place

pub record ReadsCounts (x : ℕ) (v : Values) : Type 0 where
  pub second : bits 16 16 x ≡ v.second
  pub count : bits 16 0 x ≡ v.count

-- nearest: where a cell is found its focus stands where a refusal has its place
abbrev pub place_in : ℕ → ℕ
place_in x = cond (eqb (number_in x) 0) 0 (bits 16 32 x)

abbrev pub cell_in : ℕ → Cell
cell_in x = cond (eqb (number_in x) 0) (cell (signed (bits 16 32 x)) (signed (bits 16 16 x)) (signed (bits 16 0 x))) nowhere.at
