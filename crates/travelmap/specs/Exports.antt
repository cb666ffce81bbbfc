-- What each function for C and Rust promises: what the library's function comes to, packed, and the contents of each result at exit.
--   Exported                                              the packed answer, and what the results hold at exit, of an outcome
--   CheckPacked, CellPacked, CornerPacked, PlanePacked    the check and the three questions
--   three_axes, BoxPacked                                  the box, from its six ends
--   JoinPacked, SectionPacked, SplitPacked                the join, the section, the split
--   NearestBy, NearestPacked, DistancePacked              the nearest cell, and how far it is
--   ManyPacked                                            the nearest cells to many wishes
use Rattle.std.specs.Prelude.{◌≡◌, List, [], ◌∷◌, ℕ, ℤ}
use Rattle.meaning.specs.declared.Cell.{Cell}
use Rattle.meaning.specs.declared.Corner.{Corner}
use Rattle.meaning.specs.Outcomes.{Outcome, Nothing}
use Rattle.meaning.specs.Nearest.{IsNearest, nearest_outcome}
use Rattle.meaning.specs.declared.Reached.{Reached}
use Rattle.lists.specs.Check.{check_outcome}
use Rattle.boxes.specs.Box.{box_outcome}
use Rattle.asks.specs.Asks.{cell_outcome, corner_outcome, plane_ends}
use Rattle.joins.specs.Join.{join_outcome}
use Rattle.cuts.specs.Answers.{section_outcome, halves, split_outcome}
use Rattle.wishes.specs.Many.{wishes, EachNearest, many_outcome}
use Rattle.packing.specs.Packed.{packed_values, packed_cell, packed_corner, packed_part, packed_nearest, packed_distance}

-- an answer that gives nothing beside its values
pub record Exported {Left : Type 0} (o : Outcome Nothing Left) (r : ℕ) (after : Left) : Type 0 where
  pub answer : r ≡ packed_values o.values
  pub contents : after ≡ o.left

abbrev pub CheckPacked : List ℤ → ℕ → Type 0
CheckPacked ns r = r ≡ packed_values (check_outcome ns).values

abbrev pub CellPacked : List ℤ → Cell → ℕ → Type 0
CellPacked ns c r = r ≡ packed_cell (cell_outcome ns c)

abbrev pub CornerPacked : List ℤ → Corner → ℕ → Type 0
CornerPacked ns v r = r ≡ packed_corner (corner_outcome ns v)

abbrev pub PlanePacked : List ℤ → ℤ → ℕ → Type 0
PlanePacked ns x r = r ≡ packed_part (plane_ends ns x)

-- the low and the high end of each axis, in axis order
abbrev pub three_axes : ℤ → ℤ → ℤ → ℤ → ℤ → ℤ → List (List ℤ)
three_axes a a' b b' d d' = (a ∷ a' ∷ []) ∷ (b ∷ b' ∷ []) ∷ (d ∷ d' ∷ []) ∷ []

abbrev pub BoxPacked : List (List ℤ) → List ℤ → ℕ → List ℤ → Type 0
BoxPacked ends before r after = Exported (box_outcome ends before) r after

abbrev pub JoinPacked : ℕ → List ℤ → List ℤ → List ℤ → ℕ → List ℤ → Type 0
JoinPacked op a b before r after = Exported (join_outcome op a b before) r after

abbrev pub SectionPacked : List ℤ → ℕ → ℤ → List ℤ → ℕ → List ℤ → Type 0
SectionPacked ns n k before r after = Exported (section_outcome ns n k before) r after

abbrev pub SplitPacked : List ℤ → ℕ → ℤ → List ℤ → List ℤ → ℕ → List ℤ → List ℤ → Type 0
SplitPacked ns n p low high r low' high' = Exported (split_outcome ns n p low high) r (halves low' high')

-- with a cell that is the nearest, if the list is a map that permits any: what nearest comes to, packed
pub record NearestBy (pack : Outcome Reached Nothing → ℕ) (ns : List ℤ) (w : Cell) (r : ℕ) : Type 0 where
  pub at : Cell
  pub nearest : IsNearest ns w at
  pub answer : r ≡ pack (nearest_outcome ns w at)

abbrev pub NearestPacked : List ℤ → Cell → ℕ → Type 0
NearestPacked ns w r = NearestBy packed_nearest ns w r

abbrev pub DistancePacked : List ℤ → Cell → ℕ → Type 0
DistancePacked ns w r = NearestBy packed_distance ns w r

-- with cells that are the nearest to the wishes, if the list is a map that permits any: what the call comes to, packed, and what the result holds
pub record ManyPacked (ns ws before : List ℤ) (r : ℕ) (after : List ℤ) : Type 0 where
  pub cells : List Cell
  pub nearest : EachNearest ns (wishes ws) cells
  pub answer : r ≡ packed_values (many_outcome ns ws cells before).values
  pub contents : after ≡ (many_outcome ns ws cells before).left
