-- Inner: what the parts of the search over planes lend each other.
--   Even         an odd number of keys on no line along the first axis: dropping the high parts leaves no cell
--   Above, Below     the cells just behind the planes from a place up, and below it
--   OneSide      the section at a place, from the keys on one side of it or on the other
use Rattle.std.specs.Prelude.{◌≡◌, ◌⊎◌, false, List, map, ℕ, take, drop}
use Rattle.meaning.specs.Counting.{sum}
use Rattle.rising.specs.Merged.{norm}
use Rattle.rising.specs.Placed.{Front}
use Rattle.ranks.specs.declared.Scales.{Scales}
use Rattle.ranks.specs.Values.{axis_codes}
use Rattle.cells.specs.Cells.{Depth, Turned, high, rest, high_at, section_in, plane_unit}

abbrev pub Even : Depth → List ℕ → Type 0
Even D keys = (t : D.Rest) → sum (λ k. D.test t (rest plane_unit k)) keys ≡ false

abbrev pub OneSide : List ℕ → ℕ → List ℕ → ℕ → Type 0
OneSide keys place room n = Front (norm (map (rest plane_unit) (take place keys))) room n ⊎ Front (norm (map (rest plane_unit) (drop place keys))) room n

abbrev pub Above : Scales → List ℕ → ℕ → ℕ → Type 0
Above scales keys place q = Turned plane_unit scales.focus (section_in scales.first scales.second) keys (high_at (high plane_unit) keys place) axis_codes 0 q

abbrev pub Below : Scales → List ℕ → ℕ → ℕ → Type 0
Below scales keys place q = Turned plane_unit scales.focus (section_in scales.first scales.second) keys 0 (high_at (high plane_unit) keys place) 0 q
