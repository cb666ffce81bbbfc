-- Inner: section and split of a list that passed the check, at a number that is given by its steps above the lowest.
--   in_range             an axis' number, and a number after the crossing, from the lowest to a last one
--   section_by_steps      the pairs of the section, placed where they fit
--   split_by_steps        the lists of the two halves, placed where both fit
use Rattle.std.specs.Prelude.{Bool, ◌&&◌, List, ℕ, leb, ℤ}
use Rattle.meaning.specs.Numbers.{number}
use Rattle.meaning.specs.Operations.{pair_numbers}
use Rattle.meaning.specs.Outcomes.{Outcome, Nothing, per_pair, placed}
use Rattle.keys.specs.Parts.{axis_at}
use Rattle.cuts.specs.Answers.{Halves, section_pairs, lower_list, upper_list, placed_halves}

abbrev pub in_range : ℕ → ℕ → ℕ → Bool
in_range n u last = leb n 2 && (leb 32256 u && leb u last)

abbrev pub section_by_steps : List ℤ → ℕ → ℕ → List ℤ → Outcome Nothing (List ℤ)
section_by_steps ns n cut before = placed per_pair pair_numbers (section_pairs (axis_at n) (number cut) ns) before

abbrev pub split_by_steps : List ℤ → ℕ → ℕ → List ℤ → List ℤ → Outcome Nothing Halves
split_by_steps ns n at low high = placed_halves (lower_list (axis_at n) (number at) ns) (upper_list (axis_at n) (number at) ns) low high
