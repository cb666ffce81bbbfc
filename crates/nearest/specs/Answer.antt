-- What nearest answers (document 01, "What can be asked", "Why a call comes back" and demand 3).
--   Found                                   what nearest answers: a cell and its distance, or why there is none
--   found_values, found_reached, found_says    document 01's values of each case of the answer; the cell and the distance that it gives; what it comes to
--   Answered                                the promise, over the list, the wish and the answer
use Rattle.std.specs.Prelude.{◌≡◌, List, ℤ, Result, Ok, Err}
use Rattle.meaning.specs.declared.Cell.{Cell}
use Rattle.meaning.specs.Outcomes.{Values, Outcome, outcome, Nothing, nothing, done, empty_map, refused}
use Rattle.meaning.specs.Nearest.{nowhere, IsNearest, nearest_outcome}
use Rattle.meaning.specs.declared.Reached.{Reached}
use Rattle.nearest.specs.declared.NearestError.{NearestError}
use Rattle.nearest.specs.declared.NearestError.TheVariants.{Empty, Refused}

abbrev pub Found : Type 0
Found = Result Reached NearestError

abbrev pub found_values : Found → Values
found_values (Ok r) = done 0
found_values (Err Empty) = empty_map
found_values (Err (Refused r)) = refused 1 (Err r)

abbrev pub found_reached : Found → Reached
found_reached (Ok r) = r
found_reached (Err e) = nowhere

abbrev pub found_says : Found → Outcome Reached Nothing
found_says r = outcome (found_values r) (found_reached r) nothing

-- a cell that is the nearest, if the list is a map that permits any; and what nearest comes to with it
pub record Answered (ns : List ℤ) (w : Cell) (r : Found) : Type 0 where
  pub at : Cell
  pub nearest : IsNearest ns w at
  pub is : found_says r ≡ nearest_outcome ns w at
