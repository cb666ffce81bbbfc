-- The list of a box (document 01, "What can be asked" and "Why a call comes back").
--   low_on, high_on                        the low and the high end of an axis, by its number
--   good_ends                             low is a code, high is above low and at most the last corner number; on all three axes
--   box_set                               the cells of the box: from the low to below the high end on each axis
--   box_vertices                          the eight corners, in the order of a list
--   Boxed                                 what making a box answers
--   box_values, box_says                   document 01's values of each case of the answer; what an answer and the contents at exit come to
--   box_outcome, BoxMade                  what making a box comes to, and the promise
use Rattle.std.specs.Prelude.{◌≡◌, Bool, ◌&&◌, cond, List, [], ◌∷◌, ℕ, ℤ, pos, get_or, Result, Ok, Err}
use Rattle.std.specs.Int.Signed.{le_z, lt_z}
use Rattle.meaning.specs.Numbers.{corner, is_code, last_number}
use Rattle.meaning.specs.declared.Cell.{Cell}
use Rattle.meaning.specs.declared.Corner.{Corner}
use Rattle.meaning.specs.Lists.{numbers}
use Rattle.meaning.specs.Outcomes.{Values, Outcome, outcome, Nothing, nothing, done, bad_number, no_room, kept, per_vertex, placed}
use Rattle.meaning.specs.Operations.{box_cells}
use Rattle.boxes.specs.declared.BoxError.{BoxError}
use Rattle.boxes.specs.declared.BoxError.TheVariants.{BadEnds, NoRoom}

abbrev pub low_on : List (List ℤ) → ℕ → ℤ
low_on ends a = get_or (get_or ends a []) 0 (pos 0)

abbrev pub high_on : List (List ℤ) → ℕ → ℤ
high_on ends a = get_or (get_or ends a []) 1 (pos 0)

abbrev pub good_end : ℤ → ℤ → Bool
good_end low high = is_code low && (lt_z low high && le_z high last_number)

abbrev pub good_ends : List (List ℤ) → Bool
good_ends ends =
    good_end (low_on ends 0) (high_on ends 0) && (good_end (low_on ends 1) (high_on ends 1) && good_end (low_on ends 2) (high_on ends 2))

abbrev pub box_set : List (List ℤ) → Cell → Bool
box_set ends = box_cells (low_on ends 0) (high_on ends 0) (low_on ends 1) (high_on ends 1) (low_on ends 2) (high_on ends 2)

abbrev pub eight_corners : ℤ → ℤ → ℤ → ℤ → ℤ → ℤ → List Corner
eight_corners a a' b b' d d' =
    corner a b d ∷
    corner a b d' ∷
    corner a b' d ∷
    corner a b' d' ∷
    corner a' b d ∷
    corner a' b d' ∷
    corner a' b' d ∷
    corner a' b' d' ∷
    []

abbrev pub box_vertices : List (List ℤ) → List Corner
box_vertices ends = eight_corners (low_on ends 0) (high_on ends 0) (low_on ends 1) (high_on ends 1) (low_on ends 2) (high_on ends 2)

-- what making a box answers
abbrev pub Boxed : Type 0
Boxed = Result (Unit {0}) BoxError

-- done with eight vertices; bad ends; lack of room
abbrev pub box_values : Boxed → Values
box_values (Ok u) = done 8
box_values (Err BadEnds) = bad_number
box_values (Err NoRoom) = no_room

abbrev pub box_says : Boxed → List ℤ → Outcome Nothing (List ℤ)
box_says r after = outcome (box_values r) nothing after

-- bad ends first; then the eight vertices, where they fit
abbrev pub box_outcome : List (List ℤ) → List ℤ → Outcome Nothing (List ℤ)
box_outcome ends before = cond (good_ends ends) (placed per_vertex numbers (box_vertices ends) before) (kept nothing before bad_number)

unfoldable pub BoxMade : List (List ℤ) → List ℤ → Boxed → List ℤ → Type 0
BoxMade ends before r after = box_says r after ≡ box_outcome ends before
