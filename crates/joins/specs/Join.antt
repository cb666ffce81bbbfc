-- The promise of a join (document 01, "What can be asked", "Why a call comes back"). It names no engine.
--   Joining                 what a join answers
--   join_values, join_says   document 01's values of each case of the answer; what an answer and the contents at exit come to
--   join_outcome            8; then 1 to 5 of the first list, then of the second; then 6, or done: the one list stands at the front of the result
--   JoinMade               the promise
use Rattle.std.specs.Prelude.{◌≡◌, List, ℕ, ℤ, Result, Ok, Err}
use Rattle.meaning.specs.Lists.{numbers}
use Rattle.meaning.specs.Operations.{Operation, operation, joined_list}
use Rattle.meaning.specs.Verdicts.{verdict}
use Rattle.meaning.specs.Outcomes.{Values, Outcome, outcome, Nothing, nothing, done, refused, bad_operation, no_room, kept, named, checked, per_vertex, placed}
use Rattle.joins.specs.declared.JoinError.{JoinError}
use Rattle.joins.specs.declared.JoinError.TheVariants.{BadOperation, FirstRefused, SecondRefused, NoRoom}

-- what a join answers: how many vertices the list at the front of the result has, or why there is none
abbrev pub Joining : Type 0
Joining = Result ℕ JoinError

abbrev pub join_values : Joining → Values
join_values (Ok n) = done n
join_values (Err BadOperation) = bad_operation
join_values (Err (FirstRefused r)) = refused 1 (Err r)
join_values (Err (SecondRefused r)) = refused 2 (Err r)
join_values (Err NoRoom) = no_room

abbrev pub join_says : Joining → List ℤ → Outcome Nothing (List ℤ)
join_says r after = outcome (join_values r) nothing after

-- by an operation that is one of the four
abbrev pub joined_by : List ℤ → List ℤ → List ℤ → Operation → Outcome Nothing (List ℤ)
joined_by a b before o =
    checked 1 (verdict a) (kept nothing before)
    (checked 2 (verdict b) (kept nothing before) (placed per_vertex numbers (joined_list o a b) before))

abbrev pub join_outcome : ℕ → List ℤ → List ℤ → List ℤ → Outcome Nothing (List ℤ)
join_outcome op a b before = named (operation op) (kept nothing before bad_operation) (joined_by a b before)

unfoldable pub JoinMade : ℕ → List ℤ → List ℤ → List ℤ → Joining → List ℤ → Type 0
JoinMade op a b before r after = join_says r after ≡ join_outcome op a b before
