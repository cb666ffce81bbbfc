-- What the questions about one map promise (document 01, "What can be asked" and "Why a call comes back").
--   cell_values, cell_yes, cell_says    document 01's values of each answer of the cell query, and its yes or no; what an answer comes to
--   cell_outcome, CellPromise      what the cell query comes to: yes or no; for a list that is not valid its refusal, and no; and its promise
--   Report, report_on, corner_says  the mask of the cells round a corner, how many they are, and the kind; what an answer of the corner report comes to
--   corner_outcome, CornerPromise  what the corner report comes to; 0 in all three for a list that is not valid; and its promise
--   on_plane, plane_numbers         the numbers of the vertices with a focus number; none for a list that is not valid
--   of_valid                       0 for a list that is not valid
--   before_plane, through_plane, plane_ends, EndsPromise    where they stand in the list: from all numbers of the vertices with a lower focus number
--                                 to those of the vertices with a focus number that is not higher; from 0 to 0 for a list that is not valid
--   Pointer, number_bytes, behind  where a slice lies, as its reference has it; how many bytes a number takes; so many numbers behind, in the same object
--   Part, plane_says               what a slice holds and where it lies; the part that is handed back
--   plane_outcome, PlanePromise    what the plane query comes to: those numbers, at their place in the caller's own list, an empty part too; and its promise
use Rattle.std.specs.Prelude.{◌≡◌, Bool, false, cond, List, [], ℕ, ◌+◌, ◌*◌, ℤ, Result, Ok, Err}
use Rattle.std.specs.Int.Signed.{le_z, lt_z}
use Rattle.meaning.specs.declared.Cell.{Cell}
use Rattle.meaning.specs.declared.Corner.{Corner}
use Rattle.meaning.specs.Counting.{count, keep}
use Rattle.meaning.specs.Lists.{vertices, numbers, permitted, how_many, mask, same}
use Rattle.meaning.specs.Verdicts.{verdict, passes}
use Rattle.meaning.specs.Kinds.{kind}
use Rattle.meaning.specs.Outcomes.{Values, Outcome, outcome, Nothing, nothing, done, refused, kept, checked}
use Rattle.meaning.specs.declared.Refusal.{Refusal}
use Rattle.asks.specs.declared.Report.{Report}
use Rattle.asks.specs.declared.Ends.{Ends}

-- ---- is this cell permitted

-- the one list is operand 1
abbrev pub cell_values : Result Bool Refusal → Values
cell_values (Ok b) = done 0
cell_values (Err r) = refused 1 (Err r)

abbrev pub cell_yes : Result Bool Refusal → Bool
cell_yes (Ok b) = b
cell_yes (Err r) = false

abbrev pub cell_says : Result Bool Refusal → Outcome Bool Nothing
cell_says r = outcome (cell_values r) (cell_yes r) nothing

abbrev pub cell_outcome : List ℤ → Cell → Outcome Bool Nothing
cell_outcome ns c = checked 1 (verdict ns) (kept false nothing) (outcome (done 0) (permitted (vertices ns) c) nothing)

unfoldable pub CellPromise : List ℤ → Cell → Result Bool Refusal → Type 0
CellPromise ns c r = cell_says r ≡ cell_outcome ns c

-- ---- the corner report

abbrev pub report : ℕ → ℕ → ℕ → Report
report mask how_many kind = record { mask = mask; how_many = how_many; kind = kind }

abbrev pub corner_says : Result Report Refusal → Outcome Report Nothing
corner_says (Ok o) = outcome (done 0) o nothing
corner_says (Err r) = outcome (refused 1 (Err r)) (report 0 0 0) nothing

-- of the cells of a set round a corner
abbrev pub report_on : (Cell → Bool) → Corner → Report
report_on S v = report (mask S v) (how_many S v) (kind (mask S v))

abbrev pub corner_outcome : List ℤ → Corner → Outcome Report Nothing
corner_outcome ns v = checked 1 (verdict ns) (kept (report 0 0 0) nothing) (outcome (done 0) (report_on (permitted (vertices ns)) v) nothing)

unfoldable pub CornerPromise : List ℤ → Corner → Result Report Refusal → Type 0
CornerPromise ns v r = corner_says r ≡ corner_outcome ns v

-- ---- planes

abbrev pub of_valid : List ℤ → ℕ → ℕ
of_valid ns n = cond (passes (verdict ns)) n 0

abbrev pub on_plane : ℤ → Corner → Bool
on_plane x v = same v.focus x

abbrev pub plane_numbers : List ℤ → ℤ → List ℤ
plane_numbers ns x = cond (passes (verdict ns)) (numbers (keep (on_plane x) (vertices ns))) []

abbrev pub before_plane : ℤ → Corner → Bool
before_plane x v = lt_z v.focus x

abbrev pub through_plane : ℤ → Corner → Bool
through_plane x v = le_z v.focus x

abbrev pub plane_ends : List ℤ → ℤ → Ends
plane_ends ns x = record {
  start = of_valid ns (3 * count (before_plane x) (vertices ns));
  end = of_valid ns (3 * count (through_plane x) (vertices ns));
}

pub record EndsPromise (ns : List ℤ) (x : ℤ) (r : Ends) : Type 0 where
  pub answer : r ≡ plane_ends ns x

-- the object, and how many bytes behind its start
abbrev pub Pointer : Type 0
Pointer = ℕ × ℕ

-- 16 bits
abbrev pub number_bytes : ℕ
number_bytes = 2

abbrev pub behind : Pointer → ℕ → Pointer
behind p n = (p.0, p.1 + n * number_bytes)

pub record Part : Type 0 where
  pub contents : List ℤ
  pub pointer : Pointer

abbrev pub plane_says : List ℤ → Pointer → Part
plane_says contents pointer = record { contents = contents; pointer = pointer }

-- of a list of these numbers that lies there
abbrev pub plane_outcome : List ℤ → Pointer → ℤ → Part
plane_outcome ns p x = record { contents = plane_numbers ns x; pointer = behind p (plane_ends ns x).start }

unfoldable pub PlanePromise : List ℤ → Pointer → ℤ → List ℤ → Pointer → Type 0
PlanePromise ns p x part q = plane_says part q ≡ plane_outcome ns p x
