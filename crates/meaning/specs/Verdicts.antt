-- The check's verdict on a list of numbers (document 01, "Why a call comes back", refusals 1 to 5): each test over the whole list before
-- the next, with the first offending vertex, from 0, as the place.
--   at                                     the vertex at a place
--   outside_at, falls_at, on_odd_line_at        what is wrong with the vertex at a place: refusals 3, 4 and 5
--   Verdict, Valid                         what the check answers; that the list is a travel map
--   verdict                                what the check says
--   passes                                 the verdict is that the list is a travel map
--   number_of, place_of                    the number and the place that document 01's table gives a refusal
--   refusal_number, refusal_place            the same of a verdict
use Rattle.std.specs.Prelude.{Bool, true, false, not, ◌||◌, cond, List, ℕ, zero, suc, ◌%◌, ℤ, pos, ltb, eqb, length, get_or, Result, Ok, Err}
use Rattle.meaning.specs.Numbers.{focus, first as first_shift, second, corner, is_corner}
use Rattle.meaning.specs.declared.Corner.{Corner}
use Rattle.meaning.specs.Counting.{first}
use Rattle.meaning.specs.Lists.{vertices, below, odd_line, most_vertices}
use Rattle.meaning.specs.declared.Refusal.{Refusal}
use Rattle.meaning.specs.declared.Refusal.TheVariants.{NotTriples, TooMany, OutOfRange, NotRising, OddLine}

-- what the check answers: that the list is a travel map, or why not
abbrev pub Verdict : Type 0
Verdict = Result (Unit {0}) Refusal

pattern abbrev pub Valid : Verdict
Valid = Ok tt

abbrev pub at : List Corner → ℕ → Corner
at l i = get_or l i (corner (pos 0) (pos 0) (pos 0))

abbrev pub outside_at : List Corner → ℕ → Bool
outside_at l i = not (is_corner (at l i))

abbrev pub falls_at : List Corner → ℕ → Bool
falls_at l zero = false
falls_at l (suc i) = not (below (at l i) (at l (suc i)))

abbrev pub on_odd_line_at : List Corner → ℕ → Bool
on_odd_line_at l i = odd_line focus l (at l i) || (odd_line first_shift l (at l i) || odd_line second l (at l i))

-- the refusal at the first place that fails a test, or what comes next where none does
abbrev pub unless_at : (ℕ → Bool) → ℕ → (ℕ → Refusal) → Verdict → Verdict
unless_at p n refusal next = cond (ltb (first p n) n) (Err (refusal (first p n))) next

abbrev pub verdict_of : List Corner → Verdict
verdict_of l =
    unless_at (outside_at l) (length l) OutOfRange
    (unless_at (falls_at l) (length l) NotRising
    (unless_at (on_odd_line_at l) (length l) OddLine Valid))

unfoldable pub verdict : List ℤ → Verdict
verdict ns =
    cond (eqb (length ns % 3) 0)
    (cond (ltb most_vertices (length (vertices ns))) (Err TooMany) (verdict_of (vertices ns)))
    (Err NotTriples)

abbrev pub passes : Verdict → Bool
passes (Ok u) = true
passes (Err r) = false

abbrev pub number_of : Refusal → ℕ
number_of NotTriples = 1
number_of TooMany = 2
number_of (OutOfRange i) = 3
number_of (NotRising i) = 4
number_of (OddLine i) = 5

abbrev pub place_of : Refusal → ℕ
place_of NotTriples = 0
place_of TooMany = 0
place_of (OutOfRange i) = i
place_of (NotRising i) = i
place_of (OddLine i) = i

abbrev pub refusal_number : Verdict → ℕ
refusal_number (Ok u) = 0
refusal_number (Err r) = number_of r

abbrev pub refusal_place : Verdict → ℕ
refusal_place (Ok u) = 0
refusal_place (Err r) = place_of r
