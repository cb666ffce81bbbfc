-- What a call comes to (document 01, "Why a call comes back"). Every public promise has one shape: the outcome of the answer and of what the
-- results hold at exit is the one that the request asks for.
--   Values                  what every answer carries: a number, the operand, a place, a count of vertices or pairs, and a second count, which a
--                           split has
--   done, done_both          0, with a count, and with the two counts of a split
--   no_room_for, no_room       6, with the half of a split as its operand, and with none
--   empty_map, bad_operation, bad_number    7, 8 and 9
--   refused                 1 to 5, of the list that is this operand
--   verdict_values           what the check carries, by its verdict: there is one list
--   Outcome                 the values of an answer, what it gives beside them, and what the lent results hold at exit
--   Nothing, nothing        where nothing is given beside the values, or no result is lent
--   kept                    a refusal: what a refused call gives, and results that hold what they held
--   named, checked          the order of refusals: first a number that names nothing; then what is wrong with a list; then what follows
--   per_vertex, per_pair      how many numbers a vertex and a pair have
--   fits, front, placed     a list fits a slice; it stands at the front, and everything behind it is untouched; so it is placed where it fits
use Rattle.std.specs.Prelude.{Bool, ◌&&◌, cond, List, ◌++◌, ℕ, ◌*◌, leb, ℤ, length, drop}
use Rattle.std.proofs.Math.Option.{Option, none, some}
use Rattle.meaning.specs.Lists.{most_vertices}
use Rattle.meaning.specs.Verdicts.{Verdict, passes, refusal_number, refusal_place}

-- ---- what an answer carries

pub record Values : Type 0 where
  pub number : ℕ
  pub operand : ℕ
  pub place : ℕ
  pub count : ℕ
  pub second : ℕ

abbrev pub done_both : ℕ → ℕ → Values
done_both count second = record { number = 0; operand = 0; place = 0; count = count; second = second }

abbrev pub done : ℕ → Values
done count = done_both count 0

-- after a refusal the counts are 0
abbrev pub refusal : ℕ → ℕ → ℕ → Values
refusal number operand place = record { number = number; operand = operand; place = place; count = 0; second = 0 }

abbrev pub refused : ℕ → Verdict → Values
refused operand v = refusal (refusal_number v) operand (refusal_place v)

abbrev pub no_room_for : ℕ → Values
no_room_for half = refusal 6 half 0

abbrev pub no_room : Values
no_room = refusal 6 0 0

abbrev pub empty_map : Values
empty_map = refusal 7 0 0

abbrev pub bad_operation : Values
bad_operation = refusal 8 0 0

abbrev pub bad_number : Values
bad_number = refusal 9 0 0

abbrev pub verdict_values : Verdict → Values
verdict_values v = cond (passes v) (done 0) (refused 1 v)

-- ---- outcomes

pub record Outcome (Given Left : Type 0) : Type 0 where
  pub values : Values
  pub given : Given
  pub left : Left

abbrev pub outcome : {Given Left : Type 0} → Values → Given → Left → Outcome Given Left
outcome values given left = record { values = values; given = given; left = left }

abbrev pub Nothing : Type 0
Nothing = Unit {0}

abbrev pub nothing : Nothing
nothing = tt

abbrev pub kept : {Given Left : Type 0} → Given → Left → Values → Outcome Given Left
kept given before values = outcome values given before

-- ---- the order of refusals

abbrev pub named : {X A : Type 0} → Option X → A → (X → A) → A
named none bad next = bad
named (some x) bad next = next x

abbrev pub checked : {A : Type 0} → ℕ → Verdict → (Values → A) → A → A
checked operand v refusing next = cond (passes v) next (refusing (refused operand v))

-- ---- lists in results

abbrev pub per_vertex : ℕ
per_vertex = 3

abbrev pub per_pair : ℕ
per_pair = 2

-- a list whose members have so many numbers each, in a slice of so many numbers
abbrev pub fits : {A : Type 0} → ℕ → List A → ℕ → Bool
fits each l room = leb (each * length l) room && leb (length l) most_vertices

abbrev pub front : {A : Type 0} → List A → List A → List A
front l before = l ++ drop (length l) before

abbrev pub placed : {A : Type 0} → ℕ → (List A → List ℤ) → List A → List ℤ → Outcome Nothing (List ℤ)
placed each numbers_of l before =
    cond (fits each l (length before)) (outcome (done (length l)) nothing (front (numbers_of l) before)) (kept nothing before no_room)
