-- Section and split (document 01, "What can be asked" and "Why a call comes back").
--   asked                                   the first refusal, 9: an axis that is none of the three, or a number out of range
--   Sectioned                               what a section answers
--   section_values, section_says              document 01's values of each answer of a section; what an answer and the contents at exit come to
--   section_pairs                            the pairs of a section
--   section_outcome, SectionPromise          what a section comes to, and its promise
--   Halves                                  what the two results of a split hold
--   Halved, counts                          what a split answers; how many vertices the halves have
--   split_values, split_says                  document 01's values of each answer of a split; what an answer and the contents at exit come to
--   lower_list, upper_list, placed_halves      the lists of the halves, and two lists placed in two results where both fit
--   split_outcome, SplitPromise              what a split comes to, and its promise
use Rattle.std.specs.Prelude.{◌≡◌, Bool, cond, List, ℕ, ℤ, length, Result, Ok, Err}
use Rattle.std.proofs.Math.Option.{Option}
use Rattle.meaning.specs.Numbers.{Axis, Pair, is_code, is_number}
use Rattle.meaning.specs.declared.Corner.{Corner}
use Rattle.meaning.specs.Lists.{vertices, numbers, permitted}
use Rattle.meaning.specs.Verdicts.{verdict}
use Rattle.meaning.specs.OneList.{one_list, one_pairs}
use Rattle.meaning.specs.Operations.{axis_of, section_at, lower_half, upper_half, pair_numbers}
use Rattle.meaning.specs.Outcomes.{Values, Outcome, outcome, Nothing, nothing, done, done_both, refused, bad_number, no_room, no_room_for, kept, named, checked}
use Rattle.meaning.specs.Outcomes.{per_vertex, per_pair, fits, front, placed}
use Rattle.parts.specs.declared.Halves.{Halves as Counts}
use Rattle.cuts.specs.declared.SectionError.{SectionError}
use Rattle.cuts.specs.declared.SectionError.TheVariants as section
use Rattle.cuts.specs.declared.SplitError.{SplitError}
use Rattle.cuts.specs.declared.SplitError.TheVariants as split

-- what follows for the axis with that number, where the code or number that is asked is in range
abbrev pub asked : {A : Type 0} → Option Axis → Bool → A → (Axis → A) → A
asked axis in_range bad next = named axis bad (λ a. cond in_range (next a) bad)

-- ---- section

-- how many pairs, or why there are none
abbrev pub Sectioned : Type 0
Sectioned = Result ℕ SectionError

abbrev pub section_values : Sectioned → Values
section_values (Ok n) = done n
section_values (Err section.BadRequest) = bad_number
section_values (Err (section.Refused r)) = refused 1 (Err r)
section_values (Err section.NoRoom) = no_room

abbrev pub section_says : Sectioned → List ℤ → Outcome Nothing (List ℤ)
section_says r after = outcome (section_values r) nothing after

abbrev pub section_pairs : Axis → ℤ → List ℤ → List Pair
section_pairs axis k ns = one_pairs (section_at axis k (permitted (vertices ns)))

-- of a list ns, an axis' number n, a code k and the contents before the call
abbrev pub section_outcome : List ℤ → ℕ → ℤ → List ℤ → Outcome Nothing (List ℤ)
section_outcome ns n k before =
    asked (axis_of n) (is_code k) (kept nothing before bad_number)
    (λ axis. checked 1 (verdict ns) (kept nothing before) (placed per_pair pair_numbers (section_pairs axis k ns) before))

unfoldable pub SectionPromise : List ℤ → ℕ → ℤ → List ℤ → Sectioned → List ℤ → Type 0
SectionPromise ns n k before r after = section_says r after ≡ section_outcome ns n k before

-- ---- split

pub record Halves : Type 0 where
  pub low : List ℤ
  pub high : List ℤ

abbrev pub halves : List ℤ → List ℤ → Halves
halves low high = record { low = low; high = high }

-- how many vertices each half has, or why there are none
abbrev pub Halved : Type 0
Halved = Result Counts SplitError

abbrev pub counts : ℕ → ℕ → Counts
counts lower upper = record { lower = lower; upper = upper }

-- 6 names the half that does not fit
abbrev pub split_values : Halved → Values
split_values (Ok c) = done_both c.lower c.upper
split_values (Err split.BadRequest) = bad_number
split_values (Err (split.Refused r)) = refused 1 (Err r)
split_values (Err split.LowNoRoom) = no_room_for 1
split_values (Err split.HighNoRoom) = no_room_for 2

abbrev pub split_says : Halved → List ℤ → List ℤ → Outcome Nothing Halves
split_says r low high = outcome (split_values r) nothing (halves low high)

abbrev pub lower_list : Axis → ℤ → List ℤ → List Corner
lower_list axis p ns = one_list (lower_half axis p (permitted (vertices ns)))

abbrev pub upper_list : Axis → ℤ → List ℤ → List Corner
upper_list axis p ns = one_list (upper_half axis p (permitted (vertices ns)))

abbrev pub placed_halves : List Corner → List Corner → List ℤ → List ℤ → Outcome Nothing Halves
placed_halves l u low high =
    cond (fits per_vertex l (length low))
    (cond (fits per_vertex u (length high))
    (outcome (done_both (length l) (length u)) nothing (halves (front (numbers l) low) (front (numbers u) high)))
    (kept nothing (halves low high) (no_room_for 2)))
    (kept nothing (halves low high) (no_room_for 1))

-- of a list ns, an axis' number n, a number p and the contents of the two results before the call
abbrev pub split_outcome : List ℤ → ℕ → ℤ → List ℤ → List ℤ → Outcome Nothing Halves
split_outcome ns n p low high =
    asked (axis_of n) (is_number p) (kept nothing (halves low high) bad_number)
    (λ axis. checked 1 (verdict ns) (kept nothing (halves low high)) (placed_halves (lower_list axis p ns) (upper_list axis p ns) low high))

unfoldable pub SplitPromise : List ℤ → ℕ → ℤ → List ℤ → List ℤ → Halved → List ℤ → List ℤ → Type 0
SplitPromise ns n p low high r low' high' = split_says r low' high' ≡ split_outcome ns n p low high
