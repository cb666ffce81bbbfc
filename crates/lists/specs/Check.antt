-- The promise of the check, and what its parts lend each other (document 01, "Why a call comes back", refusals 1 to 5).
--   check_says            what a verdict comes to: its values
--   check_outcome         what the check of a list comes to: done, or the refusal of the one list
--   Checked              the promise
--   AllNumbers           every number of a list is a corner number
--   InRange, AllRise     every vertex of a list of numbers is a corner; every vertex stands above the one before it
--   Offsets              the offsets, in a vertex, of the two numbers that are left when an axis is left out
--   first_on              the first vertex on an odd line of an axis, or the count of vertices
--   pair_at, Filled       the two numbers at offsets a and b of a vertex, as one number; the first n places of a working list hold those of each vertex
use Rattle.std.specs.Prelude.{◌≡◌, true, false, List, ℕ, ◌+◌, ◌*◌, ◌<◌, ℤ, pos, length, get_or}
use Rattle.meaning.specs.Numbers.{Axis, focus, first as first_shift, second, is_number, is_corner, steps}
use Rattle.meaning.specs.declared.Corner.{Corner}
use Rattle.meaning.specs.Counting.{first}
use Rattle.meaning.specs.Lists.{vertices, odd_line}
use Rattle.meaning.specs.Verdicts.{Verdict, verdict, at, falls_at}
use Rattle.meaning.specs.Outcomes.{Outcome, outcome, Nothing, nothing, done, verdict_values, kept, checked}
use Rattle.codes.specs.Keys.{corner_at}

abbrev pub check_says : Verdict → Outcome Nothing Nothing
check_says r = outcome (verdict_values r) nothing nothing

abbrev pub check_outcome : List ℤ → Outcome Nothing Nothing
check_outcome ns = checked 1 (verdict ns) (kept nothing nothing) (outcome (done 0) nothing nothing)

unfoldable pub Checked : List ℤ → Verdict → Type 0
Checked ns r = check_says r ≡ check_outcome ns

abbrev pub AllNumbers : List ℤ → Type 0
AllNumbers ns = (i : ℕ) → i < length ns → is_number (get_or ns i (pos 0)) ≡ true

abbrev pub InRange : List ℤ → Type 0
InRange ns = (i : ℕ) → i < length (vertices ns) → is_corner (corner_at ns i) ≡ true

abbrev pub AllRise : List ℤ → Type 0
AllRise ns = (i : ℕ) → i < length (vertices ns) → falls_at (vertices ns) i ≡ false

abbrev pub pair_at : List ℤ → ℕ → ℕ → ℕ → ℕ
pair_at ns a b i = steps (get_or ns (3 * i + a) (pos 0)) * 2048 + steps (get_or ns (3 * i + b) (pos 0))

abbrev pub Filled : List ℤ → ℕ → ℕ → ℕ → List ℕ → Type 0
Filled ns a b n keys = (i : ℕ) → i < n → get_or keys i 0 ≡ pair_at ns a b i

abbrev pub Offsets : Axis → ℕ → ℕ → Type 0
Offsets focus a b = (a ≡ 1) × (b ≡ 2)
Offsets first_shift a b = (a ≡ 0) × (b ≡ 2)
Offsets second a b = (a ≡ 0) × (b ≡ 1)

abbrev pub first_on : Axis → List Corner → ℕ
first_on axis l = first (λ i. odd_line axis l (at l i)) (length l)
