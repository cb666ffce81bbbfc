-- Laws that docs/PORT.md names and that no proof cites.
--   above_take      the front of a list that counts from a base counts from it too
--   Split           the numbers before lo lie below a bound, those from hi on do not
--   split_all       before a number is looked at
--   split_edge      where lo and hi meet at the bound of a code, the numbers before lie up to the code, and no others do
use mathlib.Core.Path.{◌≡◌}
use mathlib.Core.List.{List}
use Prim.Native.Nat.{ℕ, ◌+◌, ◌*◌, ◌≤◌, ◌<◌}
use native.Mathlib.Omega.{arith}
use native.Mathlib.Nat.{le-div_iff_mul-le, div-lt_iff_lt-mul}
use lib.ListN.{length, get_or, take, length-take}
use lib.Seq.{get_or-take}
use Rattle.cells.specs.Cells.{high, Edge}
use Rattle.cells.specs.Line.{Above}

pub above_take : (base : ℕ) (l : List ℕ) (n : ℕ) → Above base l → Above base (take n l)
above_take base l n a k p = let s = length-take n l in omega (arith, get_or-take n l k 0 (omega arith), a k (omega arith))

-- ---- which numbers lie up to a code

pub record Split (l : List ℕ) (bound lo hi : ℕ) : Type 0 where
  pub order : lo ≤ hi
  pub within : hi ≤ length l
  pub under : (j : ℕ) → j < lo → get_or l j 0 < bound
  pub over : (j : ℕ) → hi ≤ j → j < length l → bound ≤ get_or l j 0

pub split_all : {l : List ℕ} {bound n : ℕ} → length l ≡ n → Split l bound 0 n
split_all e = record { order = omega arith; within = omega arith; under = λ j p. absurd (omega arith); over = λ j p q. absurd (omega arith) }

pub split_edge : (unit : ℕ) → 0 < unit → (code : ℕ) {l : List ℕ} {lo : ℕ} → Split l ((code + 1) * unit) lo lo → Edge (high unit) l code lo
split_edge unit u code {l} {lo} s =
    record {
      within = s.within;
      upto = λ j p. let a : high unit (get_or l j 0) < code + 1 = (div-lt_iff_lt-mul u).1 (s.under j p) in omega arith;
      beyond = λ j p q. let a : code + 1 ≤ high unit (get_or l j 0) = (le-div_iff_mul-le u).1 (s.over j p q) in omega arith;
    }
