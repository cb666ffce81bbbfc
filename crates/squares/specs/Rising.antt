-- Inner: rising lists of numbers that count from a base.
--   Rising        every number lies at or above the base, and less the base they rise
--   from_prop, rising_prop     that a list rises holds in one way at most
--   BehindLines   the squares just behind the lines that some pairs lie on
--   RunTo         where the run that begins at a place ends: it has one high part, and no run goes on behind it
use Rattle.std.specs.Prelude.{ℕ, suc, List, [], ◌∷◌}
use Rattle.std.specs.Coded.{×_prop, Π_prop, Unit-prop, le_prop}
use Rattle.rising.specs.Merged.{From, less_base}
use Rattle.ranks.specs.declared.Scales.{Scales}
use Rattle.ranks.specs.Values.{axis_codes}
use Rattle.cells.specs.Cells.{Turned, line_in, line_unit, high, Cut, Run}
use Rattle.cells.specs.Line.{Above}

pub record Rising (base : ℕ) (l : List ℕ) : Type 0 where
  pub above : Above base l
  pub rising : From 0 (less_base base l)

from_prop : (m : ℕ) (l : List ℕ) → IsProp (From m l)
from_prop m [] = Unit-prop
from_prop m (x ∷ l) = ×_prop le_prop (from_prop (suc x) l)

pub rising_prop : (base : ℕ) (l : List ℕ) → IsProp (Rising base l)
rising_prop base l a b i =
    record {
      above = Π_prop (λ k. Π_prop (λ h. le_prop)) a.above b.above i;
      rising = from_prop 0 (less_base base l) a.rising b.rising i;
    }

pub record RunTo (unit base : ℕ) (l : List ℕ) (i e : ℕ) : Type 0 where
  pub run : Run (high unit) (less_base base l) i e
  pub cut : Cut (high unit) (less_base base l) e

abbrev pub BehindLines : Scales → List ℕ → ℕ → ℕ → Type 0
BehindLines scales l rank q = Turned line_unit scales.first (line_in scales.second) l 0 axis_codes rank q
