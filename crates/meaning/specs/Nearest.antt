-- Distance and the nearest permitted cell (document 01, "What can be asked", and demand 3).
--   gap, weight, distance   a difference without sign; what one code of an axis counts; the sum over the three axes
--   lower                   lowest focus, then first shift, then second
--   Nearest                 permitted; no permitted cell nearer; among equals none lower
--   reached, nowhere        what nearest gives (Reached of src/lib.rt): a cell and how far it is; what a refused nearest gives
--   IsNearest               the nearest cell of a map, if it permits any
--   nearest_outcome          what nearest comes to: 1 to 5; then 7 of the empty list; else the cell, which is the nearest, and its distance
use Rattle.std.specs.Prelude.{◌≡◌, Bool, true, false, List, [], ◌∷◌, ℕ, ◌+◌, ◌*◌, ◌≤◌, ℤ, pos, ◌-ℤ◌, nat_abs}
use Rattle.meaning.specs.Numbers.{Axis, focus, first, second, cell, code_on}
use Rattle.meaning.specs.declared.Cell.{Cell}
use Rattle.meaning.specs.declared.Corner.{Corner}
use Rattle.meaning.specs.Lists.{vertices, permitted, earlier}
use Rattle.meaning.specs.Verdicts.{verdict, passes}
use Rattle.meaning.specs.declared.Reached.{Reached}
use Rattle.meaning.specs.Outcomes.{Outcome, outcome, Nothing, nothing, done, empty_map, kept, checked}

abbrev pub gap : ℤ → ℤ → ℕ
gap a b = nat_abs (a -ℤ b)

unfoldable pub weight : Axis → ℕ
weight focus = 1
weight first = 1
weight second = 1

abbrev pub cost : Axis → Cell → Cell → ℕ
cost axis w c = weight axis * gap (code_on axis w) (code_on axis c)

unfoldable pub distance : Cell → Cell → ℕ
distance w c = cost focus w c + cost first w c + cost second w c

abbrev pub lower : Cell → Cell → Bool
lower c d = earlier c.focus c.first c.second d.focus d.first d.second

-- c is the answer to the wish w among the cells of S
pub record Nearest (S : Cell → Bool) (w c : Cell) : Type 0 where
  pub member : S c ≡ true
  pub least : (d : Cell) → S d ≡ true → distance w c ≤ distance w d
  pub lowest : (d : Cell) → S d ≡ true → distance w d ≡ distance w c → lower d c ≡ false

-- ---- what nearest comes to

abbrev pub reached : Cell → ℕ → Reached
reached c n = record { at = c; far = n }

-- a refused nearest gives the cell (0,0,0) and distance 0
abbrev pub nowhere : Reached
nowhere = reached (cell (pos 0) (pos 0) (pos 0)) 0

-- of a map's vertices, where c is the nearest cell if there is one
abbrev pub nearest_of : List Corner → Cell → Cell → Outcome Reached Nothing
nearest_of [] w c = kept nowhere nothing empty_map
nearest_of (v ∷ l) w c = outcome (done 0) (reached c (distance w c)) nothing

-- c is the nearest cell to the wish, if the list is a map and permits any cell
abbrev pub IsNearest : List ℤ → Cell → Cell → Type 0
IsNearest ns w c = passes (verdict ns) ≡ true → (d : Cell) → permitted (vertices ns) d ≡ true → Nearest (permitted (vertices ns)) w c

abbrev pub nearest_outcome : List ℤ → Cell → Cell → Outcome Reached Nothing
nearest_outcome ns w c = checked 1 (verdict ns) (kept nowhere nothing) (nearest_of (vertices ns) w c)
