-- Inner: one level of the sweep, the same for planes, lines and numbers (report, section 4).
-- A key has a high part, key / stride, and a rest, key % stride. A cell of a level is a number and a cell of the level below.
--   over, OkOver     a key at or below a cell, and a key in range, from the same of the rests
--   point            the level of no dimension: one cell, and the key 0
--   number_fits, line_fits, plane_fits     at or below on one, two and three axes
--   NumberOk, LineOk, PlaneOk           in range on one, two and three axes
--   Operand          what a level reads
--   Means            a list whose sums are the operation of the sums of two lists
--   Joined           what a level's join leaves and answers: the rising list that means the operation, or more than there is room for where every
--                    such list is longer than the room
use Rattle.std.specs.Prelude.{◌≡◌, Bool, true, ◌&&◌, List, ℕ, ◌/◌, ◌%◌, ◌≤◌, ◌<◌, leb, length, take}
use Rattle.meaning.specs.Counting.{All, count, odd}
use Rattle.rising.specs.Merged.{From}

abbrev pub over : {Q : Type 0} → ℕ → (Q → ℕ → Bool) → ℕ × Q → ℕ → Bool
over stride G p k = leb (k / stride) p.0 && G p.1 (k % stride)

abbrev pub OkOver : ℕ → (ℕ → Type 0) → ℕ → Type 0
OkOver stride Ok k = (k / stride ≤ 1024) × Ok (k % stride)

abbrev pub point_fits : Unit {0} → ℕ → Bool
point_fits p k = true

abbrev pub PointOk : ℕ → Type 0
PointOk k = k < 1

abbrev pub Number : Type 0
Number = ℕ × Unit {0}

abbrev pub number_fits : Number → ℕ → Bool
number_fits = over 1 point_fits

abbrev pub line_fits : ℕ × Number → ℕ → Bool
line_fits = over 2048 number_fits

abbrev pub plane_fits : ℕ × (ℕ × Number) → ℕ → Bool
plane_fits = over 2099200 line_fits

abbrev pub NumberOk : ℕ → Type 0
NumberOk = OkOver 1 PointOk

abbrev pub LineOk : ℕ → Type 0
LineOk = OkOver 2048 NumberOk

abbrev pub PlaneOk : ℕ → Type 0
PlaneOk = OkOver 2099200 LineOk

-- a rising list of keys in range
abbrev pub Operand : (ℕ → Type 0) → List ℕ → Type 0
Operand Ok l = From 0 l × All Ok l

-- an odd number of a list lies at or below a cell
abbrev pub oddly : {Q : Type 0} → (Q → ℕ → Bool) → List ℕ → Q → Bool
oddly G l p = odd (count (G p) l)

abbrev pub Means : {Q : Type 0} → (Q → ℕ → Bool) → (Bool → Bool → Bool) → List ℕ → List ℕ → List ℕ → Type 0
Means {Q} G op a b l = (p : Q) → oddly G l p ≡ op (oddly G a p) (oddly G b p)

pub record Joined {Q : Type 0} (G : Q → ℕ → Bool) (Ok : ℕ → Type 0) (op : Bool → Bool → Bool) (a b before now : List ℕ) (r : ℕ) : Type 0 where
  pub long : length now ≡ length before
  pub rising : r ≤ length before → From 0 (take r now)
  pub proper : r ≤ length before → All Ok (take r now)
  pub means : r ≤ length before → Means G op a b (take r now)
  pub short : length before < r → (l : List ℕ) → From 0 l → Means G op a b l → length before < length l
