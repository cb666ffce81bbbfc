-- Inner: what the codes of an axis count in a rank.
--   apart, Near        the difference of two numbers; the code of a stretch nearest to a wish, on the way to every other
--   value, Sound       what a code counts in a rank: its cost, and behind it its place among equals; a scale whose values fit
--   Valued             what a code counts, and that it is small
--   behind             the code just behind a number as seen from a wish
--   way, Brought       what the way from a wish to the code of its scale counts; the scale of an axis for a wish
use Rattle.std.specs.Prelude.{◌≡◌, cond, ℕ, ◌+◌, ◌-◌, ◌*◌, ◌^◌, ◌≤◌, ◌<◌, ltb}
use Rattle.ranks.specs.declared.Scale.{Scale}
pub use Rattle.ranks.specs.Extents.{axis_codes}

abbrev pub apart : ℕ → ℕ → ℕ
apart a b = (a - b) + (b - a)

-- the code of a stretch that lies nearest to a wish
pub record Near (wish low high r : ℕ) : Type 0 where
  pub from : low ≤ r
  pub below : r < high
  pub between : (c : ℕ) → low ≤ c → c < high → apart wish r + apart r c ≤ apart wish c

unfoldable pub value : Scale → ℕ → ℕ
value scale c = scale.weight * apart scale.wish c * 1073741824 + c * scale.place

-- a scale whose values fit
pub record Sound (scale : Scale) : Type 0 where
  pub code : scale.wish < axis_codes
  pub some : 0 < scale.weight
  pub light : scale.weight ≤ 16
  pub inside : scale.place ≤ 1048576

-- what a code counts, and that it is small
pub record Valued (scale : Scale) (code r : ℕ) : Type 0 where
  pub is : r ≡ value scale code
  pub small : r < 2 ^ 44

-- the code just behind a number as seen from a wish: the number itself where it lies above the wish, else the code below it
abbrev pub behind : ℕ → ℕ → ℕ
behind w e = cond (ltb w e) e (e - 1)

-- what the way from a wish to the code of its scale counts as distance
abbrev pub way : ℕ → Scale → ℕ
way wish scale = scale.weight * apart wish (scale.wish + 32256)

-- the scale of an axis whose cells lie from low to below high: every cell lies beyond the scale's code as seen from the wish
pub record Brought (wish low high' weight place : ℕ) (r : Scale) : Type 0 where
  pub sound : Sound r
  pub heavy : r.weight ≡ weight
  pub behind : r.place ≡ place
  pub along : (c : ℕ) → low ≤ c → c < high' → apart wish (c + 32256) ≡ apart wish (r.wish + 32256) + apart r.wish c
