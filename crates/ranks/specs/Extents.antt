-- Inner: from where to where a map lies on an axis.
--   axis_codes   how many codes an axis has
--   Extends      from where to where the parts of some keys lie
use Rattle.std.specs.Prelude.{List, ℕ, ◌≤◌, ◌<◌, length, get_or}
use Rattle.meaning.specs.Numbers.{Axis}
use Rattle.keys.specs.Parts.{part_on}
use Rattle.ranks.specs.declared.Extent.{Extent}

abbrev pub axis_codes : ℕ
axis_codes = 1024

-- every part on an axis lies from low to high
pub record Extends (axis : Axis) (keys : List ℕ) (r : Extent) : Type 0 where
  pub low : (i : ℕ) → i < length keys → r.low ≤ part_on axis (get_or keys i 0)
  pub high : (i : ℕ) → i < length keys → part_on axis (get_or keys i 0) ≤ r.high
  pub end : r.high ≤ axis_codes
