-- The loop over the keys of a map: the lowest and the highest part on an axis so far.
--   Reached                     so far the loop has come
-- Assumes nothing.
use mathlib.Core.List.{List}
use Prim.Native.Nat.{ℕ, ◌≤◌, ◌<◌}
use lib.ListN.{get_or}
use Rattle.meaning.specs.Numbers.{Axis}
use Rattle.keys.specs.Parts.{part_on}

pub record Reached (axis : Axis) (keys : List ℕ) (i low high : ℕ) : Type 0 where
  pub above : (j : ℕ) → j < i → low ≤ part_on axis (get_or keys j 0)
  pub below : (j : ℕ) → j < i → part_on axis (get_or keys j 0) ≤ high
  pub end : high ≤ 1024
