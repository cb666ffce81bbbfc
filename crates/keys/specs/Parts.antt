-- Inner: keys and pair keys by their parts. A pair key is the first number's steps times 2048 and the second's steps.
--   PairOk, KeyOk          every part is at most 1024 steps, so that it is one of a pair, or of a corner
--   pair_of_key              the pair of a pair key
--   axis_at                 the axis of a number, the last axis for any number above 1
--   part_on                 a key's part on an axis: the steps of its corner's number there
--   pair_fits, key_fits      no part above those of a square, or of a cell, that are given by steps
use Rattle.std.specs.Prelude.{Bool, ◌&&◌, ℕ, zero, suc, ◌≤◌, leb}
use Rattle.meaning.specs.Numbers.{Axis, focus, first, second, Pair, pair, number}
use Rattle.codes.specs.Keys.{plane_of, rest_of, line_of, last_of}

abbrev pub PairOk : ℕ → Type 0
PairOk k = (line_of k ≤ 1024) × (last_of k ≤ 1024)

abbrev pub KeyOk : ℕ → Type 0
KeyOk k = (plane_of k ≤ 1024) × PairOk (rest_of k)

abbrev pub pair_of_key : ℕ → Pair
pair_of_key k = pair (number (line_of k)) (number (last_of k))

abbrev pub axis_at : ℕ → Axis
axis_at zero = focus
axis_at (suc zero) = first
axis_at (suc (suc n)) = second

abbrev pub part_on : Axis → ℕ → ℕ
part_on focus k = plane_of k
part_on first k = line_of (rest_of k)
part_on second k = last_of (rest_of k)

abbrev pub pair_fits : ℕ → ℕ → ℕ → Bool
pair_fits b d k = leb (line_of k) b && leb (last_of k) d

abbrev pub key_fits : ℕ → ℕ → ℕ → ℕ → Bool
key_fits a b d k = leb (plane_of k) a && pair_fits b d (rest_of k)
