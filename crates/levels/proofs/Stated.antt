-- Laws that docs/PORT.md names and that no proof cites.
--   asks_planes, asks_words     what the sweep of a plane asks of rows that are lent to it: its sections and keys have numbers within so many
--                               words as a row has, and a row has at most 17
use mathlib.Core.Path.{◌≡◌, sym, subst}
use mathlib.Core.List.{List}
use Prim.Native.Nat.{ℕ, ◌≤◌}
use native.Mathlib.Omega.{arith}
use lib.ListN.{length, take, replicate}
use lib.Seq.{length-take-le}
use Rattle.levels.specs.Planes.{Planes}

-- a row of so many words, from the front of an array of zeros
abbrev row : ℕ → List ℕ
row words = take words (replicate 17 0)

row_long : (words : ℕ) → words ≤ 17 → length (row words) ≡ words
row_long words h = length-take-le words (replicate 17 0) h

pub asks_planes : {low words plane : ℕ} {sa sb pa pb : List ℕ} → words ≤ 17 → Planes low words plane sa sb pa pb
    → Planes low (length (row words)) plane sa sb pa pb
asks_planes {low} {words} {plane} {sa} {sb} {pa} {pb} h = subst (λ (n : ℕ). Planes low n plane sa sb pa pb) (sym (row_long words h))

pub asks_words : (words : ℕ) → words ≤ 17 → length (row words) ≤ 17
asks_words words h = omega (arith, row_long words h)
