-- Two lists in two results: what a split comes to.
--   low_short, high_short, both_fit         by which of them fit
-- Assumes nothing.
use mathlib.Core.Path.{◌≡◌, ap, ap₂}
use mathlib.Core.Bool.{true, false, cond}
use mathlib.Core.List.{List}
use Prim.Native.Nat.{ℕ}
use lib.IntN.{ℤ}
use lib.ListN.{length}
use Rattle.meaning.specs.declared.Corner.{Corner}
use Rattle.meaning.specs.Lists.{numbers}
use Rattle.meaning.specs.Outcomes.{Outcome, outcome, Nothing, nothing, done_both, no_room_for, kept, per_vertex, fits, front}
use Rattle.cuts.specs.Answers.{Halves, halves, placed_halves}

module _ (l u : List Corner) (low high : List ℤ) where
  abbrev both : Outcome Nothing Halves
  both = outcome (done_both (length l) (length u)) nothing (halves (front (numbers l) low) (front (numbers u) high))

  abbrev without : ℕ → Outcome Nothing Halves
  without half = kept nothing (halves low high) (no_room_for half)

  pub low_short : fits per_vertex l (length low) ≡ false → placed_halves l u low high ≡ kept nothing (halves low high) (no_room_for 1)
  low_short e = ap (λ s. cond s (cond (fits per_vertex u (length high)) both (without 2)) (without 1)) e

  pub high_short : fits per_vertex l (length low) ≡ true → fits per_vertex u (length high) ≡ false
      → placed_halves l u low high ≡ kept nothing (halves low high) (no_room_for 2)
  high_short e f = ap₂ (λ s t. cond s (cond t both (without 2)) (without 1)) e f

  pub both_fit : fits per_vertex l (length low) ≡ true → fits per_vertex u (length high) ≡ true
      → placed_halves l u low high ≡ outcome (done_both (length l) (length u)) nothing (halves (front (numbers l) low) (front (numbers u) high))
  both_fit e f = ap₂ (λ s t. cond s (cond t both (without 2)) (without 1)) e f
