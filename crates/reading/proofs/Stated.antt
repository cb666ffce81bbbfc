-- Laws that docs/PORT.md names and that no proof cites.
--   RunWithin    a run of frames that are no more than n, in a list that is as long as before
--   run_none     no frame read
--   sum_more     the closing sum, number by number: one number more
use mathlib.Core.Path.{◌≡◌, refl, sym, ◌∙◌, ap}
use mathlib.Core.List.{List}
use Prim.Native.Nat.{ℕ, ◌+◌, ◌%◌, ◌≤◌, ◌<◌}
use native.Mathlib.Omega.{arith}
use native.Mathlib.Numerals.{add-one}
use lib.IntN.{ℤ, pos}
use lib.ListN.{length, drop, get_or}
use lib.Seq.{drop-cons}
use Rattle.words.specs.Words.{word}
use Rattle.reading.specs.Reading.{total}
use Rattle.reading.proofs.Runs.{Run}

-- ---- frames that are read

pub record RunWithin (s : List ℕ) (tag start n : ℕ) (before now : List ℤ) (i : ℕ) : Type 0 where
  pub within : i ≤ n
  pub run : Run s tag start now i
  pub long : length now ≡ length before

pub run_none : (s : List ℕ) (tag start n : ℕ) (l : List ℤ) → RunWithin s tag start n l l 0
run_none s tag start n l = record { within = omega arith; run = record { well = λ k h. absurd (omega arith); front = refl }; long = refl }

-- ---- the closing sum

module _ (l : List ℤ) (i sum whole : ℕ) (so_far : (sum + total (drop i l)) % 65536 ≡ whole % 65536) where
  pub sum_more : (w : ℕ) → i < length l → w ≡ word (get_or l i (pos 0)) → ((sum + w) % 65536 + total (drop (i + 1) l)) % 65536 ≡ whole % 65536
  sum_more w h e =
      let next : total (drop i l) ≡ w + total (drop (i + 1) l) =
      ap total (drop-cons l i (pos 0) h) ∙ ap (λ k. word (get_or l i (pos 0)) + total (drop k l)) (sym (add-one i)) ∙ ap (◌+ total (drop (i + 1) l)) (sym e) in
      omega arith
