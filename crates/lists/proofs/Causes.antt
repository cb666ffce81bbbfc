-- The check refuses for the stated causes alone: from its promise, the number and the place of each cause, and "done" where there is none
-- (document 01, "Why a call comes back", refusals 1 to 5, each over the whole list before the next).
--   cause_1       the length is not a multiple of 3
--   cause_2       more vertices than a list may have
--   cause_3       a number that is no corner number, first in vertex i
--   cause_4       vertex i is the first that is not above the one before it
--   cause_5       vertex i is the first on any odd line
--   no_cause      none of these
-- Assumes nothing.
use mathlib.Core.Path.{◌≡◌, sym, ◌∙◌, ap}
use mathlib.Core.List.{List}
use Prim.Native.Nat.{ℕ, ◌%◌, ◌≤◌, ◌<◌}
use lib.IntN.{ℤ}
use lib.ListN.{length}
use Rattle.meaning.specs.Counting.{first}
use Rattle.meaning.specs.Lists.{vertices, most_vertices}
use Rattle.meaning.specs.Verdicts.{Verdict, outside_at, falls_at, on_odd_line_at, verdict}
use Rattle.meaning.specs.Outcomes.{done, refusal, verdict_values}
use Rattle.lists.specs.Check.{Checked}
use Rattle.lists.proofs.Verdicts.{checked_verdict, not_triples, too_many_lem, outside_stop, falls_stop, line_stop, all_passed}

module _ (ns : List ℤ) (r : Verdict) (h : Checked ns r) where
  abbrev l : ℕ
  l = length (vertices ns)

  -- what the check carries, where the verdict is known
  carries : (v : Verdict) → v ≡ verdict ns → verdict_values r ≡ verdict_values v
  carries v e = ap verdict_values (checked_verdict ns r h ∙ sym e)

  pub cause_1 : (length ns % 3 ≡ 0 → ⊥) → verdict_values r ≡ refusal 1 1 0
  cause_1 k = carries _ (not_triples ns k)

  module _ (threes : length ns % 3 ≡ 0) where
    pub cause_2 : most_vertices < l → verdict_values r ≡ refusal 2 1 0
    cause_2 k = carries _ (too_many_lem ns threes k)

    module _ (few : l ≤ most_vertices) where
      pub cause_3 : (i : ℕ) → i ≡ first (outside_at (vertices ns)) l → i < l → verdict_values r ≡ refusal 3 1 i
      cause_3 i e k = carries _ (outside_stop ns threes few i e k)

      -- every number is a corner number
      module _ (o : ℕ) (eo : o ≡ first (outside_at (vertices ns)) l) (inside : l ≤ o) where
        pub cause_4 : (i : ℕ) → i ≡ first (falls_at (vertices ns)) l → i < l → verdict_values r ≡ refusal 4 1 i
        cause_4 i e k = carries _ (falls_stop ns threes few o eo inside i e k)

        -- and the vertices rise
        module _ (f : ℕ) (ef : f ≡ first (falls_at (vertices ns)) l) (rising : l ≤ f) where
          pub cause_5 : (i : ℕ) → i ≡ first (on_odd_line_at (vertices ns)) l → i < l → verdict_values r ≡ refusal 5 1 i
          cause_5 i e k = carries _ (line_stop ns threes few o eo inside f ef rising i e k)

          pub no_cause : (i : ℕ) → i ≡ first (on_odd_line_at (vertices ns)) l → l ≤ i → verdict_values r ≡ done 0
          no_cause i e k = carries _ (all_passed ns threes few o eo inside f ef rising i e k)
