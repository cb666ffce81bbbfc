-- The verdict, one test after the other; and what the verdict "valid" gives.
--   not_triples, too_many_lem, counted     refusals 1 and 2, and what is left after them
--   stopped, passed                    of one test over the whole list: it fails first at r; it fails nowhere
--   outside_stop, falls_stop, line_stop, all_passed     the whole verdict, by where each test fails first
--   in_range_lem                           a list whose vertices all pass the first test is in range
--   Sound, sound_of, verdict_of_lem        what the verdict "valid" gives; and back
--   checked_verdict, verdict_checked   the promise of the check: its answer is the verdict
--   settled                            two answers that the promise of the check allows are equal
use mathlib.Core.Path.{◌≡◌, sym, ◌∙◌, ap, ap₂}
use mathlib.Core.Bool.{Bool, true, false, cond}
use mathlib.Core.List.{List, [], ◌∷◌}
use Prim.Native.Nat.{ℕ, zero, suc, ◌%◌, ◌≤◌, ◌<◌}
use native.Mathlib.Omega.{arith}
use borrow.Author.Tests.{eq-eqb, ne_eqb, lt-ltb, le-ltb, not-false}
use lib.Dec.{ltb}
use lib.IntN.{ℤ}
use lib.ListN.{length}
use Rattle.std.specs.Prelude.{Err}
use Rattle.meaning.specs.Numbers.{Axis, is_corner}
use Rattle.meaning.specs.declared.Corner.{Corner}
use Rattle.meaning.specs.Counting.{first}
use Rattle.meaning.specs.Lists.{vertices, below, Rising, odd_line, most_vertices, Valid as Map}
use Rattle.meaning.specs.Verdicts.{at, outside_at, falls_at, on_odd_line_at, unless_at, Verdict, Valid, verdict, verdict_of}
use Rattle.meaning.specs.declared.Refusal.{Refusal}
use Rattle.meaning.specs.declared.Refusal.TheVariants.{NotTriples, TooMany, OutOfRange, NotRising, OddLine}
use Rattle.meaning.proofs.Checked.{place_all, verdict_valid}
use Rattle.codes.specs.Keys.{corner_at}
use Rattle.meaning.specs.Outcomes.{nothing}
use Rattle.meaning.proofs.Outcomes.{checked_values, verdict_once}
use Rattle.lists.specs.Check.{check_says, Checked, InRange}
use Rattle.meaning.proofs.First.{first_facts}
use Rattle.lists.proofs.Vertices.{at_vertices, outside_at_lem}

module _ (ns : List ℤ) where
  pub not_triples : (length ns % 3 ≡ 0 → ⊥) → Err NotTriples ≡ verdict ns
  unfolding verdict
  not_triples h = rw (ne_eqb (length ns % 3) 0 h)

  pub too_many_lem : length ns % 3 ≡ 0 → most_vertices < length (vertices ns) → Err TooMany ≡ verdict ns
  unfolding verdict
  too_many_lem h k = rw (eq-eqb (length ns % 3) 0 h, lt-ltb most_vertices (length (vertices ns)) k)

  pub counted : length ns % 3 ≡ 0 → length (vertices ns) ≤ most_vertices → verdict_of (vertices ns) ≡ verdict ns
  unfolding verdict
  counted h k = rw (eq-eqb (length ns % 3) 0 h, le-ltb most_vertices (length (vertices ns)) k)

  pub in_range_lem : (r : ℕ) → r ≡ first (outside_at (vertices ns)) (length (vertices ns)) → length (vertices ns) ≤ r → InRange ns
  in_range_lem r e h i l =
      not-false (is_corner (corner_at ns i)) (sym (outside_at_lem ns i l) ∙ (first_facts (outside_at (vertices ns)) (length (vertices ns)) e).before i (omega arith))

module _ (p : ℕ → Bool) (n : ℕ) (refusal : ℕ → Refusal) (next : Verdict) (r : ℕ) (e : r ≡ first p n) where
  pub stopped : r < n → Err (refusal r) ≡ unless_at p n refusal next
  stopped h = ap (λ k. Err (refusal k)) e ∙ sym (ap (λ t. cond t (Err (refusal (first p n))) next) (ap (λ k. ltb k n) (sym e) ∙ lt-ltb r n h))

  pub passed : n ≤ r → next ≡ unless_at p n refusal next
  passed h = sym (ap (λ t. cond t (Err (refusal (first p n))) next) (ap (λ k. ltb k n) (sym e) ∙ le-ltb r n h))

-- the tests one after the other, of a list of whole vertices that are not too many
module _ (ns : List ℤ) (t : length ns % 3 ≡ 0) (few : length (vertices ns) ≤ most_vertices) where
  abbrev after_lines : Verdict
  after_lines = unless_at (on_odd_line_at (vertices ns)) (length (vertices ns)) OddLine Valid

  abbrev after_order : Verdict
  after_order = unless_at (falls_at (vertices ns)) (length (vertices ns)) NotRising after_lines

  module _ (r : ℕ) (e : r ≡ first (outside_at (vertices ns)) (length (vertices ns))) where
    pub outside_stop : r < length (vertices ns) → Err (OutOfRange r) ≡ verdict ns
    outside_stop h = stopped (outside_at (vertices ns)) (length (vertices ns)) OutOfRange after_order r e h ∙ counted ns t few

    range_passed : length (vertices ns) ≤ r → after_order ≡ verdict ns
    range_passed h = passed (outside_at (vertices ns)) (length (vertices ns)) OutOfRange after_order r e h ∙ counted ns t few

    module _ (hr : length (vertices ns) ≤ r) (q : ℕ) (f : q ≡ first (falls_at (vertices ns)) (length (vertices ns))) where
      pub falls_stop : q < length (vertices ns) → Err (NotRising q) ≡ verdict ns
      falls_stop h = stopped (falls_at (vertices ns)) (length (vertices ns)) NotRising after_lines q f h ∙ range_passed hr

      order_passed : length (vertices ns) ≤ q → after_lines ≡ verdict ns
      order_passed h = passed (falls_at (vertices ns)) (length (vertices ns)) NotRising after_lines q f h ∙ range_passed hr

      module _ (hq : length (vertices ns) ≤ q) (o : ℕ) (g : o ≡ first (on_odd_line_at (vertices ns)) (length (vertices ns))) where
        pub line_stop : o < length (vertices ns) → Err (OddLine o) ≡ verdict ns
        line_stop h = stopped (on_odd_line_at (vertices ns)) (length (vertices ns)) OddLine Valid o g h ∙ order_passed hq

        pub all_passed : length (vertices ns) ≤ o → Valid ≡ verdict ns
        all_passed h = passed (on_odd_line_at (vertices ns)) (length (vertices ns)) OddLine Valid o g h ∙ order_passed hq

-- ---- what the verdict "valid" gives

pub record Sound (ns : List ℤ) : Type 0 where
  pub triples : length ns % 3 ≡ 0
  pub valid : Map (vertices ns)
  pub few : length (vertices ns) ≤ most_vertices
  pub corners : InRange ns
  pub rising : (i : ℕ) → suc i < length (vertices ns) → below (corner_at ns i) (corner_at ns (suc i)) ≡ true
  pub even : (axis : Axis) (i : ℕ) → i < length (vertices ns) → odd_line axis (vertices ns) (corner_at ns i) ≡ false

-- neighbours of a rising list
pub rising_at : (l : List Corner) → Rising l → (i : ℕ) → suc i < length l → below (at l i) (at l (suc i)) ≡ true
rising_at [] r i h = absurd (omega arith)
rising_at (v ∷ []) r i h = absurd (omega arith)
rising_at (v ∷ w ∷ l) r zero h = r.0
rising_at (v ∷ w ∷ l) r (suc i) h = rising_at (w ∷ l) r.1 i (omega arith)

pub sound_of : (ns : List ℤ) → verdict ns ≡ Valid → Sound ns
sound_of ns e =
    let g = (verdict_valid ns).0 e in
    let l = vertices ns in
    record {
      triples = g.0;
      valid = g.1;
      few = g.1.few;
      corners = λ i h. ap is_corner (sym (at_vertices ns i h)) ∙ place_all (λ v. is_corner v ≡ true) l g.1.corners i h;
      rising = λ i h. ap₂ below (sym (at_vertices ns i (omega arith))) (sym (at_vertices ns (suc i) h)) ∙ rising_at l g.1.rising i h;
      even = λ axis i h. g.1.even axis (corner_at ns i);
    }

pub verdict_of_lem : (ns : List ℤ) → length ns % 3 ≡ 0 → Map (vertices ns) → verdict ns ≡ Valid
verdict_of_lem ns t m = (verdict_valid ns).1 (t, m)

-- ---- the promise of the check

pub verdict_checked : (ns : List ℤ) (r : Verdict) → r ≡ verdict ns → Checked ns r
unfolding Checked
verdict_checked ns r e = ap check_says e ∙ sym (checked_values nothing nothing (verdict ns))

pub checked_verdict : (ns : List ℤ) (r : Verdict) → Checked ns r → r ≡ verdict ns
unfolding Checked
checked_verdict ns r h = verdict_once r (verdict ns) (ap (λ o. o.values) (h ∙ checked_values nothing nothing (verdict ns)))

pub settled : (ns : List ℤ) (r s : Verdict) → Checked ns r → Checked ns s → r ≡ s
settled ns r s h k = checked_verdict ns r h ∙ sym (checked_verdict ns s k)
