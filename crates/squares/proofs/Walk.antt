-- The cells just behind the runs of a rising list.
--   turned_first                 there is nothing behind numbers below the first
--   turned_run                   the cells behind one run are those of its own rests
--   turned_above, turned_below   no run from a place up, or down, is better
--   Passed, passed-..            the cells behind the runs from a bound up to a place
--   here_of                      the cells at the wish's code are those of the numbers up to it
-- Assumes nothing.
use mathlib.Core.Path.{◌≡◌, refl, sym, ◌∙◌, ap, subst}
use mathlib.Core.Bool.{Bool, true, false, ◌&&◌}
use mathlib.Core.List.{List, map}
use Prim.Native.Nat.{ℕ, ◌+◌, ◌-◌, ◌≤◌, ◌<◌}
use native.Mathlib.Omega.{arith}
use lib.Dec.{leb, ltb, eqb}
use lib.ListN.{length, get_or, take}
use borrow.Author.Tests.{ltb-true, ltb-false, le-leb, lt-leb, eqb-true, eq-eqb, ne_eqb}
use Rattle.meaning.proofs.Parity.{sum, sum_map}
use Rattle.rising.specs.Merged.{From}
use Rattle.ranks.specs.declared.Scale.{Scale}
use Rattle.ranks.specs.Values.{axis_codes, value, behind}
use Rattle.ranks.proofs.Costs.{value_away, behind_above, behind_upto}
use Rattle.cells.specs.Cells.{Best, Depth, Rank, Part, Here, Turned, high, rest, high_at, Cut, Run, Edge}
use Rattle.cells.proofs.Best.{best_same}
use Rattle.cells.proofs.Axis.{part_of, turned_two, turned_stop}
use Rattle.cells.proofs.Line.{hit}
use Rattle.squares.proofs.Runs.{run_of, sum_run, sum_upto, high_mono, high_in, high_out}

-- a test that holds of two things holds of the first
first_of : (a b : Bool) → (a && b) ≡ true → a ≡ true
first_of true b e = refl
first_of false b e = e

-- a number with cells behind it is the high part of a member
member_at : (unit : ℕ) (D : Depth) (l : List ℕ) (e : ℕ) (t : D.Rest) → sum (λ k. eqb (high unit k) e && D.test t (rest unit k)) l ≡ true
    → (j : ℕ) × (j < length l) × (high unit (get_or l j 0) ≡ e)
member_at unit D l e t h =
    let (j, p, q) = hit (λ k. eqb (high unit k) e && D.test t (rest unit k)) l h in
    (j, p, eqb-true (high unit (get_or l j 0)) e (first_of (eqb (high unit (get_or l j 0)) e) _ q))

-- what stands from a place on lies at or above the high part there
from_place : (unit : ℕ) (l : List ℕ) → 0 < unit → From 0 l → (i j : ℕ) → i ≤ j → j < length l → high_at (high unit) l i ≤ high unit (get_or l j 0)
from_place unit l u rises i j p q = omega (arith, high_in (high unit) l i (omega arith), high_mono unit u l rises i j p q)

module _ (unit : ℕ) (scale : Scale) (D : Depth) (l : List ℕ) (base : ℕ) (u : 0 < unit) (rises : From 0 l) where
  pub turned_first : {m : ℕ} → Best (Turned unit scale D l 0 (high_at (high unit) l 0) base) m m
  turned_first {m} =
      turned_stop
      (λ e t p q n. let (j, h, s) = member_at unit D l e t n in absurd (omega (arith, from_place unit l u rises 0 j (omega arith) h)))

  module _ {i e : ℕ} (run : Run (high unit) l i e) (before : Cut (high unit) l i) (after : Cut (high unit) l e)
      (low : high unit (get_or l i 0) < axis_codes)
    where
      abbrev number : ℕ
      number = high unit (get_or l i 0)

      low_end : high_at (high unit) l i ≡ number
      low_end = high_in (high unit) l i (omega (arith, run.some, run.within)) ∙ omega arith

      high_end : number < high_at (high unit) l e
      high_end = go (ltb e (length l)) refl
        where
          go : (b : Bool) → ltb e (length l) ≡ b → number < high_at (high unit) l e
          go true t =
              let h = ltb-true e (length l) t in
              omega (arith, high_in (high unit) l e h, after.apart i e run.some (omega arith) h)
          go false t = omega (arith, high_out (high unit) l e (ltb-false e (length l) t))

      pub turned_ends : high_at (high unit) l i ≤ high_at (high unit) l e
      turned_ends = omega (arith, low_end, high_end)

      own : (t : D.Rest) → sum (λ k. eqb (high unit k) number && D.test t (rest unit k)) l ≡ sum (D.test t) (map (rest unit) (run_of l i e))
      own t =
          sum_run (λ k. eqb (high unit k) number && D.test t (rest unit k)) (λ k. D.test t (rest unit k)) l i e
          (omega (arith, run.some)) run.within
          (λ j p. other j (λ s. omega (arith, before.apart j i p (omega arith) (omega (arith, run.some, run.within)))))
          (λ j p q. ap (◌&& D.test t (rest unit (get_or l j 0))) (eq-eqb (high unit (get_or l j 0)) number (run.same j p q)))
          (λ j p q. other j (λ s. omega (arith, after.apart i j run.some p q))) ∙
          sym (sum_map (D.test t) (rest unit) (run_of l i e))
        where
          other : (j : ℕ) → (high unit (get_or l j 0) ≡ number → ⊥) → (eqb (high unit (get_or l j 0)) number && D.test t (rest unit (get_or l j 0))) ≡ false
          other j h = ap (◌&& D.test t (rest unit (get_or l j 0))) (ne_eqb (high unit (get_or l j 0)) number h)

      -- a number from the run's to below the next with cells behind it is the run's
      this : (n : ℕ) (t : D.Rest) → high_at (high unit) l i ≤ n → n < high_at (high unit) l e
          → sum (λ k. eqb (high unit k) n && D.test t (rest unit k)) l ≡ true → n ≡ number
      this n t p q h = let (j, k, s) = member_at unit D l n t h in go j k s (ltb j i) refl (ltb j e) refl
        where
          go : (j : ℕ) → j < length l → high unit (get_or l j 0) ≡ n → (a : Bool) → ltb j i ≡ a → (b : Bool) → ltb j e ≡ b → n ≡ number
          go j k s true a b f =
              absurd (omega (arith, low_end, before.apart j i (ltb-true j i a) (omega arith) (omega (arith, run.some, run.within))))
          go j k s false a true f = sym s ∙ run.same j (ltb-false j i a) (ltb-true j e f)
          go j k s false a false f = absurd (omega (arith, from_place unit l u rises e j (ltb-false j e f) k))

      pub turned_run : {m r : ℕ} → Best (Rank D (map (rest unit) (run_of l i e)) (base + value scale (behind scale.wish number))) m r
          → Best (Turned unit scale D l (high_at (high unit) l i) (high_at (high unit) l e) base) m r
      turned_run {m} {r} h =
          best_same Own (Turned unit scale D l (high_at (high unit) l i) (high_at (high unit) l e) base) m r
          (λ q t. record { number = number; from = omega (arith, low_end); below = high_end; cell = t })
          (λ q t. subst (λ (n : ℕ). Part (λ k. eqb (high unit k) n) (rest unit) D l (base + value scale (behind scale.wish n)) q)
          (this t.number t.cell.at t.from t.below t.cell.member) t.cell)
          (part_of own h)
        where
          Own : ℕ → Type 0
          Own q = Part (λ k. eqb (high unit k) number) (rest unit) D l (base + value scale (behind scale.wish number)) q

  -- from a place up, where all high parts lie above the wish's code
  pub turned_above : {i m : ℕ} → i < length l → scale.wish < high unit (get_or l i 0)
      → m ≤ base + value scale (behind scale.wish (high unit (get_or l i 0)))
      → Best (Turned unit scale D l (high_at (high unit) l i) axis_codes base) m m
  turned_above {i} {m} h k best = turned_stop (λ e t p q n. worse e p q)
    where
      w : ℕ
      w = scale.wish

      worse : (e : ℕ) → high_at (high unit) l i ≤ e → e < axis_codes → m ≤ base + value scale (behind w e)
      worse e p q =
          let s = high_in (high unit) l i h in
          let a : high unit (get_or l i 0) ≤ e = omega arith in
          let x = ap (value scale) (behind_above w (high unit (get_or l i 0)) k) in
          let y = ap (value scale) (behind_above w e (omega arith)) in
          omega (arith, x, y, (value_away scale).up (high unit (get_or l i 0)) e (omega arith) a)

  -- below a place, where the high part before it lies at or below the wish's code
  pub turned_below : {i m : ℕ} → 0 < i → i ≤ length l → high unit (get_or l (i - 1) 0) ≤ scale.wish
      → m ≤ base + value scale (behind scale.wish (high unit (get_or l (i - 1) 0)))
      → Best (Turned unit scale D l 0 (high_at (high unit) l i) base) m m
  turned_below {i} {m} h n k best = turned_stop (λ e t p q s. worse e (member_at unit D l e t s) q)
    where
      w : ℕ
      w = scale.wish

      last : ℕ
      last = high unit (get_or l (i - 1) 0)

      worse : (e : ℕ) → (j : ℕ) × (j < length l) × (high unit (get_or l j 0) ≡ e) → e < high_at (high unit) l i → m ≤ base + value scale (behind w e)
      worse e (j, p, s) q = go (ltb j i) refl
        where
          go : (b : Bool) → ltb j i ≡ b → m ≤ base + value scale (behind w e)
          go true t =
              let a = high_mono unit u l rises j (i - 1) (omega (arith, ltb-true j i t)) (omega arith) in
              let x = ap (value scale) (behind_upto w last k) in
              let y = ap (value scale) (behind_upto w e (omega arith)) in
              omega (arith, x, y, (value_away scale).down (e - 1) (last - 1) (omega arith) (omega arith))
          go false t = absurd (omega (arith, from_place unit l u rises i j (ltb-false j i t) p))

-- the cells behind the runs from a bound up to a place
pub record Passed (unit : ℕ) (scale : Scale) (D : Depth) (l : List ℕ) (base from best i found : ℕ) : Type 0 where
  pub cut : Cut (high unit) l i
  pub order : from ≤ high_at (high unit) l i
  pub seen : Best (Turned unit scale D l from (high_at (high unit) l i) base) best found

module _ {unit : ℕ} {scale : Scale} {D : Depth} {l : List ℕ} {base from best i found : ℕ} (u : 0 < unit) (rises : From 0 l)
    (passed : Passed unit scale D l base from best i found)
  where
    -- one run more
    pub passed_on : {e r : ℕ} → Run (high unit) l i e → Cut (high unit) l e → high unit (get_or l i 0) < axis_codes
        → Best (Rank D (map (rest unit) (run_of l i e)) (base + value scale (behind scale.wish (high unit (get_or l i 0))))) found r
        → Passed unit scale D l base from best e r
    passed_on {e} {r} run after low h =
        let ends = turned_ends unit scale D l base u rises run passed.cut after low in
        record {
          cut = after;
          order = omega (arith, passed.order, ends);
          seen = turned_two passed.order ends passed.seen (turned_run unit scale D l base u rises run passed.cut after low h);
        }

    -- no run is left, or none below the end
    pub passed_all : length l ≤ i → Best (Turned unit scale D l from axis_codes base) best found
    passed_all h =
        subst (λ (n : ℕ). Best (Turned unit scale D l from n base) best found) (high_out (high unit) l i h) passed.seen

    pub passed_codes : i < length l → axis_codes ≤ high unit (get_or l i 0) → Best (Turned unit scale D l from axis_codes base) best found
    passed_codes h k =
        let e : high_at (high unit) l i ≡ axis_codes = high_in (high unit) l i h ∙ omega arith in
        subst (λ (n : ℕ). Best (Turned unit scale D l from n base) best found) e passed.seen

-- the numbers up to the wish's code
pub here_of : (unit : ℕ) (scale : Scale) (D : Depth) (l : List ℕ) (base place : ℕ) {m r : ℕ} → Edge (high unit) l scale.wish place
    → Best (Rank D (map (rest unit) (take place l)) (base + value scale scale.wish)) m r → Best (Here unit scale D l base) m r
here_of unit scale D l base place edge = part_of same
  where
    same : (t : D.Rest) → sum (λ k. leb (high unit k) scale.wish && D.test t (rest unit k)) l ≡ sum (D.test t) (map (rest unit) (take place l))
    same t =
        sum_upto (λ k. leb (high unit k) scale.wish && D.test t (rest unit k)) (λ k. D.test t (rest unit k)) l place
        (λ j p q. ap (◌&& D.test t (rest unit (get_or l j 0))) (le-leb (high unit (get_or l j 0)) scale.wish (edge.upto j p)))
        (λ j p q. ap (◌&& D.test t (rest unit (get_or l j 0))) (lt-leb (high unit (get_or l j 0)) scale.wish (edge.beyond j p q))) ∙
        sym (sum_map (D.test t) (rest unit) (take place l))
