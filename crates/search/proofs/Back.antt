-- Where a run of numbers with one high part begins.
--   Back                       the numbers from a place on have the high part of the last of them
--   back_on                    the run goes back
--   back_run, back_stops       where it begins
-- Assumes nothing.
use mathlib.Core.Path.{◌≡◌, refl, sym, ◌∙◌, ap}
use mathlib.Core.Bool.{Bool, true, false}
use mathlib.Core.List.{List}
use Prim.Native.Nat.{ℕ, ◌-◌, ◌*◌, ◌/◌, ◌≤◌, ◌<◌}
use native.Mathlib.Omega.{arith}
use native.Mathlib.Nat.{le-div_iff_mul-le, div-lt_iff_lt-mul}
use lib.Dec.{ltb}
use lib.ListN.{length, get_or}
use borrow.Author.Tests.{ltb-true, ltb-false}
use Rattle.rising.specs.Merged.{From}
use Rattle.cells.specs.Cells.{high, Cut, Run}
use Rattle.squares.proofs.Runs.{high_mono}

-- the numbers from j to below i have the high part of the last of them
pub record Back (unit : ℕ) (l : List ℕ) (i j : ℕ) : Type 0 where
  pub some : j < i
  pub within : i ≤ length l
  pub same : (k : ℕ) → j ≤ k → k < i → high unit (get_or l k 0) ≡ high unit (get_or l (i - 1) 0)

module _ {unit : ℕ} {l : List ℕ} (u : 0 < unit) (rises : From 0 l) where
  module _ {i j : ℕ} (b : Back unit l i j) where
    pub back_run : Run (high unit) l j i
    back_run = record { some = b.some; within = b.within; same = λ k p q. b.same k p q ∙ sym (b.same j (omega arith) b.some) }

    pub back_on : 0 < j → get_or l (i - 1) 0 / unit * unit ≤ get_or l (j - 1) 0 → Back unit l i (j - 1)
    back_on h k =
        record {
          some = omega (arith, b.some);
          within = b.within;
          same = λ n p q. go n p q (ltb n j) refl;
        }
      where
        last : high unit (get_or l (j - 1) 0) ≡ high unit (get_or l (i - 1) 0)
        last =
            let p : high unit (get_or l (i - 1) 0) ≤ high unit (get_or l (j - 1) 0) = (le-div_iff_mul-le u).1 k in
            let q = high_mono unit u l rises (j - 1) (i - 1) (omega (arith, b.some)) (omega (arith, b.some, b.within)) in
            omega arith

        go : (n : ℕ) → j - 1 ≤ n → n < i → (t : Bool) → ltb n j ≡ t → high unit (get_or l n 0) ≡ high unit (get_or l (i - 1) 0)
        go n p q true e = let s : n ≡ j - 1 = omega (arith, ltb-true n j e) in ap (λ m. high unit (get_or l m 0)) s ∙ last
        go n p q false e = b.same n (ltb-false n j e) q

    pub back_stops : 0 < j → get_or l (j - 1) 0 < get_or l (i - 1) 0 / unit * unit → Cut (high unit) l j
    back_stops h k =
        record {
          within = omega (arith, b.some, b.within);
          apart = λ m n p q r.
              let a = high_mono unit u l rises m (j - 1) (omega arith) (omega (arith, b.some, b.within)) in
              let c : high unit (get_or l (j - 1) 0) < high unit (get_or l (i - 1) 0) = (div-lt_iff_lt-mul u).1 k in
              let d = high_mono unit u l rises j n q r in
              omega (arith, b.same j (omega arith) b.some);
        }
