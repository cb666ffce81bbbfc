-- Laws that docs/PORT.md names and that no proof cites.
--   back_begins     the run goes back: its last number
--   edge_cut        a place up to which all high parts are at most a code is a cut
--   pairs_front     the pairs of some keys, brought to order
use mathlib.Core.Path.{◌≡◌, refl, sym, ◌∙◌, ap, subst}
use mathlib.Core.List.{List, ◌++◌, map}
use Prim.Native.Nat.{ℕ, ◌-◌, ◌≤◌, ◌<◌}
use native.Mathlib.Omega.{arith}
use lib.ListN.{length, get_or, take, drop}
use lib.Seq.{take_at}
use Rattle.rising.specs.Merged.{From, norm}
use Rattle.rising.specs.Placed.{Front}
use Rattle.rising.proofs.Order.{front_append}
use Rattle.rising.proofs.Written.{Filling, filling_ends}
use Rattle.cells.specs.Cells.{high, Cut, Edge}
use Rattle.search.proofs.Back.{Back}

module _ {unit : ℕ} {l : List ℕ} (u : 0 < unit) (rises : From 0 l) where
  pub back_begins : {i : ℕ} → 0 < i → i ≤ length l → Back unit l i (i - 1)
  back_begins {i} h k =
      record { some = omega arith; within = k; same = λ n p q. let s : n ≡ i - 1 = omega arith in ap (λ m. high unit (get_or l m 0)) s }

pub edge_cut : (hi : ℕ → ℕ) (l : List ℕ) (code i : ℕ) → Edge hi l code i → Cut hi l i
edge_cut hi l code i edge =
    record { within = edge.within; apart = λ j k p q r. omega (arith, edge.upto j p, edge.beyond k q r) }

-- what is written of some keys to one slice, and brought to order there
pub pairs_front : (f : ℕ → ℕ) (ks before : List ℕ) {now x : List ℕ} {n m : ℕ} → Filling (map f) ks before now n n → length ks ≤ n
    → Front (norm (take n now)) x m → (r : List ℕ) → Front (norm (map f ks)) (x ++ r) m
pairs_front f ks before {now} {x} {n} {m} w e h r =
    let (c, s) = filling_ends (map f) ks before now n n w refl e in
    subst (λ (l : List ℕ). Front (norm l) (x ++ r) m) (ap (take n) s ∙ take_at (map f ks) (drop n before) n (sym c)) (front_append h r)
