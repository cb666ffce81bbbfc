-- The first place whose member passes a test, as a search by position finds it.
use mathlib.Core.Path.{◌≡◌, refl}
use mathlib.Core.Bool.{Bool, true, false, cond}
use mathlib.Core.List.{List}
use Prim.Native.Nat.{ℕ}
use native.Mathlib.Omega.{arith}
use borrow.Author.Tests.{ltb-true, ltb-false}
use lib.Dec.{ltb}
use lib.ListN.{length, get_or}
use Rattle.std.proofs.Common.{Some, None, position, unwrap_or}
use Rattle.std.specs.List.{position_or_len}
use Rattle.std.proofs.lemmas.List.Sums.{fails_before_first, passes_at_first}
use Rattle.meaning.specs.Counting.{first}
use Rattle.meaning.proofs.First.{first_stop, first_none}

pub first_position : (p : ℕ → Bool) (l : List ℕ) → unwrap_or (position p l) (length l) ≡ first (λ i. p (get_or l i 0)) (length l)
first_position p l = by_end (ltb (position_or_len p l) (length l)) refl
  where
    by_end : (t : Bool) → ltb (position_or_len p l) (length l) ≡ t →
        unwrap_or (cond t (Some (position_or_len p l)) None) (length l) ≡ first (λ i. p (get_or l i 0)) (length l)
    by_end true e =
        let h = ltb-true (position_or_len p l) (length l) e in
        first_stop _ _ _ h (λ k m. fails_before_first p l k 0 m) (passes_at_first p l 0 h)
    by_end false e =
        first_none _ _ refl (λ k m. fails_before_first p l k 0 (omega (arith, ltb-false (position_or_len p l) (length l) e)))
