-- The kinds of corner, tested once over all 256 masks.
--   every, at       a test of every number from 0 to n, and what it says of each
--   kind_counts     how many masks each kind has: the last column of document 01's table
--   kind_none       the masks of kind 0 have the edge counts that document 01 names, and no others
--   kind_extreme    kinds 1, 3 and 7 are exactly the masks with an odd number of ones
-- Assumes nothing.
use mathlib.Core.Path.{◌≡◌, refl, sym, subst}
use mathlib.Core.Bool.{Bool, true, false, ◌&&◌, ◌||◌, beq}
use mathlib.Core.List.{List, [], ◌∷◌, map}
use Prim.Native.Nat.{ℕ, zero, suc, ◌≤◌}
use native.Mathlib.Omega.{arith}
use lib.Dec.{eqb, leb}
use lib.Count.{ones, ones_in}
use borrow.Author.Tests.{leb-true, leb-false}
use Rattle.meaning.specs.Counting.{count, odd, upto}
use Rattle.meaning.specs.Kinds.{kind, extreme, half_edges, is_manifold, is_non_manifold}
use Rattle.meaning.proofs.Integers.{and_left, and_right}

abbrev pub every : (ℕ → Bool) → ℕ → Bool
every p zero = p zero
every p (suc n) = every p n && p (suc n)

pub at : (p : ℕ → Bool) (n : ℕ) → every p n ≡ true → (k : ℕ) → k ≤ n → p k ≡ true
at p zero e k h = subst (λ (m : ℕ). p m ≡ true) (omega arith) e
at p (suc n) e k h = go (leb k n) refl (at p n (and_left (every p n) (p (suc n)) e) k)
  where
    go : (t : Bool) → leb k n ≡ t → (k ≤ n → p k ≡ true) → p k ≡ true
    go true f r = r (leb-true k n f)
    go false f r = let l = leb-false k n f in subst (λ (m : ℕ). p m ≡ true) (omega arith) (and_right (every p n) (p (suc n)) e)

pub masks : List ℕ
masks = upto 255

pub kind_counts : map (λ k. count (λ m. eqb (kind m) k) masks) (upto 8) ≡ 38 ∷ 64 ∷ 24 ∷ 48 ∷ 24 ∷ 24 ∷ 16 ∷ 16 ∷ 2 ∷ []
unfolding kind masks
kind_counts = refl

-- (0,0), (2,0) or (0,2)
pub no_edges : ℕ → ℕ → Bool
no_edges two non = eqb two 0 && eqb non 0 || (eqb two 2 && eqb non 0 || eqb two 0 && eqb non 2)

none_test : ℕ → Bool
none_test m = beq (eqb (kind m) 0) (no_edges (count is_manifold (half_edges m)) (count is_non_manifold (half_edges m)))

beq_eq : (a b : Bool) → beq a b ≡ true → a ≡ b
beq_eq true true e = refl
beq_eq true false e = sym e
beq_eq false true e = e
beq_eq false false e = refl

pub kind_none : (m : ℕ) → m ≤ 255 → eqb (kind m) 0 ≡ no_edges (count is_manifold (half_edges m)) (count is_non_manifold (half_edges m))
unfolding none_test
kind_none m h = beq_eq (eqb (kind m) 0) _ (at none_test 255 (unfold kind no_edges none_test in refl) m h)

extreme_test : ℕ → Bool
extreme_test m = beq (extreme (kind m)) (odd (ones m))

pub kind_extreme : (m : ℕ) → m ≤ 255 → extreme (kind m) ≡ odd (ones m)
unfolding extreme_test
kind_extreme m h = beq_eq (extreme (kind m)) (odd (ones m)) (at extreme_test 255 (unfold kind ones ones_in extreme_test in refl) m h)
