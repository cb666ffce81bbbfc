-- The least of a number and of the ranks of a set.
--   best_none    nothing of the set is better
--   best_then    one set after another
--   best_like    two sets, each with one no higher for each member of the other
-- Assumes nothing.
use mathlib.Core.Path.{◌≡◌, refl, sym, ◌∙◌, subst}
use mathlib.Core.Logic.{◌⊎◌, inl, inr}
use Prim.Native.Nat.{ℕ, ◌≤◌}
use native.Mathlib.Omega.{arith}
use Rattle.cells.specs.Cells.{Best}

-- nothing of the set is better
pub best_none : (R : ℕ → Type 0) (m : ℕ) → ((q : ℕ) → R q → m ≤ q) → Best R m m
best_none R m h = record { low = omega arith; least = h; from = inl refl }

-- one set after another, and what they cover together
pub best_then : (R S T : ℕ → Type 0) (m r s : ℕ)
    → ((q : ℕ) → R q → T q) → ((q : ℕ) → S q → T q) → ((q : ℕ) → T q → R q ⊎ S q)
    → Best R m r → Best S r s → Best T m s
best_then R S T m r s f g cover h k =
    record {
      low = omega (arith, h.low, k.low);
      least = λ q t. least q (cover q t);
      from = from k.from;
    }
  where
    least : (q : ℕ) → R q ⊎ S q → s ≤ q
    least q (inl a) = omega (arith, h.least q a, k.low)
    least q (inr b) = k.least q b

    first : s ≡ r → (r ≡ m) ⊎ R r → (s ≡ m) ⊎ T s
    first e (inl p) = inl (e ∙ p)
    first e (inr a) = inr (subst T (sym e) (f r a))

    from : (s ≡ r) ⊎ S s → (s ≡ m) ⊎ T s
    from (inl e) = first e h.from
    from (inr b) = inr (g s b)

-- two sets that are as good as each other: that the least is there comes free
pub best_like : (R T : ℕ → Type 0) (m r : ℕ)
    → ((q : ℕ) → R q → (p : ℕ) × T p × (p ≤ q)) → ((q : ℕ) → T q → (p : ℕ) × R p × (p ≤ q))
    → Best R m r → Best T m r
best_like R T m r up down h =
    record {
      low = h.low;
      least = λ q t. let (p, a, l) = down q t in omega (arith, h.least p a);
      from = from h.from;
    }
  where
    there : (p : ℕ) → T p → p ≤ r → T r
    there p t l =
        let (q, a, k) = down p t in
        let e : p ≡ r = omega (arith, h.least q a) in
        subst T e t

    from : (r ≡ m) ⊎ R r → (r ≡ m) ⊎ T r
    from (inl e) = inl e
    from (inr a) = let (p, t, l) = up r a in inr (there p t l)

-- two sets with the same members
pub best_same : (R T : ℕ → Type 0) (m r : ℕ) → ((q : ℕ) → R q → T q) → ((q : ℕ) → T q → R q) → Best R m r → Best T m r
best_same R T m r f g = best_like R T m r (λ q a. (q, f q a, omega arith)) (λ q t. (q, g q t, omega arith))
