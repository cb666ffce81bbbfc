-- The first number below n that passes a test, by three facts: it is at most n, nothing before it passes, and it passes where it is below n.
--   First, first_is, is_first  the three facts, that the first number has them, and that it is the only one
--   first_facts                the three facts of a number that is the first
--   first_stop, first_none     a search that stops, and one that comes to the end
--   first_same                 the same of two tests that agree below n
--   first_or                   of either test: the lesser of the two
-- Assumes nothing.
use mathlib.Core.Path.{◌≡◌, refl, sym, ◌∙◌, ap, ap₂, subst}
use mathlib.Core.Bool.{Bool, true, false, ◌||◌, cond, true≢false, or-true}
use Prim.Native.Nat.{ℕ, zero, suc, min, ◌≤◌, ◌<◌}
use native.Mathlib.Omega.{arith}
use lib.Dec.{ltb, leb}
use borrow.Author.Tests.{ltb-true, ltb-false, leb-true, leb-false}
use Rattle.meaning.specs.Counting.{first}

pub record First (p : ℕ → Bool) (n r : ℕ) : Type 0 where
  pub within : r ≤ n
  pub before : (k : ℕ) → k < r → p k ≡ false
  pub found : r < n → p r ≡ true

pub first_is : (p : ℕ → Bool) (n : ℕ) → First p n (first p n)
first_is p zero = record { within = omega arith; before = λ k h. absurd (omega arith); found = λ h. absurd (omega arith) }
first_is p (suc n) = go (first_is p n) (ltb (first p n) n) refl
  where
    past : First p n (first p n) → n ≤ first p n → (b : Bool) → p n ≡ b → First p (suc n) (cond b n (suc n))
    past f h true e =
        record { within = omega arith; before = λ k l. f.before k (omega arith); found = λ l. e }
    past f h false e =
        record { within = omega arith; before = λ k l. at_end k l (ltb k n) refl; found = λ l. absurd (omega arith) }
      where
        at_end : (k : ℕ) → k < suc n → (t : Bool) → ltb k n ≡ t → p k ≡ false
        at_end k l true q = f.before k (omega (arith, ltb-true k n q))
        at_end k l false q = let g = ltb-false k n q in subst (λ (m : ℕ). p m ≡ false) (omega arith) e

    go : First p n (first p n) → (t : Bool) → ltb (first p n) n ≡ t → First p (suc n) (cond t (first p n) (cond (p n) n (suc n)))
    go f true e =
        let h = ltb-true (first p n) n e in
        record { within = omega arith; before = f.before; found = λ l. f.found h }
    go f false e = past f (ltb-false (first p n) n e) (p n) refl

-- there is only one such place
pub first_one : (p : ℕ → Bool) (n r s : ℕ) → First p n r → First p n s → r ≡ s
first_one p n r s f g = go (ltb r s) (ltb s r) refl refl
  where
    clash : (a b : ℕ) → First p n a → First p n b → a < b → ⊥
    clash a b x y h = true≢false (sym (x.found (omega (arith, y.within))) ∙ y.before a h)

    go : (t u : Bool) → ltb r s ≡ t → ltb s r ≡ u → r ≡ s
    go true u a b = absurd (clash r s f g (ltb-true r s a))
    go false true a b = absurd (clash s r g f (ltb-true s r b))
    go false false a b = let h = ltb-false r s a in let k = ltb-false s r b in omega arith

pub is_first : (p : ℕ → Bool) (n r : ℕ) → First p n r → r ≡ first p n
is_first p n r f = first_one p n r (first p n) f (first_is p n)

-- ---- searches, and other tests

-- a search that stops at r; a search that came to the end, m
pub first_stop : (p : ℕ → Bool) (n r : ℕ) → r < n → ((k : ℕ) → k < r → p k ≡ false) → p r ≡ true → r ≡ first p n
first_stop p n r h before found = is_first p n r (record { within = omega arith; before = before; found = λ l. found })

pub first_none : (p : ℕ → Bool) (n : ℕ) {m : ℕ} → m ≡ n → ((k : ℕ) → k < m → p k ≡ false) → m ≡ first p n
first_none p n {m} e before = is_first p n m (record { within = omega arith; before = before; found = λ l. absurd (omega arith) })

pub first_facts : (p : ℕ → Bool) (n : ℕ) {r : ℕ} → r ≡ first p n → First p n r
first_facts p n e = subst (First p n) (sym e) (first_is p n)

pub first_same : (p q : ℕ → Bool) (n : ℕ) → ((k : ℕ) → k < n → p k ≡ q k) → first p n ≡ first q n
first_same p q n h =
    let f = first_is p n in
    is_first q n (first p n)
    (record {
      within = f.within;
      before = λ k l. sym (h k (omega (arith, f.within))) ∙ f.before k l;
      found = λ l. sym (h (first p n) l) ∙ f.found l;
    })

pub first_or : (p q : ℕ → Bool) (n r s : ℕ) → First p n r → First q n s → First (λ i. p i || q i) n (min r s)
first_or p q n r s f g =
    record {
      within = omega (arith, f.within);
      before = λ k h. ap₂ ◌||◌ (f.before k (omega arith)) (g.before k (omega arith));
      found = λ h. by_least h (leb r s) refl;
    }
  where
    by_least : min r s < n → (t : Bool) → leb r s ≡ t → (p (min r s) || q (min r s)) ≡ true
    by_least h true e =
        let is : min r s ≡ r = omega (arith, leb-true r s e) in
        ap (λ k. p k || q k) is ∙ ap (λ b. b || q r) (f.found (omega (arith, leb-true r s e)))
    by_least h false e =
        let is : min r s ≡ s = omega (arith, leb-false r s e) in
        ap (λ k. p k || q k) is ∙ ap (λ b. p s || b) (g.found (omega (arith, leb-false r s e))) ∙ or-true (p s)
