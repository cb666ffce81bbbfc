-- Laws of tests: two tests are the same where each passes when the other does.
--   agree                  two answers that are true together are the same
--   and_both, both_and     `a && b` is true exactly when both are
--   leb_same, eqb_same     the same test of other numbers
--   leb_both               each at most the other: equal
--   lex, lex_same          two numbers as one, a times s and a rest below s: the order goes by a, then by the rest
use mathlib.Core.Path.{◌≡◌, refl, sym, ap, ap₂}
use mathlib.Core.Bool.{Bool, true, false, ◌&&◌, ◌||◌, false≢true}
use Prim.Native.Nat.{ℕ, suc, ◌+◌, ◌*◌, ◌≤◌, ◌<◌}
use native.Mathlib.Nat.{mul-le-mul_right}
use native.Mathlib.Omega.{arith}
use borrow.Author.Tests.{leb-true, leb-false, le-leb, ltb-true, ltb-false, lt-ltb, le-ltb, eqb-true, eq-eqb}
use lib.Dec.{leb, ltb, eqb}
pub use Rattle.meaning.proofs.Integers.{leb_by as leb_same, and_both as both_and}

pub agree : (s t : Bool) → (s ≡ true → t ≡ true) → (t ≡ true → s ≡ true) → s ≡ t
agree true t f g = sym (f refl)
agree false true f g = g refl
agree false false f g = refl

pub and_both : (a b : Bool) → (a && b) ≡ true → (a ≡ true) × (b ≡ true)
and_both true b e = (refl, e)
and_both false b e = absurd (false≢true e)

pub eqb_same : (a b c d : ℕ) → (a ≡ b → c ≡ d) → (c ≡ d → a ≡ b) → eqb a b ≡ eqb c d
eqb_same a b c d f g = agree (eqb a b) (eqb c d) (λ e. eq-eqb c d (f (eqb-true a b e))) (λ e. eq-eqb a b (g (eqb-true c d e)))

pub leb_both : (a b : ℕ) → (leb a b && leb b a) ≡ eqb a b
leb_both a b =
    agree (leb a b && leb b a) (eqb a b)
    (λ e. eq-eqb a b (let h = and_both (leb a b) (leb b a) e in omega (arith, leb-true a b h.0, leb-true b a h.1)))
    (λ e. let h = eqb-true a b e in both_and (leb a b) (leb b a) (le-leb a b (omega arith)) (le-leb b a (omega arith)))

module _ (s a x r q : ℕ) (hr : r < s) (hq : q < s) where
  -- what decides: a below x, above it, or equal to it
  under : suc a ≤ x → suc (a * s + r) ≤ x * s + q
  under h = omega (arith, mul-le-mul_right s h)

  level : a ≤ x → r < q → suc (a * s + r) ≤ x * s + q
  level h k = omega (arith, mul-le-mul_right s h)

  pub lex : (ltb a x || leb a x && ltb r q) ≡ ltb (a * s + r) (x * s + q)
  lex = go (ltb a x) refl (leb a x) refl
    where
      go : (t : Bool) → ltb a x ≡ t → (u : Bool) → leb a x ≡ u → (t || u && ltb r q) ≡ ltb (a * s + r) (x * s + q)
      go true e u e' = sym (lt-ltb (a * s + r) (x * s + q) (under (ltb-true a x e)))
      go false e true e' =
          leb_same (suc r) q (suc (a * s + r)) (x * s + q) (λ h. level (leb-true a x e') h)
          (λ h. omega (arith, mul-le-mul_right s (ltb-false a x e), h))
      go false e false e' = sym (le-ltb (a * s + r) (x * s + q) (omega (arith, mul-le-mul_right s (leb-false a x e'))))

  pub lex_same : (eqb a x && eqb r q) ≡ eqb (a * s + r) (x * s + q)
  lex_same =
      agree (eqb a x && eqb r q) (eqb (a * s + r) (x * s + q))
      (λ e. let h = and_both (eqb a x) (eqb r q) e in eq-eqb (a * s + r) (x * s + q) (ap₂ (λ m n. m * s + n) (eqb-true a x h.0) (eqb-true r q h.1)))
      (λ e. let h = eqb-true (a * s + r) (x * s + q) e in go h (leb a x) refl (leb x a) refl)
    where
      go : a * s + r ≡ x * s + q → (t : Bool) → leb a x ≡ t → (u : Bool) → leb x a ≡ u → (eqb a x && eqb r q) ≡ true
      go h true e true e' =
          let h₁ : a ≡ x = omega (arith, leb-true a x e, leb-true x a e') in
          both_and (eqb a x) (eqb r q) (eq-eqb a x h₁) (eq-eqb r q (omega (arith, h, ap (λ n. n * s) h₁)))
      go h false e u e' = absurd (omega (arith, h, mul-le-mul_right s (leb-false a x e)))
      go h true e false e' = absurd (omega (arith, h, mul-le-mul_right s (leb-false x a e')))
