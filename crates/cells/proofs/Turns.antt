-- Where a test of codes turns. Seen from a wish, a code at which the test holds lies behind a number at which it turns, unless it holds at the wish;
-- and at or on the near side of every number where it turns there is a code at which it holds. So the code just behind such a number stands for all
-- codes behind it, also where the test does not hold there: then it holds nearer.
--   turns                 whether a test turns at a number
--   Reached, to_turn      from a code at which the test holds to a number where it turns
--   Held, to_code         from such a number to a code at which the test holds
--   turns_sum             a sum over a list turns by the members with that high part alone
-- Assumes nothing.
use mathlib.Core.Path.{◌≡◌, refl, sym, ◌∙◌, ap, ap₂, subst}
use mathlib.Core.Logic.{◌⊎◌, inl, inr}
use mathlib.Core.Bool.{Bool, true, false, ◌&&◌, false≢true}
use mathlib.Core.List.{List}
use Prim.Native.Nat.{ℕ, zero, suc, ◌+◌, ◌-◌, ◌≤◌, ◌<◌}
use native.Mathlib.Omega.{arith}
use lib.Dec.{leb, ltb, eqb}
use borrow.Author.Tests.{leb-true, leb-false, ltb-true, ltb-false, le-leb, lt-leb, eq-eqb, ne_eqb}
use Rattle.meaning.proofs.Parity.{◌⊕◌, ⊕_and, sum, sum_⊕, sum_ext}
use Rattle.ranks.specs.Values.{behind}
use Rattle.ranks.proofs.Costs.{Away, behind_above, behind_upto}

abbrev pub turns : (ℕ → Bool) → ℕ → Bool
turns g zero = g zero
turns g (suc n) = g (suc n) ⊕ g n

-- a number where the test turns, such that the code behind it is worth no more than c
pub record Reached (g : ℕ → Bool) (v : ℕ → ℕ) (w n c : ℕ) : Type 0 where
  pub number : ℕ
  pub below : number < n
  pub turned : turns g number ≡ true
  pub near : v (behind w number) ≤ v c

-- a code at which the test holds, worth no more than the one behind a number
pub record Held (g : ℕ → Bool) (v : ℕ → ℕ) (w e : ℕ) : Type 0 where
  pub code : ℕ
  pub upto : code ≤ e
  pub holds : g code ≡ true
  pub near : v code ≤ v (behind w e)

module _ {w : ℕ} {v : ℕ → ℕ} (away : Away w v) (g : ℕ → Bool) where
  -- the code that a turn is known for may be another that is worth no less
  farther : {n c d : ℕ} → v c ≤ v d → (g w ≡ true) ⊎ Reached g v w n c → (g w ≡ true) ⊎ Reached g v w n d
  farther h (inl e) = inl e
  farther h (inr r) = inr (record { number = r.number; below = r.below; turned = r.turned; near = omega (arith, r.near) })

  above : (n c : ℕ) → w ≤ c → c < n → g c ≡ true → (g w ≡ true) ⊎ Reached g v w n c
  above n zero h k e = let s : zero ≡ w = omega arith in inl (subst (λ (a : ℕ). g a ≡ true) s e)
  above n (suc c) h k e = go (λ p q. above n c p (omega arith) q) (leb w c) refl (g c) refl
    where
      go : (w ≤ c → g c ≡ true → (g w ≡ true) ⊎ Reached g v w n c) → (t : Bool) → leb w c ≡ t → (b : Bool) → g c ≡ b
          → (g w ≡ true) ⊎ Reached g v w n (suc c)
      go back true p true q = farther (away.up c (suc c) (leb-true w c p) (omega arith)) (back (leb-true w c p) q)
      go back true p false q =
          inr
          (record {
            number = suc c;
            below = k;
            turned = ap₂ ◌⊕◌ e q;
            near = let s = leb-true w c p in omega (arith, ap v (behind_above w (suc c) (omega arith)));
          })
      go back false p b q = let s : suc c ≡ w = omega (arith, leb-false w c p) in inl (subst (λ (a : ℕ). g a ≡ true) s e)

  under : (n d c : ℕ) → c + d ≡ w → w < n → g c ≡ true → (g w ≡ true) ⊎ Reached g v w n c
  under n zero c h k e = let s : c ≡ w = omega arith in inl (subst (λ (a : ℕ). g a ≡ true) s e)
  under n (suc d) c h k e = go (λ q. under n d (suc c) (omega arith) k q) (g (suc c)) refl
    where
      go : (g (suc c) ≡ true → (g w ≡ true) ⊎ Reached g v w n (suc c)) → (b : Bool) → g (suc c) ≡ b → (g w ≡ true) ⊎ Reached g v w n c
      go back true q = farther (away.down c (suc c) (omega arith) (omega arith)) (back q)
      go back false q =
          let s : suc c - 1 ≡ c = omega arith in
          inr
          (record {
            number = suc c;
            below = omega arith;
            turned = ap₂ ◌⊕◌ q e;
            near = omega (arith, ap v (behind_upto w (suc c) (omega arith) ∙ s));
          })

  pub to_turn : (n c : ℕ) → w < n → c < n → g c ≡ true → (g w ≡ true) ⊎ Reached g v w n c
  to_turn n c h k e = go (leb w c) refl
    where
      go : (t : Bool) → leb w c ≡ t → (g w ≡ true) ⊎ Reached g v w n c
      go true p = above n c (leb-true w c p) k e
      go false p = under n (w - c) c (omega (arith, leb-false w c p)) h e

  pub to_code : (e : ℕ) → turns g e ≡ true → Held g v w e
  to_code zero h =
      let s = behind_upto w 0 (omega arith) in
      record { code = 0; upto = omega arith; holds = h; near = omega (arith, ap v s) }
  to_code (suc n) h = go (ltb w (suc n)) refl (g (suc n)) refl (g n) refl
    where
      go : (t : Bool) → ltb w (suc n) ≡ t → (a : Bool) → g (suc n) ≡ a → (b : Bool) → g n ≡ b → Held g v w (suc n)
      go true p true q b r =
          let s = behind_above w (suc n) (ltb-true w (suc n) p) in
          record { code = suc n; upto = omega arith; holds = q; near = omega (arith, ap v s) }
      go true p false q b r =
          let k = ltb-true w (suc n) p in
          let s = behind_above w (suc n) k in
          record {
            code = n;
            upto = omega arith;
            holds = sym (ap (◌⊕ g n) q) ∙ h;
            near = omega (arith, ap v s, away.up n (suc n) (omega arith) (omega arith));
          }
      go false p a q true r =
          let s : suc n - 1 ≡ n = omega arith in
          let b = behind_upto w (suc n) (ltb-false w (suc n) p) in
          record { code = n; upto = omega arith; holds = r; near = omega (arith, ap v (b ∙ s)) }
      go false p true q false r =
          let s : suc n - 1 ≡ n = omega arith in
          let k = ltb-false w (suc n) p in
          let b = behind_upto w (suc n) k in
          record {
            code = suc n;
            upto = omega arith;
            holds = q;
            near = omega (arith, ap v (b ∙ s), away.down n (suc n) (omega arith) k);
          }
      go false p false q false r = absurd (false≢true (sym (ap₂ ◌⊕◌ q r) ∙ h))

-- ---- sums over a list

leb_zero : (h : ℕ) → leb h 0 ≡ eqb h 0
leb_zero zero = refl
leb_zero (suc h) = lt-leb (suc h) 0 (omega arith) ∙ sym (ne_eqb (suc h) 0 (λ e. omega arith))

leb_turn : (h n : ℕ) → (leb h (suc n) ⊕ leb h n) ≡ eqb h (suc n)
leb_turn h n = go (leb h n) refl (leb h (suc n)) refl
  where
    go : (t : Bool) → leb h n ≡ t → (u : Bool) → leb h (suc n) ≡ u → (leb h (suc n) ⊕ leb h n) ≡ eqb h (suc n)
    go true p u q =
        let k = leb-true h n p in
        ap₂ ◌⊕◌ (le-leb h (suc n) (omega arith)) p ∙ sym (ne_eqb h (suc n) (λ e. omega arith))
    go false p true q =
        ap₂ ◌⊕◌ q p ∙ sym (eq-eqb h (suc n) (omega (arith, leb-false h n p, leb-true h (suc n) q)))
    go false p false q = ap₂ ◌⊕◌ q p ∙ sym (ne_eqb h (suc n) (λ e. omega (arith, leb-false h (suc n) q)))

pub turns_sum : (hi : ℕ → ℕ) (p : ℕ → Bool) (l : List ℕ) (e : ℕ)
    → turns (λ c. sum (λ k. leb (hi k) c && p k) l) e ≡ sum (λ k. eqb (hi k) e && p k) l
turns_sum hi p l zero = sum_ext (λ k. leb (hi k) 0 && p k) (λ k. eqb (hi k) 0 && p k) l (λ k. ap (◌&& p k) (leb_zero (hi k)))
turns_sum hi p l (suc n) =
    sym (sum_⊕ (λ k. leb (hi k) (suc n) && p k) (λ k. leb (hi k) n && p k) l) ∙
    sum_ext (λ k. (leb (hi k) (suc n) && p k) ⊕ (leb (hi k) n && p k)) (λ k. eqb (hi k) (suc n) && p k) l
    (λ k. sym (⊕_and (leb (hi k) (suc n)) (leb (hi k) n) (p k)) ∙ ap (◌&& p k) (leb_turn (hi k) n))
