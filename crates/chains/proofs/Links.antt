-- Laws of the last place with a high part, and of linking places.
--   latest_le, latest_on, latest_gap     the last place with a high part: within the places; has it; behind it none has
--   latest_skip                          a key with that high part occurs behind it no more
--   Linking, and its laws                the first places are linked: none; one more; all
--   no_heads                             of new heads each is 0
--   whole, beside                        a key is its high part times 2048 and its low part; keys with one high part differ in the low part
use mathlib.Core.Path.{◌≡◌, refl, sym, ◌∙◌, ap, subst}
use mathlib.Core.Bool.{Bool, true, false, xor, cond}
use mathlib.Core.List.{List}
use Prim.Native.Nat.{ℕ, zero, suc, ◌+◌, ◌*◌, ◌-◌, ◌<◌, ◌≤◌}
use native.Mathlib.Numerals.{add-one}
use native.Mathlib.Omega.{arith}
use borrow.Author.Count.{below_more}
use borrow.Author.Tests.{eqb-true, eqb-false, eq-eqb, ne_eqb, ltb-true, ltb-false}
use lib.Dec.{eqb, ltb}
use lib.ListN.{length, take, get_or, set, replicate, length-set}
use lib.Seq.{take-suc, get_or-set_same, get_or-set_other}
use Rattle.meaning.specs.Counting.{count, odd}
use Rattle.chains.specs.Chains.{high, low, latest, Headed, Linked, Net}
use Rattle.chains.proofs.Parity.{xor_false, odd_snoc}

-- ---- the last place with a high part

back : (i : ℕ) → suc i - 1 ≡ i
back i = omega arith

module _ (ks : List ℕ) (h : ℕ) where
  abbrev has : ℕ → Bool
  has i = eqb (high (get_or ks i 0)) h

  pub latest_le : (i : ℕ) → latest ks h i ≤ i
  unfolding latest
  latest_le zero = omega arith
  latest_le (suc i) = go (has i) (latest_le i)
    where
      go : (t : Bool) → latest ks h i ≤ i → cond t (suc i) (latest ks h i) ≤ suc i
      go true l = omega arith
      go false l = omega arith

  pub latest_on : (i : ℕ) → 0 < latest ks h i → high (get_or ks (latest ks h i - 1) 0) ≡ h
  unfolding latest
  latest_on zero = λ l. absurd (omega arith)
  latest_on (suc i) = go (has i) refl (latest_on i)
    where
      go : (t : Bool) → has i ≡ t → (0 < latest ks h i → high (get_or ks (latest ks h i - 1) 0) ≡ h) →
          0 < cond t (suc i) (latest ks h i) → high (get_or ks (cond t (suc i) (latest ks h i) - 1) 0) ≡ h
      go true e f l = ap (λ n. high (get_or ks n 0)) (back i) ∙ eqb-true (high (get_or ks i 0)) h e
      go false e f l = f l

  pub latest_gap : (i k : ℕ) → latest ks h i ≤ k → k < i → high (get_or ks k 0) ≡ h → ⊥
  unfolding latest
  latest_gap zero k = λ g l e. omega arith
  latest_gap (suc i) k = go (has i) refl (latest_gap i k)
    where
      go : (t : Bool) → has i ≡ t → (latest ks h i ≤ k → k < i → high (get_or ks k 0) ≡ h → ⊥) →
          cond t (suc i) (latest ks h i) ≤ k → k < suc i → high (get_or ks k 0) ≡ h → ⊥
      go true e f g l q = omega arith
      go false e f g l q = by_last (ltb k i) refl
        where
          by_last : (t : Bool) → ltb k i ≡ t → ⊥
          by_last true u = f g (ltb-true k i u) q
          by_last false u =
              let is : k ≡ i = omega (arith, ltb-false k i u) in
              eqb-false (high (get_or ks i 0)) h e (subst (λ (m : ℕ). high (get_or ks m 0) ≡ h) is q)

  pub latest_skip : (key : ℕ) → high key ≡ h → (i : ℕ) → i ≤ length ks →
      odd (count (λ k. eqb key k) (take i ks)) ≡ odd (count (λ k. eqb key k) (take (latest ks h i) ks))
  unfolding latest
  latest_skip key e zero l = refl
  latest_skip key e (suc i) l = go (has i) refl (latest_skip key e i (omega arith))
    where
      go : (t : Bool) → has i ≡ t → odd (count (λ k. eqb key k) (take i ks)) ≡ odd (count (λ k. eqb key k) (take (latest ks h i) ks)) →
          odd (count (λ k. eqb key k) (take (suc i) ks)) ≡ odd (count (λ k. eqb key k) (take (cond t (suc i) (latest ks h i)) ks))
      go true u f = refl
      go false u f =
          let other : eqb key (get_or ks i 0) ≡ false = ne_eqb key (get_or ks i 0) (λ q. eqb-false (high (get_or ks i 0)) h u (ap high (sym q) ∙ e)) in
          ap (λ l. odd (count (λ k. eqb key k) l)) (take-suc ks i 0 (omega arith)) ∙
          odd_snoc (λ k. eqb key k) (take i ks) (get_or ks i 0) ∙
          ap (xor (odd (count (λ k. eqb key k) (take i ks)))) other ∙
          xor_false (odd (count (λ k. eqb key k) (take i ks))) ∙
          f

-- ---- linking

pub latest_more : (ks : List ℕ) (h i : ℕ) → latest ks h (i + 1) ≡ cond (eqb (high (get_or ks i 0)) h) (i + 1) (latest ks h i)
unfolding latest
latest_more ks h i = rw add-one

-- the first places are linked
pub record Linking (ks heads links : List ℕ) (i : ℕ) : Type 0 where
  pub within : i ≤ length ks
  pub heads_long : length heads ≡ 1025
  pub links_long : length ks ≤ length links
  pub headed : Headed ks i heads
  pub linked : Linked ks i links

pub linking_first : (ks heads links : List ℕ) → (length heads ≡ 1025) × (length ks ≤ length links) → ((h : ℕ) → get_or heads h 0 ≡ 0) →
    Linking ks heads links 0
unfolding latest
linking_first ks heads links long down =
    record { within = omega arith; heads_long = long.0; links_long = long.1; headed = λ h l. down h; linked = λ i l. absurd (omega arith) }

-- of new heads each is 0
pub no_heads : (n h : ℕ) → get_or {A = ℕ} (replicate n 0) h 0 ≡ 0
no_heads zero h = refl
no_heads (suc n) zero = refl
no_heads (suc n) (suc h) = no_heads n h

pub linking_next : {ks heads links : List ℕ} {i h : ℕ} → Linking ks heads links i → i < length ks → h < 1025 → h ≡ high (get_or ks i 0) →
    Linking ks (set heads h (i + 1)) (set links i (get_or heads h 0)) (i + 1)
linking_next {ks} {heads} {links} {i} {h} o l f e =
    record {
      within = omega arith;
      heads_long = length-set heads h (i + 1) ∙ o.heads_long;
      links_long = omega (arith, length-set links i (get_or heads h 0), o.links_long);
      headed = λ j m. head j m (eqb h j) refl ∙ sym (latest_more ks j i);
      linked = below_more _ i (λ k m. get_or-set_other links i k (get_or heads h 0) 0 (λ q. omega arith) ∙ o.linked k m) (link ∙ ap (λ n. latest ks n i) e);
    }
  where
    link : get_or (set links i (get_or heads h 0)) i 0 ≡ latest ks h i
    link = get_or-set_same links i (get_or heads h 0) 0 (omega (arith, o.links_long)) ∙ o.headed h f

    head : (j : ℕ) → j < 1025 → (t : Bool) → eqb h j ≡ t →
        get_or (set heads h (i + 1)) j 0 ≡ cond (eqb (high (get_or ks i 0)) j) (i + 1) (latest ks j i)
    head j m true q =
        let is : h ≡ j = eqb-true h j q in
        ap (λ n. get_or (set heads h (i + 1)) n 0) (sym is) ∙
        get_or-set_same heads h (i + 1) 0 (omega (arith, o.heads_long)) ∙
        sym (ap (λ t. cond t (i + 1) (latest ks j i)) (ap (λ n. eqb n j) (sym e) ∙ q))
    head j m false q =
        get_or-set_other heads h j (i + 1) 0 (λ is. eqb-false h j q (sym is)) ∙
        o.headed j m ∙
        sym (ap (λ t. cond t (i + 1) (latest ks j i)) (ap (λ n. eqb n j) (sym e) ∙ q))

pub linking_all : {ks heads links : List ℕ} {i : ℕ} → Linking ks heads links i → i ≡ length ks → Net ks heads links
linking_all {ks} {heads} {links} o all =
    record {
      heads_long = o.heads_long;
      links_long = o.links_long;
      headed = subst (λ (n : ℕ). Headed ks n heads) all o.headed;
      linked = subst (λ (n : ℕ). Linked ks n links) all o.linked;
    }

-- ---- the parts of a key

pub whole : (h key : ℕ) → high key ≡ h → h * 2048 + low key ≡ key
whole h key e = omega arith

-- a key with the high part h and the low part b, beside another with that high part
pub beside : (h b key : ℕ) → b < 1025 → high key ≡ h → eqb (h * 2048 + b) key ≡ eqb b (low key)
beside h b key l e = go (eqb b (low key)) refl
  where
    go : (t : Bool) → eqb b (low key) ≡ t → eqb (h * 2048 + b) key ≡ t
    go true u = eq-eqb (h * 2048 + b) key (omega (arith, eqb-true b (low key) u))
    go false u = ne_eqb (h * 2048 + b) key (λ q. eqb-false b (low key) u (omega arith))
