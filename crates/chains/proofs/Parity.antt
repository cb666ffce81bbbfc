-- Laws of odd numbers of things, as exclusive or.
--   xor_assoc, xor_comm, xor_left    exclusive or: grouping, order
--   xor_self, false_xor, xor_false   the same twice; nothing
--   odd_cons, odd_append, odd_snoc   whether an odd number of a list passes a test
--   Evenly, paired_more, paired_all  equal neighbours, two by two, so that every key occurs evenly
--   odd_read, odd_whole              the same of a list that is read from the front: one member more; all of them
use mathlib.Core.Path.{◌≡◌, refl, ap, ap₂, sym, ◌∙◌}
use mathlib.Core.Bool.{Bool, true, false, not, beq, cond, xor, true≢false}
use mathlib.Core.List.{List, [], ◌∷◌, ◌++◌}
use Prim.Native.Nat.{ℕ, suc, ◌+◌, ◌≤◌, ◌<◌}
use native.Mathlib.Numerals.{add-one}
use native.Mathlib.Omega.{arith}
use lib.ListN.{length, take, get_or}
use lib.Seq.{take-suc, take_all, take-length}
use lib.Dec.{eqb}
use Rattle.meaning.specs.Counting.{count, odd}
use Rattle.meaning.proofs.Parity.{◌⊕◌, sum, odd_count, sum_append}

pub xor_assoc : (a b c : Bool) → xor (xor a b) c ≡ xor a (xor b c)
unfolding xor
xor_assoc true true true = refl
xor_assoc true true false = refl
xor_assoc true false true = refl
xor_assoc true false false = refl
xor_assoc false true true = refl
xor_assoc false true false = refl
xor_assoc false false true = refl
xor_assoc false false false = refl

pub xor_comm : (a b : Bool) → xor a b ≡ xor b a
unfolding xor
xor_comm true true = refl
xor_comm true false = refl
xor_comm false true = refl
xor_comm false false = refl

pub xor_left : (a b c : Bool) → xor a (xor b c) ≡ xor b (xor a c)
xor_left a b c = sym (xor_assoc a b c) ∙ (ap (λ (d : Bool). xor d c) (xor_comm a b) ∙ xor_assoc b a c)

pub xor_self : (a b : Bool) → xor a (xor a b) ≡ b
unfolding xor
xor_self true true = refl
xor_self true false = refl
xor_self false true = refl
xor_self false false = refl

pub false_xor : (b : Bool) → xor false b ≡ b
unfolding xor
false_xor true = refl
false_xor false = refl

pub xor_false : (b : Bool) → xor b false ≡ b
unfolding xor
xor_false true = refl
xor_false false = refl

module _ {A : Type 0} (p : A → Bool) where
  -- one member in front
  pub odd_cons : (x : A) (l : List A) → odd (count p (x ∷ l)) ≡ xor (p x) (odd (count p l))
  unfolding xor
  odd_cons x l = by_cases (p x) (odd (count p l)) (count p l) refl
    where
      by_cases : (b o : Bool) (n : ℕ) → odd n ≡ o → odd (cond b (suc n) n) ≡ not (beq b o)
      by_cases true true n e = ap not e
      by_cases true false n e = ap not e
      by_cases false true n e = e
      by_cases false false n e = e

  -- two lists, one after the other
  pub odd_append : (l m : List A) → odd (count p (l ++ m)) ≡ xor (odd (count p l)) (odd (count p m))
  odd_append [] m = sym (false_xor _)
  odd_append (x ∷ l) m = rw (odd_cons x (l ++ m), odd_cons x l, odd_append l m, xor_assoc (p x))

  -- one member behind
  pub odd_snoc : (l : List A) (x : A) → odd (count p (l ++ (x ∷ []))) ≡ xor (odd (count p l)) (p x)
  odd_snoc l x = odd_append l (x ∷ []) ∙ ap (xor (odd (count p l))) (odd_cons x [] ∙ xor_false (p x))

module _ (p : ℕ → Bool) (l : List ℕ) (i : ℕ) where
  pub odd_read : {b : Bool} → i < length l → b ≡ odd (count p (take i l))
      → xor b (p (get_or l i 0)) ≡ odd (count p (take (i + 1) l))
  odd_read h e = rw (add-one, take-suc l i 0, e) (sym (odd_snoc p (take i l) (get_or l i 0)))

  pub odd_whole : {b : Bool} → length l ≤ i → b ≡ odd (count p (take i l)) → b ≡ odd (count p l)
  odd_whole h e = e ∙ ap (λ (m : List ℕ). odd (count p m)) (take_all i l h)

-- ---- equal neighbours

-- every key occurs evenly among the first i
abbrev pub Evenly : List ℕ → ℕ → Type 0
Evenly l i = (key : ℕ) → odd (count (λ k. eqb key k) (take i l)) ≡ false

pub paired_more : (l : List ℕ) (i : ℕ) → i + 1 < length l → get_or l i 0 ≡ get_or l (i + 1) 0 → Evenly l i → Evenly l (i + 2)
paired_more l i h e even key =
    let p : i + 2 ≡ suc (suc i) = omega arith in
    let q : i + 1 ≡ suc i = omega arith in
    odd_count (eqb key) (take (i + 2) l) ∙
    ap (λ n. sum (eqb key) (take n l)) p ∙
    ap (sum (eqb key)) (take-suc l (suc i) 0 (omega arith)) ∙
    sum_append (eqb key) (take (suc i) l) (get_or l (suc i) 0 ∷ []) ∙
    ap₂ ◌⊕◌ (ap (sum (eqb key)) (take-suc l i 0 (omega arith)) ∙ sum_append (eqb key) (take i l) (get_or l i 0 ∷ []))
    (ap (λ n. eqb key n ⊕ false) (ap (λ n. get_or l n 0) (sym q) ∙ sym e)) ∙
    undone (sum (eqb key) (take i l)) (eqb key (get_or l i 0)) (sym (odd_count (eqb key) (take i l)) ∙ even key)
  where
    undone : (s t : Bool) → s ≡ false → ((s ⊕ (t ⊕ false)) ⊕ (t ⊕ false)) ≡ false
    undone true t f = absurd (true≢false f)
    undone false true f = refl
    undone false false f = refl

pub paired_all : (l : List ℕ) (i : ℕ) → i ≡ length l → Evenly l i → (key : ℕ) → odd (count (λ k. eqb key k) l) ≡ false
paired_all l i e even key = ap (λ m. odd (count (λ k. eqb key k) m)) (sym (ap (λ n. take n l) e ∙ take-length l)) ∙ even key
