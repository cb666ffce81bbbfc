-- Laws of whole chains.
--   turned_back                              flags that were turned twice are as they were
--   ending_first, ending_none, ending_past   after a turn the flags tell which keys of the chain occur an odd number of times
--   chain_here                               the chain that ends at a place
--   Covered, and its laws                    the chains that end before a place have been looked at
use mathlib.Core.Path.{◌≡◌, refl, sym, ◌∙◌, ap, subst}
use mathlib.Core.Bool.{Bool, true, false, xor}
use mathlib.Core.List.{List}
use Prim.Native.Nat.{ℕ, ◌+◌, ◌-◌, ◌<◌, ◌≤◌, min}
use native.Mathlib.Omega.{arith}
use borrow.Author.Tests.{ltb-true, ltb-false, leb-true, leb-false}
use lib.Dec.{eqb, ltb, leb}
use lib.ListN.{length, get_or}
use Rattle.meaning.specs.Counting.{count, odd}
use Rattle.meaning.proofs.First.{is_first}
use Rattle.chains.specs.Odd.{occurs_oddly, first_odd}
use Rattle.chains.specs.Chains.{high, low, Parted, latest, ends, Net, Chain, flagged, ups, odd_beside, Turned, FirstWith, FirstEnding}
use Rattle.chains.proofs.Parity.{xor_assoc, xor_self, false_xor, xor_false}
use Rattle.chains.proofs.Flags.{ups_none, ups_all}
use Rattle.chains.proofs.Links.{latest_le, latest_on, latest_gap, whole}

-- ---- what a turn tells

-- a chain that ends at a place is the chain of that place
same_chain : (ks : List ℕ) (i k : ℕ) → ends ks k ≡ i + 1 → high (get_or ks i 0) ≡ high (get_or ks k 0)
same_chain ks i k e =
    let is : i ≡ ends ks k - 1 = omega arith in
    ap (λ n. high (get_or ks n 0)) is ∙ latest_on ks (high (get_or ks k 0)) (length ks) (omega (arith, e))

module _ {ks : List ℕ} {last : ℕ} {flags₀ flags : List Bool} (down : ups flags₀ ≡ 0) (t : Turned ks last flags₀ flags) where
  pub turned_back : {after : List Bool} → Turned ks last flags after → length after ≡ 1025 → ups after ≡ 0
  turned_back {after} u long =
      ups_all after
      (λ b l.
      let m : b < 1025 = omega arith in
      u.every b m ∙ ap (λ v. xor v (odd_beside ks last b)) (t.every b m) ∙ undone (get_or flags₀ b false) (odd_beside ks last b) (ups_none flags₀ down b))
    where
      undone : (v o : Bool) → v ≡ false → xor (xor v o) o ≡ false
      undone v o e =
          xor_assoc v o o ∙ ap (xor v) (sym (ap (xor o) (xor_false o)) ∙ xor_self o false) ∙ xor_false v ∙ e

  -- the flag of a key of the chain
  flag_odd : Parted ks → (k : ℕ) → k < length ks → high (get_or ks k 0) ≡ high (get_or ks last 0) → flagged ks flags k ≡ occurs_oddly ks k
  flag_odd fit k l e =
      t.every (low (get_or ks k 0)) (fit k l).1 ∙
      ap (λ v. xor v (odd_beside ks last (low (get_or ks k 0)))) (ups_none flags₀ down (low (get_or ks k 0))) ∙
      false_xor (odd_beside ks last (low (get_or ks k 0))) ∙
      ap (λ key. odd (count (λ j. eqb key j) ks)) (whole (high (get_or ks last 0)) (get_or ks k 0) e)

  chain_first : Parted ks → {r : ℕ} → FirstWith (flagged ks flags) ks last r → FirstWith (occurs_oddly ks) ks last r
  chain_first fit f =
      record {
        within = f.within;
        found = λ l. ((f.found l).0, sym (flag_odd fit _ l (f.found l).0) ∙ (f.found l).1);
        before = λ k l e. sym (flag_odd fit k (omega (arith, f.within)) e) ∙ f.before k l e;
      }

  module _ (fit : Parted ks) (l : last < length ks) where
    pub ending_first : {r : ℕ} → FirstWith (flagged ks flags) ks last r → FirstEnding ks last r
    ending_first f =
        let g = chain_first fit f in
        record { within = g.within; found = λ m. (g.found m).1; before = λ k m e. g.before k m (sym (same_chain ks last k e)) }

    pub ending_none : ups flags ≡ 0 → FirstEnding ks last (length ks)
    ending_none none =
        ending_first
        (record { within = omega arith; found = λ m. absurd (omega arith); before = λ k m e. ups_none flags none (low (get_or ks k 0)) })

-- no chain ends here
pub ending_past : (ks : List ℕ) (i : ℕ) → (ends ks i ≡ i + 1 → ⊥) → FirstEnding ks i (length ks)
ending_past ks i not-here =
    record {
      within = omega arith;
      found = λ m. absurd (omega arith);
      before = λ k m e. absurd (not-here (ap (λ h. latest ks h (length ks)) (same_chain ks i k e) ∙ e));
    }

-- the chain that ends here, as a walk along it takes it
pub chain_here : {ks heads links : List ℕ} {i : ℕ} → Parted ks → Net ks heads links → i < length ks → ends ks i ≡ i + 1 → Chain ks links i
chain_here fit net l e = record { parted = fit; linked = net.linked; long = net.links_long; within = l; here = sym e }

-- ---- all chains

-- the chains that end before a place have been looked at
pub record Covered (ks : List ℕ) (first i : ℕ) : Type 0 where
  pub passed : i ≤ length ks
  pub within : first ≤ length ks
  pub found : first < length ks → occurs_oddly ks first ≡ true
  pub before : (k : ℕ) → k < first → ends ks k ≤ i → occurs_oddly ks k ≡ false

pub covered_none : (ks : List ℕ) → Covered ks (length ks) 0
covered_none ks =
    record {
      passed = omega arith;
      within = omega arith;
      found = λ l. absurd (omega arith);
      before = λ k l e. absurd (latest_gap ks (high (get_or ks k 0)) (length ks) k (omega arith) l refl);
    }

pub covered_next : {ks : List ℕ} {first i r m : ℕ} → Covered ks first i → i < length ks → FirstEnding ks i r → m ≡ min first r → Covered ks m (i + 1)
covered_next {ks} {first} {i} {r} {m} o l f is =
    record {
      passed = omega arith;
      within = omega (arith, o.within);
      found = by_least (leb first r) refl;
      before = λ k h e. by_end k h e (ltb i (ends ks k)) refl;
    }
  where
    by_least : (t : Bool) → leb first r ≡ t → m < length ks → occurs_oddly ks m ≡ true
    by_least true u h =
        let e : first ≡ m = omega (arith, leb-true first r u) in
        subst (λ (n : ℕ). occurs_oddly ks n ≡ true) e (o.found (omega arith))
    by_least false u h =
        let e : r ≡ m = omega (arith, leb-false first r u) in
        subst (λ (n : ℕ). occurs_oddly ks n ≡ true) e (f.found (omega arith))

    by_end : (k : ℕ) → k < m → ends ks k ≤ i + 1 → (t : Bool) → ltb i (ends ks k) ≡ t → occurs_oddly ks k ≡ false
    by_end k h e true u = f.before k (omega arith) (omega (arith, ltb-true i (ends ks k) u))
    by_end k h e false u = o.before k (omega arith) (ltb-false i (ends ks k) u)

pub covered_all : {ks : List ℕ} {first i : ℕ} → Covered ks first i → length ks ≤ i → first ≡ first_odd ks
covered_all {ks} {first} o l =
    is_first _ _ _
    (record {
      within = o.within;
      before = λ k m. o.before k m (omega (arith, latest_le ks (high (get_or ks k 0)) (length ks)));
      found = o.found;
    })
