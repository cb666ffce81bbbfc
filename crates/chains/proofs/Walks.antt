-- Laws of a walk along a chain, from its last place to its first.
--   On, and its laws           where a walk stands: at a place of the chain, from 1, or at its end
--   read                       what is read at a place of the walk
--   Walked, and its laws       a walk that turns flags: what was turned, with what is left of the chain, is the whole
--   Searched, and its laws     a walk that looks for a property
use mathlib.Core.Path.{◌≡◌, refl, sym, ◌∙◌, ap, ap₂, subst}
use mathlib.Core.Bool.{Bool, true, false, not, xor}
use mathlib.Core.List.{List}
use Prim.Native.Nat.{ℕ, suc, ◌+◌, ◌*◌, ◌-◌, ◌<◌, ◌≤◌}
use native.Mathlib.Omega.{arith}
use borrow.Author.Tests.{ltb-true, ltb-false}
use lib.Dec.{eqb, ltb}
use lib.ListN.{length, take, get_or, set, length-set}
use lib.Seq.{take-suc, take-length}
use Rattle.meaning.specs.Counting.{count, odd}
use Rattle.chains.specs.Chains.{high, low, latest, prior, ends, ups, Chain, odd_beside, Turned, FirstWith}
use Rattle.chains.proofs.Parity.{xor_assoc, xor_comm, xor_false, odd_snoc}
use Rattle.chains.proofs.Flags.{turned, ups_down, ups_up}
use Rattle.chains.proofs.Links.{latest_le, latest_on, latest_gap, latest_skip, beside}

module _ (ks : List ℕ) (last : ℕ) where
  abbrev part : ℕ
  part = high (get_or ks last 0)

  -- where a walk stands: at a place of the chain, from 1, or at its end
  pub record On (at : ℕ) : Type 0 where
    pub within : at ≤ length ks
    pub on : 0 < at → high (get_or ks (at - 1) 0) ≡ part

  pub on_first : last + 1 ≡ ends ks last → last < length ks → On (last + 1)
  on_first e l = record { within = omega arith; on = λ h. ap (λ n. high (get_or ks n 0)) (omega arith) }

  -- what is read at a place of the walk is the place before it
  pub read : {links : List ℕ} {at place : ℕ} → Chain ks links last → On at → (1 ≤ at) × (place ≡ at - 1) → get_or links place 0 ≡ prior ks (at - 1)
  read {links} {at} {place} chain o is = chain.linked place (omega (arith, is, o.within)) ∙ ap (prior ks) is.1

  module _ {at next : ℕ} (o : On at) (h : 0 < at) (e : next ≡ prior ks (at - 1)) where
    pub next_is : next ≡ latest ks part (at - 1)
    next_is = e ∙ ap (λ n. latest ks n (at - 1)) (o.on h)

    pub on_next : On next
    on_next =
        record {
          within = omega (arith, next_is, latest_le ks part (at - 1), o.within);
          on = λ l. subst (λ (n : ℕ). 0 < n → high (get_or ks (n - 1) 0) ≡ part) (sym next_is) (latest_on ks part (at - 1)) l;
        }

    pub next_less : next < at
    next_less = omega (arith, next_is, latest_le ks part (at - 1))

    pub next_gap : (k : ℕ) → next ≤ k → k < at - 1 → high (get_or ks k 0) ≡ part → ⊥
    next_gap k l m = latest_gap ks part (at - 1) k (omega (arith, next_is)) m

  -- how often a key of the chain occurs among the first places
  abbrev oddly : ℕ → ℕ → Bool
  oddly b at = odd (count (λ k. eqb (part * 2048 + b) k) (take at ks))

  -- what was turned, with what is left of the chain, is the whole
  pub record Walked (flags₀ flags : List Bool) (up at : ℕ) : Type 0 where
    pub stands : On at
    pub long : length flags ≡ length flags₀
    pub counted : up ≡ ups flags
    pub every : (b : ℕ) → b < 1025 → xor (get_or flags b false) (oddly b at) ≡ xor (get_or flags₀ b false) (odd_beside ks last b)

  pub walked_first : (flags : List Bool) {up : ℕ} → up ≡ ups flags → last + 1 ≡ ends ks last → last < length ks → Walked flags flags up (last + 1)
  walked_first flags c e l =
      record {
        stands = on_first e l;
        long = refl;
        counted = c;
        every = λ b m. ap (xor (get_or flags b false))
            (ap (oddly b) e ∙
            sym (latest_skip ks part (part * 2048 + b) (omega arith) (length ks) (omega arith)) ∙
            ap (λ z. odd (count (λ k. eqb (part * 2048 + b) k) z)) (take-length ks));
      }

  -- the place at which a walk stands, and the next one
  module _ {flags₀ flags : List Bool} {up at next l : ℕ} (o : Walked flags₀ flags up at) (h : 0 < at) (e : next ≡ prior ks (at - 1))
      (is : l ≡ low (get_or ks (at - 1) 0)) (fits : l < length flags) where
    abbrev place : ℕ
    place = at - 1

    abbrev key : ℕ
    key = get_or ks place 0

    next_place : suc place ≡ at
    next_place = omega arith

    one : {v : Bool} (w : Bool) → get_or flags l false ≡ v → w ≡ not v → (b : ℕ) → b < 1025 →
        xor (get_or (set flags l w) b false) (oddly b next) ≡ xor (get_or flags b false) (oddly b at)
    one w was now b m =
        ap₂ xor (turned flags l b fits was now ∙ ap (λ n. xor (get_or flags b false) (eqb b n)) is)
        (ap (oddly b) (next_is o.stands h e) ∙ sym (latest_skip ks part (part * 2048 + b) (omega arith) place (omega (arith, o.stands.within)))) ∙
        xor_assoc (get_or flags b false) (eqb b (low key)) (oddly b place) ∙
        ap (xor (get_or flags b false))
        (xor_comm (eqb b (low key)) (oddly b place) ∙
        ap (xor (oddly b place)) (sym (beside part b key m (o.stands.on h))) ∙
        sym (odd_snoc (λ k. eqb (part * 2048 + b) k) (take place ks) key) ∙
        ap (λ z. odd (count (λ k. eqb (part * 2048 + b) k) z)) (sym (take-suc ks place 0 (omega (arith, o.stands.within)))) ∙
        ap (oddly b) next_place)

    step : {flags' : List Bool} {up' : ℕ} {v : Bool} (w : Bool) → get_or flags l false ≡ v → w ≡ not v → flags' ≡ set flags l w →
        up' ≡ ups (set flags l w) → Walked flags₀ flags' up' next
    step {flags'} {up'} w was now e' c =
        record {
          stands = on_next o.stands h e;
          long = ap length e' ∙ length-set flags l w ∙ o.long;
          counted = c ∙ ap ups (sym e');
          every = λ b m. ap (λ z. xor (get_or z b false) (oddly b next)) e' ∙ one w was now b m ∙ o.every b m;
        }

    pub walked_down : {flags' : List Bool} {up' : ℕ} → get_or flags l false ≡ true → flags' ≡ set flags l false → up' ≡ up - 1 → Walked flags₀ flags' up' next
    walked_down was e' c = step false was refl e' (omega (arith, ups_down flags l fits was, o.counted))

    pub walked_up : {flags' : List Bool} {up' : ℕ} → get_or flags l false ≡ false → flags' ≡ set flags l true → up' ≡ up + 1 → Walked flags₀ flags' up' next
    walked_up was e' c = step true was refl e' (omega (arith, ups_up flags l fits was, o.counted))

  pub walked_last : {flags₀ flags : List Bool} {up at : ℕ} → Walked flags₀ flags up at → at ≤ 0 → Turned ks last flags₀ flags
  walked_last {flags₀} {flags} {up} {at} o z =
      record { every = λ b m. sym (xor_false (get_or flags b false)) ∙ ap (λ n. xor (get_or flags b false) (oddly b n)) (sym (none at z)) ∙ o.every b m }
    where
      none : (n : ℕ) → n ≤ 0 → n ≡ 0
      none n l = omega arith

  -- the places of the chain from here on have been looked at
  pub record Searched (p : ℕ → Bool) (found at : ℕ) : Type 0 where
    pub stands : On at
    pub under : at ≤ found
    pub within : found ≤ length ks
    pub hit : found < length ks → (high (get_or ks found 0) ≡ part) × (p found ≡ true)
    pub behind : (k : ℕ) → at ≤ k → k < found → high (get_or ks k 0) ≡ part → p k ≡ false

  module _ (p : ℕ → Bool) where
    pub searched_first : last + 1 ≡ ends ks last → last < length ks → Searched p (length ks) (last + 1)
    searched_first e l =
        record {
          stands = on_first e l;
          under = omega arith;
          within = omega arith;
          hit = λ h. absurd (omega arith);
          behind = λ k g m q. absurd (latest_gap ks part (length ks) k (omega arith) m q);
        }

    module _ {found at next : ℕ} (o : Searched p found at) (h : 0 < at) (e : next ≡ prior ks (at - 1)) where
      pub searched_hit : p (at - 1) ≡ true → Searched p (at - 1) next
      searched_hit y =
          record {
            stands = on_next o.stands h e;
            under = omega (arith, next_less o.stands h e);
            within = omega (arith, o.stands.within);
            hit = λ l. (o.stands.on h, y);
            behind = λ k g m q. absurd (next_gap o.stands h e k g m q);
          }

      pub searched_miss : p (at - 1) ≡ false → Searched p found next
      searched_miss y =
          record {
            stands = on_next o.stands h e;
            under = omega (arith, next_less o.stands h e, o.under);
            within = o.within;
            hit = o.hit;
            behind = λ k g m q. by k m q (ltb k (at - 1)) (ltb k at) refl refl g;
          }
        where
          by : (k : ℕ) → k < found → high (get_or ks k 0) ≡ part → (t u : Bool) → ltb k (at - 1) ≡ t → ltb k at ≡ u → next ≤ k →
              p k ≡ false
          by k m q true u a b g = absurd (next_gap o.stands h e k g (ltb-true k (at - 1) a) q)
          by k m q false true a b g =
              let is : at - 1 ≡ k = omega (arith, ltb-false k (at - 1) a, ltb-true k at b) in
              subst (λ (n : ℕ). p n ≡ false) is y
          by k m q false false a b g = o.behind k (ltb-false k at b) m q

    pub searched_last : {found at : ℕ} → Searched p found at → at ≤ 0 → FirstWith p ks last found
    searched_last o z = record { within = o.within; found = o.hit; before = λ k l. o.behind k (omega arith) l }
