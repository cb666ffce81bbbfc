-- What the functions of a turn show of lists.
-- Assumes nothing.
use mathlib.Core.Path.{◌≡◌, refl, sym, ◌∙◌, ap, ap₂, subst}
use mathlib.Core.Logic.{◌⊎◌, inl, inr, ⊎_elim}
use mathlib.Core.Bool.{Bool, true, false, cond}
use mathlib.Core.List.{List, [], ◌∷◌, ◌++◌}
use Prim.Native.Nat.{ℕ, suc, ◌+◌, ◌-◌, ◌*◌, ◌/◌, ◌%◌, ◌^◌, ◌≤◌, ◌<◌, min}
use native.Mathlib.Nat.{mod-le, mod-lt, div-add-mod', add-sub_cancel, mul-mod_left}
use native.Mathlib.Omega.{arith}
use lib.Dec.{ltb}
use lib.ListN.{length, take, drop, get_or, drop_of_length-le, length-drop, length-map}
use lib.Seq.{drop-cons, take-suc, get_or-drop, take_at, length-take-le}
use borrow.Author.Tests.{ltb-true, ltb-false}
use Rattle.std.specs.List.{prefix_len}
use Rattle.std.proofs.lemmas.List.{drop-drop}
use Rattle.std.proofs.lemmas.List.Sums.{prefix_len-le-length}
use Rattle.meaning.specs.Counting.{All}
use Rattle.meaning.proofs.Space.{all_map, all_append}
use Rattle.rising.specs.Merged.{From, merged, less_base, plus_base}
use Rattle.rising.proofs.Merging.{merged_nil}
use Rattle.rising.proofs.Sums.{from_above, all_merged, length_merged}
use Rattle.turn.specs.Turn.{Least, Ran, NextOf, Advanced, plane_of, Taken}
use Rattle.turn.proofs.Lists.{from_drop, all_take, all_drop, all_begins, plus_zero, front_of}

-- ---- the least key that is left

pub from_at : (l : List ℕ) (i : ℕ) → From 0 l → i < length l → All (λ k. get_or l i 0 ≤ k) (drop i l)
from_at l i h u =
    subst (All (λ k. get_or l i 0 ≤ k)) (sym (drop-cons l i 0 u)) (
      omega arith,
      all_map (drop (suc i) l) (λ k q. omega arith) (from_above (suc (get_or l i 0)) (drop (suc i) l)
          (subst (From 0) (drop-cons l i 0 u) (from_drop 0 i l h)).1),
    )

all_ended : (Q : ℕ → Type 0) (l : List ℕ) (i : ℕ) → length l ≤ i → All Q (drop i l)
all_ended Q l i h = subst (All Q) (sym (drop_of_length-le l h)) tt

module _ (a b : List ℕ) (i j : ℕ) (ra : From 0 a) (rb : From 0 b) where
  pub least_b : length a ≤ i → j < length b → Least a i b j (get_or b j 0)
  least_b h u = record { in_a = all_ended (λ k. get_or b j 0 ≤ k) a i h; in_b = from_at b j rb u; one_of = inr (u, refl) }

  pub least_a : i < length a → length b ≤ j → Least a i b j (get_or a i 0)
  least_a h u = record { in_a = from_at a i ra h; in_b = all_ended (λ k. get_or a i 0 ≤ k) b j u; one_of = inl (h, refl) }

  pub least_both : {key : ℕ} → i < length a → j < length b → key ≡ min (get_or a i 0) (get_or b j 0) → Least a i b j key
  least_both {key} h u e =
      record {
        in_a = all_map (drop i a) (λ k q. omega arith) (from_at a i ra h);
        in_b = all_map (drop j b) (λ k q. omega arith) (from_at b j rb u);
        one_of = go (ltb (get_or b j 0) (get_or a i 0)) refl;
      }
    where
      go : (t : Bool) → ltb (get_or b j 0) (get_or a i 0) ≡ t → ((i < length a) × (get_or a i 0 ≡ key)) ⊎ ((j < length b) × (get_or b j 0 ≡ key))
      go true q = inr (u, omega (arith, ltb-true (get_or b j 0) (get_or a i 0) q))
      go false q = inl (h, omega (arith, ltb-false (get_or b j 0) (get_or a i 0) q))

pub least_left : (Q : ℕ → Type 0) (a b : List ℕ) (i j key : ℕ) → Least a i b j key → All Q (drop i a) → All Q (drop j b) → Q key
least_left Q a b i j key l ha hb =
    ⊎_elim (λ r. subst Q r.1 (all_begins Q a i ha r.0)) (λ r. subst Q r.1 (all_begins Q b j hb r.0)) l.one_of

pub least_one : (Q : ℕ → Type 0) (a b : List ℕ) (i j key : ℕ) → Least a i b j key → All Q a → All Q b → Q key
least_one Q a b i j key l ha hb = least_left Q a b i j key l (all_drop Q i a ha) (all_drop Q j b hb)

-- ---- a run of keys

run_more : (Q : ℕ → Type 0) (l : List ℕ) (i e : ℕ) → i ≤ e → e < length l → All Q (plane_of l i e) → Q (get_or l e 0) → All Q (plane_of l i (e + 1))
run_more Q l i e h u r q =
    let n : e + 1 - i ≡ suc (e - i) = omega arith in
    let w : e - i < length (drop i l) = omega (arith, length-drop i l) in
    let v : i + (e - i) ≡ e = omega arith in
    subst (λ (m : ℕ). All Q (take m (drop i l))) (sym n)
    (subst (All Q) (sym (take-suc (drop i l) (e - i) 0 w))
    (all_append Q (take (e - i) (drop i l)) (get_or (drop i l) (e - i) 0 ∷ []) r (subst Q (sym (get_or-drop i l (e - i) 0 ∙ ap (λ m. get_or l m 0) v)) q, tt)))

pub record Running (l : List ℕ) (i limit e : ℕ) : Type 0 where
  pub from : i ≤ e
  pub upto : e ≤ length l
  pub rising : From 0 l
  pub under : All (λ k. k < limit) (plane_of l i e)

module _ (l : List ℕ) (i limit : ℕ) where
  pub run_begins : i ≤ length l → From 0 l → Running l i limit i
  run_begins h r =
      let n : 0 ≡ i - i = omega arith in
      record { from = omega arith; upto = h; rising = r; under = subst (λ (m : ℕ). All (λ k. k < limit) (take m (drop i l))) n tt }

  pub run_goes : (e : ℕ) → Running l i limit e → e < length l → get_or l e 0 < limit → Running l i limit (e + 1)
  run_goes e r h u =
      record { from = omega (arith, r.from); upto = omega arith; rising = r.rising; under = run_more (λ k. k < limit) l i e r.from h r.under u }

  pub run_stops : (e : ℕ) → Running l i limit e → e < length l → limit ≤ get_or l e 0 → Ran l i limit e
  run_stops e r h u = (r.from, r.upto, r.under, all_map (drop e l) (λ k q. omega arith) (from_at l e r.rising h))

-- as many keys as lie below the limit before the first that does not
abbrev pub below_limit : ℕ → List ℕ → ℕ
below_limit limit l = prefix_len (λ k. ltb k limit) l

run_front : (limit : ℕ) (l : List ℕ) → All (λ k. k < limit) (take (below_limit limit l) l)
run_front limit [] = tt
run_front limit (x ∷ l) = go (ltb x limit) refl (run_front limit l)
  where
    go : (b : Bool) → ltb x limit ≡ b → All (λ k. k < limit) (take (below_limit limit l) l)
        → All (λ k. k < limit) (take (cond b (1 + below_limit limit l) 0) (x ∷ l))
    go true e r =
        let n : suc (below_limit limit l) ≡ 1 + below_limit limit l = omega arith in
        subst (λ (m : ℕ). All (λ k. k < limit) (take m (x ∷ l))) n (ltb-true x limit e, r)
    go false e r = tt

-- and behind them, in a list that rises, none does
run_behind : (limit m : ℕ) (l : List ℕ) → From m l → All (λ k. limit ≤ k) (drop (below_limit limit l) l)
run_behind limit m [] h = tt
run_behind limit m (x ∷ l) h = go (ltb x limit) refl (run_behind limit (suc x) l h.1)
  where
    go : (b : Bool) → ltb x limit ≡ b → All (λ k. limit ≤ k) (drop (below_limit limit l) l)
        → All (λ k. limit ≤ k) (drop (cond b (1 + below_limit limit l) 0) (x ∷ l))
    go true e r =
        let n : suc (below_limit limit l) ≡ 1 + below_limit limit l = omega arith in
        subst (λ (m : ℕ). All (λ k. limit ≤ k) (drop m (x ∷ l))) n r
    go false e r =
        let h0 = ltb-false x limit e in (h0, all_map l (λ k q. omega arith) (from_above (suc x) l h.1))

pub run_counted : (l : List ℕ) (i limit n : ℕ) → i ≤ length l → From 0 l → n ≡ below_limit limit (drop i l) → Ran l i limit (i + n)
run_counted l i limit n h r e =
    let front : below_limit limit (drop i l) ≡ i + n - i = omega arith in (
      omega arith,
      omega (arith, length-drop i l, prefix_len-le-length (λ k. ltb k limit) (drop i l)),
      subst (λ (m : ℕ). All (λ k. k < limit) (take m (drop i l))) front (run_front limit (drop i l)),
      subst (All (λ k. limit ≤ k)) (ap (λ m. drop m (drop i l)) (sym e) ∙ drop-drop n i l) (run_behind limit 0 (drop i l) (from_drop 0 i l r)),
    )

-- ---- the next plane

-- a run that stops at once has nothing below its limit to begin with
pub moves : (l : List ℕ) (i e limit key : ℕ) → i ≤ e → All (λ k. limit ≤ k) (drop e l) → i < length l → get_or l i 0 ≡ key → key < limit → i < e
moves l i e limit key h after u q t = go (ltb i e) refl
  where
    go : (b : Bool) → ltb i e ≡ b → i < e
    go true x = ltb-true i e x
    go false x =
        let y : e ≡ i = omega (arith, ltb-false i e x) in
        absurd (omega (arith, all_begins (λ k. limit ≤ k) l i (subst (λ (n : ℕ). All (λ k. limit ≤ k) (drop n l)) y after) u))

module _ (s : ℕ) (pos : 0 < s) (a b : List ℕ) (i j key e f : ℕ) (least : Least a i b j key) where
  abbrev pub plane_base : ℕ
  plane_base = key - key % s

  base_le : key % s ≤ key
  base_le = mod-le key s

  pub base_low : plane_base ≤ key
  base_low = omega (arith, base_le)

  pub base_high : key < plane_base + s
  base_high = omega (arith, base_le, mod-lt key pos)

  base_begins : plane_base % s ≡ 0
  base_begins = ap (λ n. (n - key % s) % s) (sym (div-add-mod' key s)) ∙ ap (◌% s) (add-sub_cancel (key / s * s) (key % s)) ∙ mul-mod_left (key / s) s

  next_of : (l : List ℕ) (from to : ℕ) → All (λ k. key ≤ k) (drop from l) → Ran l from (plane_base + s) to → NextOf s l from plane_base to
  next_of l from to over r =
      record {
        from = r.0;
        upto = r.1;
        in_it = pair_up (plane_of l from to) (all_take (λ k. key ≤ k) (to - from) (drop from l) over) r.2;
        after = r.3;
      }
    where
      pair_up : (m : List ℕ) → All (λ k. key ≤ k) m → All (λ k. k < plane_base + s) m → All (λ k. (plane_base ≤ k) × (k < plane_base + s)) m
      pair_up [] x y = tt
      pair_up (z ∷ m) x y = ((omega (arith, base_low, x.0), y.0), pair_up m x.1 y.1)

  pub advanced : Ran a i (plane_base + s) e → Ran b j (plane_base + s) f → Advanced s a i b j plane_base e f
  advanced ra rb =
      record {
        key = key;
        least = least;
        begins = base_begins;
        low = base_low;
        high = base_high;
        in_a = next_of a i e least.in_a ra;
        in_b = next_of b j f least.in_b rb;
        on =
            ⊎_elim
            (λ r. omega (arith, moves a i e (plane_base + s) key ra.0 ra.3 r.0 r.1 base_high, rb.0))
            (λ r. omega (arith, moves b j f (plane_base + s) key rb.0 rb.3 r.0 r.1 base_high, ra.0))
            least.one_of;
      }

-- ---- a section takes in a plane

all_less : (Q : ℕ → Type 0) (base : ℕ) (l : List ℕ) → All (λ k. Q (k - base)) l → All Q (less_base base l)
all_less Q base [] h = tt
all_less Q base (x ∷ l) h = (h.0, all_less Q base l h.1)

plane_length : (l : List ℕ) (i e : ℕ) → i ≤ e → e ≤ length l → length (plane_of l i e) ≡ e - i
plane_length l i e h u = length-take-le (e - i) (drop i l) (omega (arith, length-drop i l))

module _ (sec keys : List ℕ) (n i e base : ℕ) (hn : n ≤ length sec) (hi : i ≤ e) (he : e ≤ length keys) where
  abbrev pub into : List ℕ
  into = merged (take n sec) (less_base base (plane_of keys i e))

  pub parts_length : length (take n sec) + length (plane_of keys i e) ≡ n + (e - i)
  parts_length = ap₂ ◌+◌ (length-take-le n sec hn) (plane_length keys i e hi he)

  pub into_short : length into ≤ n + (e - i)
  into_short = omega (arith, length_merged (take n sec) (less_base base (plane_of keys i e)), length-map (plane_of keys i e) (λ k. k - base), parts_length)

  pub into_fits : All (λ k. k < 2 ^ 32) (plane_of keys i e) → All (λ k. k < 2 ^ 32) (take n sec) → All (λ k. 0 + k < 2 ^ 32) into
  into_fits h k =
      all_merged (λ x. 0 + x < 2 ^ 32) (take n sec) (less_base base (plane_of keys i e))
      (all_map (take n sec) (λ x u. omega arith) k)
      (all_less (λ x. 0 + x < 2 ^ 32) base (plane_of keys i e) (all_map (plane_of keys i e) (λ x u. omega arith) h))

  -- a plane without keys leaves the section as it is
  pub took_none : i ≡ e → Taken sec n (plane_of keys i e) base sec n
  took_none q =
      let z : e - i ≡ 0 = omega arith in
      let same : merged (take n sec) (less_base base (plane_of keys i e)) ≡ take n sec =
      ap (λ k. merged (take n sec) (less_base base (take k (drop i keys)))) z ∙ merged_nil (take n sec) in
      record { count = sym (ap length same ∙ length-take-le n sec hn); front = sym same }

  module _ (m : ℕ) (room room' sec' : List ℕ) (count : m ≡ length into) (left : room' ≡ into ++ drop m room) where
    pub copied_length : length (take m room') ≡ length into
    copied_length = ap length (front_of m into room room' count left)

    pub copied : (Q : ℕ → Type 0) → All Q into → All Q (take m room')
    copied Q h = subst (All Q) (sym (front_of m into room room' count left)) h

    pub took : sec' ≡ plus_base 0 (take m room') ++ drop (length (take m room')) sec → Taken sec n (plane_of keys i e) base sec' m
    took h =
        let f = front_of m into room room' count left in
        record {
          count = count;
          front = ap (take m) (h ∙ ap₂ ◌++◌ (plus_zero (take m room') ∙ f) refl) ∙ take_at into
              (drop (length (take m room')) sec) m (sym count);
        }
