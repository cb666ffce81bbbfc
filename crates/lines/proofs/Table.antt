-- Laws of the working table: what it holds, whatever the slots are.
--   spread_below              where a search begins is a slot
--   odd_set                   a store, as exclusive or of what stood there and what stands there
--   Takes, flipped_entry       a slot that is free or has the key; the entry that flips the key there
--   entry_flips, flipped      the store of that entry flips the key, and no other
--   holds_next, holds_all     a table that holds what was read: with one key more; with all of them
--   holds_none, holds_empty   a table with no live entry of a key does not hold it; a table of zeros holds nothing
--   live_le                   at most all entries are live
--   none_live                 where no entry is live, every key occurs an even number of times
--   parted_keyed              keys in parts have entries
use mathlib.Core.Path.{◌≡◌, refl, sym, ◌∙◌}
use mathlib.Core.Logic.{◌⊎◌, inl, inr}
use mathlib.Core.Bool.{Bool, true, false, xor}
use mathlib.Core.List.{List, [], ◌∷◌}
use Prim.Native.Nat.{ℕ, zero, suc, ◌+◌, ◌*◌, ◌-◌, ◌/◌, ◌%◌, ◌<◌, ◌≤◌}
use native.Mathlib.Nat.{mul-lt-mul_of_pos_right}
use native.Mathlib.Omega.{arith}
use lib.Dec.{eqb}
use lib.ListN.{length, get_or, set, take, replicate, length-replicate, get_or-replicate}
use borrow.Author.Tests.{eq-eqb, ne_eqb, eqb-true, eqb-false}
use Rattle.std.proofs.Common.{sum_by}
use Rattle.std.proofs.lemmas.List.Sums.{get_or-le-sum_by, sum_by-cons}
use Rattle.meaning.specs.Counting.{count, odd}
use Rattle.lines.specs.Table.{range, IsKeyed, live, holds, Flipped, Holds, NoneOdd}
use Rattle.chains.specs.Chains.{Parted}
use Rattle.chains.proofs.Parity.{xor_assoc, xor_comm, xor_left, xor_self, false_xor, odd_cons, odd_read, odd_whole}

pub spread_below : (x s : ℕ) → 0 < s → x % range * s < range * s
spread_below x s h = mul-lt-mul_of_pos_right (omega arith) h

pub odd_set : (p : ℕ → Bool) (l : List ℕ) (i v : ℕ) → i < length l
    → odd (count p (set l i v)) ≡ xor (xor (p (get_or l i 0)) (p v)) (odd (count p l))
odd_set p [] i v h = absurd (omega arith)
odd_set p (x ∷ l) zero v h = rw (odd_cons p v l, odd_cons p x l, xor_assoc (p x) (p v), xor_left (p v) (p x), xor_self (p x))
odd_set p (x ∷ l) (suc i) v h = rw (odd_cons p x (set l i v), odd_cons p x l, odd_set p l i v (omega arith), xor_left (p x))

-- the slot is free, or has the key
abbrev pub Takes : ℕ → ℕ → Type 0
Takes key entry = (entry ≡ 0) ⊎ (entry / 2 ≡ key + 1)

abbrev pub flipped_entry : ℕ → ℕ → ℕ
flipped_entry key entry = 2 * (key + 1) + 1 - entry % 2

not_other : (j k e : ℕ) → Takes k e → (j ≡ k → ⊥) → live j ≡ e → ⊥
not_other j k e (inl z) n q = omega arith
not_other j k e (inr z) n q = n (omega arith)

same_live : (k e : ℕ) → Takes k e → e % 2 ≡ 1 → live k ≡ e
same_live k e (inl z) o = absurd (omega arith)
same_live k e (inr z) o = omega arith

pub entry_flips : (j k e : ℕ) → Takes k e → xor (eqb (live j) e) (eqb (live j) (flipped_entry k e)) ≡ eqb j k
unfolding xor
entry_flips j k e may = by_key (eqb j k) refl
  where
    by_key : (b : Bool) → eqb j k ≡ b → xor (eqb (live j) e) (eqb (live j) (flipped_entry k e)) ≡ b
    by_key false q =
        let other : j ≡ k → ⊥ = eqb-false j k q in
        rw (ne_eqb (live j) e (not_other j k e may other), ne_eqb (live j) (flipped_entry k e) (λ r. other (omega arith)))
    by_key true q = by_flag (eqb (e % 2) 1) refl (eqb-true j k q)
      where
        by_flag : (b : Bool) → eqb (e % 2) 1 ≡ b → j ≡ k → xor (eqb (live j) e) (eqb (live j) (flipped_entry k e)) ≡ true
        by_flag true f is =
            let o : e % 2 ≡ 1 = eqb-true (e % 2) 1 f in
            let w : live j ≡ e = omega (arith, same_live k e may o) in
            rw (eq-eqb (live j) e w, ne_eqb (live j) (flipped_entry k e) (λ r. omega arith))
        by_flag false f is =
            let o : e % 2 ≡ 1 → ⊥ = eqb-false (e % 2) 1 f in
            rw (ne_eqb (live j) e (λ r. o (omega arith)), eq-eqb (live j) (flipped_entry k e) (omega arith))

pub flipped : (t₀ t : List ℕ) (at key : ℕ) → t ≡ t₀ → at < length t → Takes key (get_or t at 0)
    → Flipped key t₀ (set t at (flipped_entry key (get_or t at 0)))
unfolding holds
flipped t₀ t at key same h may = record { every = at_key }
  where
    at_key : (j : ℕ) → holds (set t at (flipped_entry key (get_or t at 0))) j ≡ xor (holds t₀ j) (eqb j key)
    at_key j =
        rw (← same, odd_set (λ e. eqb (live j) e) t at (flipped_entry key (get_or t at 0)) h, entry_flips j key (get_or t at 0) may)
        (xor_comm (eqb j key) (holds t j))

pub holds_next : (keys t u : List ℕ) (i : ℕ) → i < length keys → Holds t (take i keys) → Flipped (get_or keys i 0) t u
    → Holds u (take (i + 1) keys)
holds_next keys t u i h was now = record { every = λ j. now.every j ∙ odd_read (λ k. eqb j k) keys i h (was.every j) }

pub holds_all : (keys t : List ℕ) (i : ℕ) → length keys ≤ i → Holds t (take i keys) → Holds t keys
holds_all keys t i h now = record { every = λ j. odd_whole (λ k. eqb j k) keys i h (now.every j) }

pub holds_none : (t : List ℕ) (key : ℕ) → ((s : ℕ) → s < length t → get_or t s 0 ≡ live key → ⊥) → holds t key ≡ false
unfolding holds
holds_none [] key none = refl
holds_none (e ∷ t) key none =
    let here : eqb (live key) e ≡ false = ne_eqb (live key) e (λ q. none 0 (omega arith) (sym q)) in
    let behind : holds t key ≡ false = holds_none t key (λ s h. none (suc s) (omega arith)) in
    rw (odd_cons (λ k. eqb (live key) k) e t, here, behind, false_xor false)

pub holds_empty : (n : ℕ) → Holds (replicate n 0) []
holds_empty n = record { every = λ j. holds_none (replicate n 0) j (λ s h q. omega (arith, zero_at s h)) }
  where
    zero_at : (s : ℕ) → s < length {A = ℕ} (replicate n 0) → get_or {A = ℕ} (replicate n 0) s 0 ≡ 0
    zero_at s h = get_or-replicate n s 0 0 (rw length-replicate at h)

-- at most all entries are live
pub live_le : (t : List ℕ) → sum_by (λ entry. entry % 2) t ≤ length t
live_le [] = omega arith
live_le (e ∷ t) = omega (arith, live_le t, sum_by-cons (λ entry. entry % 2) e t)

-- a table with no live entry holds nothing: what it was filled with occurs an even number of times
pub none_live : {table keys : List ℕ} → Holds table keys → sum_by (λ entry. entry % 2) table ≡ 0 → NoneOdd keys
none_live {table} {keys} is none k h =
    sym (is.every (get_or keys k 0)) ∙
    holds_none table (get_or keys k 0) (λ s m q. omega (arith, get_or-le-sum_by (λ entry. entry % 2) table s 0 m, none))

-- a key in parts has entries that fit 32 bits
pub parted_keyed : (keys : List ℕ) → Parted keys → (i : ℕ) → i < length keys → IsKeyed (get_or keys i 0)
parted_keyed keys fit i h = omega (arith, (fit i h).0)
