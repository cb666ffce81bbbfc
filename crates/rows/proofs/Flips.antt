-- Rows of which the bits from a place on are turned, and rows that have taken in some keys.
--   Turned, turned_none, turned_one    some words turned, one after the other
--   flipped                           the word of the place turned from there on, and all words behind it turned
--   all_from                          what holds of all keys from a place on
--   Took, took_none, took_one, took_all    a row that has taken in some keys, one more, all of a line
-- Assumes nothing.
use mathlib.Core.Path.{◌≡◌, refl, sym, ◌∙◌, ap, ap₂, subst}
use mathlib.Core.Bool.{Bool, true, false}
use mathlib.Core.List.{List, [], ◌∷◌, ◌++◌}
use Prim.Native.Nat.{ℕ, suc, ◌+◌, ◌-◌, ◌*◌, ◌/◌, ◌%◌, ◌^◌, ◌≤◌, ◌<◌}
use native.Mathlib.Omega.{arith}
use lib.Dec.{leb, ltb}
use lib.ListN.{length, take, drop, get_or, set, length-set, length-drop}
use lib.Seq.{get_or-set_same, get_or-set_other, take-suc, get_or-drop, length-take-le}
use lib.Bits.{bit_xor}
use borrow.Rule.Slice.PartMut.{mid_of, put_mid, same_len_mid}
use Rattle.std.proofs.lemmas.List.{get_or-take, get_or_append_left, get_or-append_right}
use borrow.Author.Tests.{ltb-true, ltb-false, le-leb, lt-leb}
use Rattle.meaning.specs.Counting.{All}
use Rattle.meaning.proofs.Parity.{◌⊕◌, ⊕_comm, ⊕_assoc, sum, sum_append, ⊕_false}
use Rattle.meaning.proofs.Integers.{leb_by}
use Rattle.rising.specs.Merged.{From}
use Rattle.turn.specs.Turn.{plane_of}
use Rattle.turn.proofs.Lists.{all_begins, all_drop}
use Rattle.turn.proofs.Pieces.{Running, run_begins, run_goes}
use Rattle.rows.specs.Rows.{bit, bit_at, Flipped, TookLine}
use Rattle.rows.proofs.Bits.{bit_xor_lem, bit_all, bit_mask}

-- ---- words turned

pub record Turned (before now : List ℕ) (w : ℕ) : Type 0 where
  pub long : length now ≡ length before
  pub turned : (i : ℕ) → i < w → i < length before → get_or now i 0 ≡ bit_xor (get_or before i 0) 18446744073709551615
  pub left : (i : ℕ) → w ≤ i → get_or now i 0 ≡ get_or before i 0

pub turned_none : {words : List ℕ} → Turned words words 0
turned_none = record { long = refl; turned = λ i u v. absurd (omega arith); left = λ i u. refl }

pub turned_one : {before now : List ℕ} {w : ℕ} → Turned before now w → w < length before
    → Turned before (set now w (bit_xor (get_or now w 0) 18446744073709551615)) (w + 1)
turned_one {before} {now} {w} t h =
    record {
      long = length-set now w _ ∙ t.long;
      turned = λ i u v. go i (ltb i w) refl u v;
      left = λ i u. get_or-set_other now w i _ 0 (λ e. omega arith) ∙ t.left i (omega arith);
    }
  where
    go : (i : ℕ) (b : Bool) → ltb i w ≡ b → i < w + 1 → i < length before
        → get_or (set now w (bit_xor (get_or now w 0) 18446744073709551615)) i 0 ≡ bit_xor (get_or before i 0) 18446744073709551615
    go i true e u v =
        let q = ltb-true i w e in get_or-set_other now w i _ 0 (λ s. omega arith) ∙ t.turned i q v
    go i false e u v =
        let here : i ≡ w = omega (arith, ltb-false i w e) in
        ap (λ (j : ℕ). get_or (set now w (bit_xor (get_or now w 0) 18446744073709551615)) j 0) here ∙
        get_or-set_same now w _ 0 (omega (arith, t.long)) ∙
        ap (λ n. bit_xor n 18446744073709551615) (t.left w (omega arith) ∙ ap (λ (j : ℕ). get_or before j 0) (sym here))

-- ---- a row flipped from a place on

-- the word of the place turned from there on, and the words behind it
module _ (at : ℕ) (row : List ℕ) where
  abbrev pub mask : ℕ
  mask = (18446744073709551615 * 2 ^ (at % 64)) % 2 ^ 64

  abbrev pub before : List ℕ
  before = set row (at / 64) (bit_xor (get_or row (at / 64) 0) mask)

  abbrev pub after_first : ℕ
  after_first = length before - (at / 64 + 1)

  abbrev pub behind : List ℕ
  behind = mid_of (at / 64 + 1) after_first before

  module _ (now : List ℕ) (w : ℕ) (h : at < 64 * length row) (t : Turned behind now w) (end : length behind ≤ w) where
    abbrev pub whole : List ℕ
    whole = put_mid (at / 64 + 1) after_first before now

    behind_long : length behind ≡ length row - (at / 64 + 1)
    behind_long =
        length-take-le after_first (drop (at / 64 + 1) before) (omega (arith, length-drop (at / 64 + 1) before)) ∙
        ap (λ n. n - (at / 64 + 1)) (length-set row (at / 64) _)

    front_long : length (take (at / 64 + 1) before) ≡ at / 64 + 1
    front_long = length-take-le (at / 64 + 1) before (omega (arith, length-set row (at / 64) (bit_xor (get_or row (at / 64) 0) mask)))

    in_front : (i : ℕ) → i < at / 64 + 1 → get_or whole i 0 ≡ get_or before i 0
    in_front i u =
        get_or_append_left (take (at / 64 + 1) before) _ 0 i (omega (arith, front_long)) ∙ get_or-take (at / 64 + 1) before i 0 u

    in_back : (i : ℕ) → at / 64 < i → i < length row → get_or whole i 0 ≡ bit_xor (get_or row i 0) 18446744073709551615
    in_back i u v =
        let k = i - (at / 64 + 1) in
        let there : at / 64 + 1 + k ≡ i = omega arith in
        let lt : k < length behind = omega (arith, behind_long) in
        get_or-append_right (take (at / 64 + 1) before) _ (at / 64 + 1) i 0 front_long (omega arith) ∙
        get_or_append_left now _ 0 k (omega (arith, t.long)) ∙
        t.turned k (omega arith) lt ∙
        ap (λ n. bit_xor n 18446744073709551615)
        (get_or-take after_first (drop (at / 64 + 1) before) k 0 (omega (arith, behind_long, length-set row (at / 64) (bit_xor (get_or row (at / 64) 0) mask))) ∙
        get_or-drop (at / 64 + 1) before k 0 ∙
        ap (λ (j : ℕ). get_or before j 0) there ∙
        get_or-set_other row (at / 64) i _ 0 (λ e. omega arith))

    pub flipped : Flipped at row whole
    flipped = record {
      long = same_len_mid (at / 64 + 1) after_first before now t.long ∙ length-set row (at / 64) _;
      bits = λ x u. go x u (ltb (x / 64) (at / 64)) refl (ltb (at / 64) (x / 64)) refl;
    }
      where
        go : (x : ℕ) → x < 64 * length row → (a : Bool) → ltb (x / 64) (at / 64) ≡ a → (b : Bool) → ltb (at / 64) (x / 64) ≡ b
            → bit_at whole x ≡ (leb at x ⊕ bit_at row x)
        go x u true e b f =
            let q = ltb-true (x / 64) (at / 64) e in
            ap (λ n. bit n (x % 64)) (in_front (x / 64) (omega arith) ∙ get_or-set_other row (at / 64) (x / 64) _ 0 (λ s. omega arith)) ∙
            ap (◌⊕ bit_at row x) (sym (lt-leb at x (omega arith)))
        go x u false e true f =
            let q = ltb-true (at / 64) (x / 64) f in
            ap (λ n. bit n (x % 64)) (in_back (x / 64) q (omega arith)) ∙
            bit_xor_lem (get_or row (x / 64) 0) 18446744073709551615 (x % 64) ∙
            ap (bit_at row x ⊕◌) (bit_all (x % 64) (omega arith)) ∙
            ⊕_comm (bit_at row x) true ∙
            ap (◌⊕ bit_at row x) (sym (le-leb at x (omega arith)))
        go x u false e false f =
            let here : x / 64 ≡ at / 64 = omega (arith, ltb-false (x / 64) (at / 64) e, ltb-false (at / 64) (x / 64) f) in
            ap (λ n. bit n (x % 64))
            (in_front (x / 64) (omega arith) ∙ ap (λ (i : ℕ). get_or before i 0) here ∙ get_or-set_same row (at / 64) _ 0 (omega arith)) ∙
            bit_xor_lem (get_or row (at / 64) 0) mask (x % 64) ∙
            ap₂ ◌⊕◌ (ap (λ (i : ℕ). bit (get_or row i 0) (x % 64)) (sym here)) (bit_mask (at % 64) (x % 64) (omega arith) (omega arith)) ∙
            ⊕_comm (bit_at row x) (leb (at % 64) (x % 64)) ∙
            ap (◌⊕ bit_at row x) (leb_by (at % 64) (x % 64) at x (λ q. omega arith) (λ q. omega arith))

-- ---- a row that takes in keys

pub record Took (keys : List ℕ) (i start limit : ℕ) (before now : List ℕ) (e : ℕ) : Type 0 where
  pub running : Running keys i limit e
  pub long : length now ≡ length before
  pub bits : (x : ℕ) → x < 64 * length before → bit_at now x ≡ (sum (λ k. leb (k - start) x) (plane_of keys i e) ⊕ bit_at before x)

plane_more : (l : List ℕ) (i e : ℕ) → i ≤ e → e < length l → plane_of l i (e + 1) ≡ plane_of l i e ++ (get_or l e 0 ∷ [])
plane_more l i e h u =
    let n : e + 1 - i ≡ suc (e - i) = omega arith in
    let w : e - i < length (drop i l) = omega (arith, length-drop i l) in
    let v : i + (e - i) ≡ e = omega arith in
    ap (λ (m : ℕ). take m (drop i l)) n ∙
    take-suc (drop i l) (e - i) 0 w ∙
    ap (λ (k : ℕ). plane_of l i e ++ (k ∷ [])) (get_or-drop i l (e - i) 0 ∙ ap (λ (m : ℕ). get_or l m 0) v)

-- what holds of all keys from a place on holds of each of them
pub all_from : (Q : ℕ → Type 0) (l : List ℕ) (i e : ℕ) → All Q (drop i l) → i ≤ e → e < length l → Q (get_or l e 0)
all_from Q l i e h u v =
    let there : i + (e - i) ≡ e = omega arith in
    let q = all_begins Q (drop i l) (e - i) (all_drop Q (e - i) (drop i l) h) (omega (arith, length-drop i l)) in
    subst Q (get_or-drop i l (e - i) 0 ∙ ap (λ (m : ℕ). get_or l m 0) there) q

pub took_none : (keys : List ℕ) (i start limit : ℕ) (row : List ℕ) → i ≤ length keys → From 0 keys → Took keys i start limit row row i
took_none keys i start limit row h r =
    let n : i - i ≡ 0 = omega arith in
    record {
      running = run_begins keys i limit h r;
      long = refl;
      bits = λ x u. ap (λ (m : ℕ). sum (λ k. leb (k - start) x) (take m (drop i keys)) ⊕ bit_at row x) (sym n);
    }

pub took_one : {keys : List ℕ} {i start limit : ℕ} {before now : List ℕ} {e : ℕ} (now' : List ℕ) → Took keys i start limit before now e → e < length keys
    → get_or keys e 0 < limit → Flipped (get_or keys e 0 - start) now now' → Took keys i start limit before now' (e + 1)
took_one {keys} {i} {start} {limit} {before} {now} {e} now' t h u f =
    record {
      running = run_goes keys i limit e t.running h u;
      long = f.long ∙ t.long;
      bits = λ x v.
          f.bits x (omega (arith, t.long)) ∙
          ap (leb (get_or keys e 0 - start) x ⊕◌) (t.bits x v) ∙
          sym (⊕_assoc (leb (get_or keys e 0 - start) x) (sum (λ k. leb (k - start) x) (plane_of keys i e)) (bit_at before x)) ∙
          ap (◌⊕ bit_at before x)
          (⊕_comm (leb (get_or keys e 0 - start) x) (sum (λ k. leb (k - start) x) (plane_of keys i e)) ∙
          ap (sum (λ k. leb (k - start) x) (plane_of keys i e) ⊕◌) (sym (⊕_false (leb (get_or keys e 0 - start) x))) ∙
          sym (sum_append (λ k. leb (k - start) x) (plane_of keys i e) (get_or keys e 0 ∷ [])) ∙
          ap (sum (λ k. leb (k - start) x)) (sym (plane_more keys i e t.running.from h)));
    }

pub took_all : {keys : List ℕ} {i start limit : ℕ} {before now : List ℕ} {e : ℕ} → Took keys i start limit before now e → All (λ k. limit ≤ k) (drop e keys)
    → TookLine keys i start limit before now e
took_all t h =
    record { from = t.running.from; upto = t.running.upto; in_it = t.running.under; left = h; long = t.long; bits = t.bits }
