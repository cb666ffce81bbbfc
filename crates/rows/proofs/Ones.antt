-- The ones of a word, the ends of the stretches of a line, and keys put out behind others.
--   trailing-..     the zeros below the lowest one of a word
--   put-..          keys put out behind others, and others behind them
--   OnesTo          so many ones of a word are put out, the others are left
--   LineTo          so many words of a line are done, the others are as they were
-- Assumes nothing.
use mathlib.Core.Path.{◌≡◌, refl, sym, ◌∙◌, ap, ap₂, subst}
use mathlib.Core.Bool.{Bool, true, false, false≢true, not-not}
use mathlib.Core.List.{List, [], ◌∷◌, ◌++◌, append_assoc, append-nil}
use Prim.Native.Nat.{ℕ, zero, suc, ◌+◌, ◌-◌, ◌*◌, ◌/◌, ◌%◌, ◌^◌, ◌≤◌, ◌<◌, zero-le, suc-le-suc}
use native.Mathlib.Nat.{zero-lt-suc, pow-suc, mod-lt, add-zero}
use native.Mathlib.Numerals.{add-one}
use native.Mathlib.Omega.{arith}
use lib.Dec.{leb, eqb, ltb}
use lib.Bits.{bit_xor, xor_lt}
use lib.Count.{count_trailing_zeros, under}
use lib.ListN.{length, take, set, get_or, length-set, length-map, length-append}
use lib.Pow.{pow_pos}
use lib.Seq.{take-suc-set, get_or-set_same, get_or-set_other}
use borrow.Author.Tests.{ltb-true, ltb-false, leb-true, leb-false, le-leb, lt-leb, ne_eqb, eqb-true, eqb-false}
use Rattle.meaning.specs.Counting.{All}
use Rattle.meaning.proofs.Parity.{◌⊕◌, ⊕_false, ⊕_self, ⊕_assoc, ⊕_comm, ⊕_left, ⊕_swap, sum, sum_append, sum_all, sum_ext, sum_false, sum_map}
use Rattle.meaning.proofs.Space.{all_map, all_append}
use Rattle.rising.specs.Merged.{From, plus_base}
use Rattle.turn.proofs.Lists.{from_append, from_plus, plus_append, plus_plus, rising_short}
use Rattle.rows.specs.Rows.{bit, bit_at, up_to, change, Put, PutOnes, PutLine}
use Rattle.rows.proofs.Bits.{odd_none, odd_odd, bit_first, bit_next, bit_zero, bit_xor_lem, bit_one, bit_shifted_first, bit_shifted, bit_last, bit_last_alone}

-- ---- digits, lowest first

-- ---- the zeros below the lowest one of a word
pub trailing_lt : (k n : ℕ) → 0 < n → n < 2 ^ k → count_trailing_zeros k n < k
unfolding count_trailing_zeros
trailing_lt zero n p h = absurd (omega arith)
trailing_lt (suc k) n p h = go (n % 2) refl (trailing_lt k (n / 2))
  where
    go : (d : ℕ) → n % 2 ≡ d → (0 < n / 2 → n / 2 < 2 ^ k → count_trailing_zeros k (n / 2) < k) → under d (count_trailing_zeros k (n / 2)) < suc k
    go zero e r = suc-le-suc (r (omega arith) (omega (arith, pow-suc 2 k)))
    go (suc d) e r = zero-lt-suc k

pub trailing_one : (k n : ℕ) → count_trailing_zeros k n < k → bit n (count_trailing_zeros k n) ≡ true
unfolding count_trailing_zeros
trailing_one zero n h = absurd (omega arith)
trailing_one (suc k) n h = go (n % 2) refl h (trailing_one k (n / 2))
  where
    go : (d : ℕ) → n % 2 ≡ d → under d (count_trailing_zeros k (n / 2)) < suc k → (count_trailing_zeros k (n / 2) < k → bit (n / 2) (count_trailing_zeros k (n / 2)) ≡ true)
        → bit n (under d (count_trailing_zeros k (n / 2))) ≡ true
    go zero e u r = bit_next n (count_trailing_zeros k (n / 2)) ∙ r (omega arith)
    go (suc d) e u r = bit_first n ∙ odd_odd n d e

-- what is 0 below a place has as many zeros
pub trailing_past : (k n m : ℕ) → m ≤ k → ((j : ℕ) → j < m → bit n j ≡ false) → m ≤ count_trailing_zeros k n
unfolding count_trailing_zeros
trailing_past k n zero h z = zero-le
trailing_past zero n (suc m) h z = absurd (omega arith)
trailing_past (suc k) n (suc m) h z = go (n % 2) refl (trailing_past k (n / 2) m (omega arith) (λ j u. sym (bit_next n j) ∙ z (suc j) (omega arith)))
  where
    go : (d : ℕ) → n % 2 ≡ d → m ≤ count_trailing_zeros k (n / 2) → suc m ≤ under d (count_trailing_zeros k (n / 2))
    go zero e r = suc-le-suc r
    go (suc d) e r = absurd (false≢true (sym (z 0 (zero-lt-suc m)) ∙ bit_first n ∙ odd_odd n d e))

pub trailing_zeros : (k n j : ℕ) → j < count_trailing_zeros k n → bit n j ≡ false
unfolding count_trailing_zeros
trailing_zeros zero n j h = absurd (omega arith)
trailing_zeros (suc k) n j h = go (n % 2) refl j h (trailing_zeros k (n / 2))
  where
    go : (d : ℕ) → n % 2 ≡ d → (j : ℕ) → j < under d (count_trailing_zeros k (n / 2)) → ((j : ℕ) → j < count_trailing_zeros k (n / 2) → bit (n / 2) j ≡ false)
        → bit n j ≡ false
    go zero e zero u r = bit_first n ∙ odd_none n e
    go zero e (suc j) u r = bit_next n j ∙ r j (omega arith)
    go (suc d) e j u r = absurd (omega arith)

-- ---- the exclusive or of the digits up to a place

pub up_to_zero : (x : ℕ) → up_to 0 x ≡ false
up_to_zero zero = bit_zero 0
up_to_zero (suc x) = ap₂ ◌⊕◌ (bit_zero (suc x)) (up_to_zero x)

pub up_to_xor : (a b x : ℕ) → up_to (bit_xor a b) x ≡ (up_to a x ⊕ up_to b x)
up_to_xor a b zero = bit_xor_lem a b 0
up_to_xor a b (suc x) = ap₂ ◌⊕◌ (bit_xor_lem a b (suc x)) (up_to_xor a b x) ∙ ⊕_swap (bit a (suc x)) (bit b (suc x)) (up_to a x) (up_to b x)

one_more : (z x : ℕ) → (eqb z (suc x) ⊕ leb z x) ≡ leb z (suc x)
one_more z x = go (leb z x) refl (eqb z (suc x)) refl
  where
    go : (s : Bool) → leb z x ≡ s → (t : Bool) → eqb z (suc x) ≡ t → (t ⊕ s) ≡ leb z (suc x)
    go true e true f = absurd (omega (arith, leb-true z x e, eqb-true z (suc x) f))
    go true e false f = sym (le-leb z (suc x) (omega (arith, leb-true z x e)))
    go false e true f = sym (le-leb z (suc x) (omega (arith, eqb-true z (suc x) f)))
    go false e false f = sym (lt-leb z (suc x) (past (leb-false z x e) (eqb-false z (suc x) f)))
      where
        past : x < z → (z ≡ suc x → ⊥) → suc x < z
        past h k = omega arith

at_zero : (z : ℕ) → eqb z 0 ≡ leb z 0
at_zero zero = refl
at_zero (suc z) = ne_eqb (suc z) 0 (λ e. omega arith) ∙ sym (lt-leb (suc z) 0 (zero-lt-suc z))

pub up_to_one : (z x : ℕ) → z < 64 → x < 64 → up_to ((1 * 2 ^ z) % 2 ^ 64) x ≡ leb z x
up_to_one z zero h k = bit_one z 0 h k ∙ at_zero z
up_to_one z (suc x) h k = ap₂ ◌⊕◌ (bit_one z (suc x) h k) (up_to_one z x h (omega arith)) ∙ one_more z x

-- ---- keys put out behind others

pub put_none : (out : List ℕ) (n : ℕ) → Put [] out n out n
put_none out n = record { long = refl; count = omega arith; front = λ u. sym (append-nil (take n out)) }

pub put_one : (out out' : List ℕ) (n key : ℕ) → n < length out → out' ≡ set out n key → Put (key ∷ []) out n out' (n + 1)
put_one out out' n key h e =
    record {
      long = ap length e ∙ length-set out n key;
      count = refl;
      front = λ u. ap₂ take (add-one n) e ∙ take-suc-set out n key h;
    }

-- where there is no room for it
pub put_over : (out out' : List ℕ) (n key : ℕ) → length out ≤ n → out' ≡ out → Put (key ∷ []) out n out' (n + 1)
put_over out out' n key h e = record { long = ap length e; count = refl; front = λ u. absurd (omega arith) }

pub put_then : {l m out out' out'' : List ℕ} {n r s : ℕ} → Put l out n out' r → Put m out' r out'' s → Put (l ++ m) out n out'' s
put_then {l} {m} {out} {out'} {out''} {n} {r} {s} p q =
    record {
      long = q.long ∙ p.long;
      count = omega (arith, p.count, q.count, length-append l m);
      front = λ u.
          q.front (omega (arith, p.long)) ∙ ap (◌++ m) (p.front (omega (arith, q.count))) ∙ append_assoc (take n out) l m;
    }

-- keys below a base, and others from it on
pub record OnesTo (ones at : ℕ) (out₀ : List ℕ) (n : ℕ) (out : List ℕ) (left put : ℕ) : Type 0 where
  pub places : List ℕ
  pub low : ℕ
  pub within : low ≤ 64
  pub word : left < 2 ^ 64
  pub rises : From 0 places
  pub under : All (λ k. k < low) places
  pub clear : (k : ℕ) → k < low → bit left k ≡ false
  pub means : (x : ℕ) → x < 64 → up_to ones x ≡ (sum (λ k. leb k x) places ⊕ up_to left x)
  pub put_out : Put (plus_base at places) out₀ n out put

-- the place of the lowest one of a word, a word with that one alone, and what is left without it
abbrev pub lowest : ℕ → ℕ
lowest left = count_trailing_zeros 64 left

abbrev one_at : ℕ → ℕ
one_at z = (1 * 2 ^ z) % 2 ^ 64

abbrev pub without : ℕ → ℕ
without left = bit_xor left (one_at (lowest left))

module _ (left : ℕ) (more : left ≡ 0 → ⊥) (word : left < 2 ^ 64) where
  some : 0 < left
  some = omega arith

  lowest_lt : lowest left < 64
  lowest_lt = trailing_lt 64 left some word

  without_clear : (k : ℕ) → k < suc (lowest left) → bit (without left) k ≡ false
  without_clear k h =
      bit_xor_lem left (one_at (lowest left)) k ∙ ap (bit left k ⊕◌) (bit_one (lowest left) k lowest_lt (omega (arith, lowest_lt))) ∙
      go (eqb (lowest left) k) refl
    where
      go : (t : Bool) → eqb (lowest left) k ≡ t → (bit left k ⊕ t) ≡ false
      go true e = ap (λ j. bit left j ⊕ true) (sym (eqb-true (lowest left) k e)) ∙ ap (◌⊕ true) (trailing_one 64 left lowest_lt)
      go false e = ⊕_false (bit left k) ∙ trailing_zeros 64 left k (below (eqb-false (lowest left) k e))
        where
          below : (lowest left ≡ k → ⊥) → k < lowest left
          below u = omega arith

  without_up_to : (x : ℕ) → x < 64 → up_to left x ≡ (leb (lowest left) x ⊕ up_to (without left) x)
  without_up_to x h =
      let z = leb (lowest left) x in
      let e = up_to_xor left (one_at (lowest left)) x ∙ ap (up_to left x ⊕◌) (up_to_one (lowest left) x lowest_lt h) in
      sym (ap (z ⊕◌) (e ∙ ⊕_comm (up_to left x) z) ∙ sym (⊕_assoc z z (up_to left x)) ∙ ap (◌⊕ up_to left x) (⊕_self z))

  -- what is left has its lowest one further up
  without_less : 64 - lowest (without left) < 64 - lowest left
  without_less = omega (arith, lowest_lt, trailing_past 64 (without left) (suc (lowest left)) lowest_lt without_clear)

module _ {ones at : ℕ} {out₀ : List ℕ} {n : ℕ} where
  pub ones_begin : ones < 2 ^ 64 → OnesTo ones at out₀ n out₀ ones n
  ones_begin h =
      record {
        places = [];
        low = 0;
        within = omega arith;
        word = h;
        rises = tt;
        under = tt;
        clear = λ k h. absurd (omega arith);
        means = λ x h. refl;
        put_out = put_none out₀ n;
      }

  module _ {out : List ℕ} {left put : ℕ} (w : OnesTo ones at out₀ n out left put) where
    pub ones_few : put ≤ n + 64
    ones_few =
        let h = rising_short 0 w.low w.places (omega arith) w.rises w.under in
        omega (arith, w.put_out.count, length-map w.places (λ k. at + k), w.within)

    pub ones_place : (left ≡ 0 → ⊥) → lowest left < 64
    ones_place more = lowest_lt left more w.word

    pub ones_less : (left ≡ 0 → ⊥) → 64 - lowest (without left) < 64 - lowest left
    ones_less more = without_less left more w.word

    pub ones_more : {out' : List ℕ} {r : ℕ} → (left ≡ 0 → ⊥) → Put ((at + lowest left) ∷ []) out put out' r → OnesTo ones at out₀ n out' (without left) r
    ones_more {out'} {r} more p =
        let z = lowest left in
        let up : w.low ≤ z = trailing_past 64 left w.low w.within w.clear in
        let lt : z < 64 = lowest_lt left more w.word in
        record {
          places = w.places ++ (z ∷ []);
          low = suc z;
          within = lt;
          word = xor_lt 64 left (one_at z) w.word (mod-lt (1 * 2 ^ z) (pow_pos 64));
          rises = from_append 0 z w.places (z ∷ []) w.rises (all_map w.places (λ k h. omega arith) w.under) (omega arith) (omega arith, tt);
          under = all_append (λ k. k < suc z) w.places (z ∷ []) (all_map w.places (λ k h. omega arith) w.under) (omega arith, tt);
          clear = without_clear left more w.word;
          means = λ x h.
              w.means x h ∙ ap (sum (λ k. leb k x) w.places ⊕◌) (without_up_to left more w.word x h) ∙
              sym (⊕_assoc (sum (λ k. leb k x) w.places) (leb z x) (up_to (without left) x)) ∙
              ap (◌⊕ up_to (without left) x) (sym (sum_append (λ k. leb k x) w.places (z ∷ []) ∙ ap (sum (λ k. leb k x) w.places ⊕◌) (⊕_false (leb z x))));
          put_out = subst (λ (l : List ℕ). Put l out₀ n out' r) (sym (plus_append at w.places (z ∷ []))) (put_then w.put_out p);
        }

    pub ones_end : left ≡ 0 → PutOnes ones at out₀ n out put
    ones_end e =
        record {
          places = w.places;
          rises = w.rises;
          fits = all_map w.places (λ k h. omega (arith, w.within)) w.under;
          means = λ x h.
              sym (w.means x h ∙ ap (sum (λ k. leb k x) w.places ⊕◌) (ap (λ m. up_to m x) e ∙ up_to_zero x) ∙ ⊕_false (sum (λ k. leb k x) w.places));
          put = w.put_out;
        }

-- ---- the ends of the stretches of a line, word by word

-- the places of a word where it is another than the place before, which for the first is the carry
abbrev pub edges : ℕ → ℕ → ℕ
edges turned carry = bit_xor (bit_xor turned ((turned * 2 ^ 1) % 2 ^ 64)) carry

telescope : (a b c : Bool) → (((a ⊕ b) ⊕ false) ⊕ (b ⊕ c)) ≡ (a ⊕ c)
telescope true true c = refl
telescope true false c = refl
telescope false true c = not-not c
telescope false false c = refl

module _ (turned carry : ℕ) (alone : (k : ℕ) → bit carry (suc k) ≡ false) where
  bit_edges : (x : ℕ) → bit (edges turned carry) x ≡ ((bit turned x ⊕ bit ((turned * 2 ^ 1) % 2 ^ 64) x) ⊕ bit carry x)
  bit_edges x = bit_xor_lem (bit_xor turned ((turned * 2 ^ 1) % 2 ^ 64)) carry x ∙ ap (◌⊕ bit carry x) (bit_xor_lem turned ((turned * 2 ^ 1) % 2 ^ 64) x)

  pub up_to_edges : (x : ℕ) → x < 64 → up_to (edges turned carry) x ≡ (bit turned x ⊕ bit carry 0)
  up_to_edges zero h = bit_edges 0 ∙ ap (λ b. (bit turned 0 ⊕ b) ⊕ bit carry 0) (bit_shifted_first turned) ∙ ap (◌⊕ bit carry 0) (⊕_false (bit turned 0))
  up_to_edges (suc x) h =
      ap₂ ◌⊕◌ (bit_edges (suc x) ∙ ap₂ (λ b c. (bit turned (suc x) ⊕ b) ⊕ c) (bit_shifted turned x (omega arith)) (alone x)) (up_to_edges x (omega arith)) ∙
      telescope (bit turned (suc x)) (bit turned x) (bit carry 0)

all_plus : (Q : ℕ → Type 0) (base : ℕ) (l : List ℕ) → All (λ k. Q (base + k)) l → All Q (plus_base base l)
all_plus Q base [] h = tt
all_plus Q base (x ∷ l) h = (h.0, all_plus Q base l h.1)

-- keys of the words before, and of a word
module _ (w x : ℕ) (in_it : x / 64 ≡ w) where
  leb_within : (k : ℕ) → leb (64 * w + k) x ≡ leb k (x % 64)
  leb_within k = go (leb k (x % 64)) refl
    where
      go : (t : Bool) → leb k (x % 64) ≡ t → leb (64 * w + k) x ≡ t
      go true e = le-leb (64 * w + k) x (omega (arith, leb-true k (x % 64) e))
      go false e = lt-leb (64 * w + k) x (omega (arith, leb-false k (x % 64) e))

  sum_within : (l : List ℕ) → sum (λ k. leb k x) (plus_base (64 * w) l) ≡ sum (λ k. leb k (x % 64)) l
  sum_within l = sum_map (λ k. leb k x) (λ k. 64 * w + k) l ∙ sum_ext (λ k. leb (64 * w + k) x) (λ k. leb k (x % 64)) l leb_within

  bit_within : (row : List ℕ) → bit_at row x ≡ bit (get_or row w 0) (x % 64)
  bit_within row = ap (λ v. bit (get_or row v 0) (x % 64)) in_it

sum_below : (e x : ℕ) (l : List ℕ) → e ≤ suc x → All (λ k. k < e) l → sum (λ k. leb k x) l ≡ sum (λ k. true) l
sum_below e x l h u = sum_all (λ k. leb k x) (λ k. true) l (all_map l (λ k p. le-leb k x (omega arith)) u)

sum_above : (e x : ℕ) (l : List ℕ) → x < e → sum (λ k. leb k x) (plus_base e l) ≡ false
sum_above e x l h =
    sum_map (λ k. leb k x) (λ k. e + k) l ∙ sum_ext (λ k. leb (e + k) x) (λ k. false) l (λ k. lt-leb (e + k) x (omega arith)) ∙ sum_false l

-- the change of an operation on a word, from the operation on what there was and on what there is
pub record LineTo (op : ℕ) (ra rb ca cb last₀ : List ℕ) (start : ℕ) (out₀ : List ℕ) (n : ℕ) (last out : List ℕ) (put carry w : ℕ) : Type 0 where
  pub within : w ≤ length last₀
  pub long : length last ≡ length last₀
  pub behind : (v : ℕ) → w ≤ v → get_or last v 0 ≡ get_or last₀ v 0
  pub places : List ℕ
  pub rises : From 0 places
  pub under : All (λ k. k < 64 * w) places
  pub means : (x : ℕ) → x < 64 * w → sum (λ k. leb k x) places ≡ (bit_at last x ⊕ bit_at last₀ x)
  pub bits : (x : ℕ) → x < 64 * w → bit_at last x ≡ change op (bit_at ra x) (bit_at rb x) (bit_at ca x) (bit_at cb x)
  pub parity : sum (λ k. true) places ≡ bit carry 0
  pub alone : (k : ℕ) → bit carry (suc k) ≡ false
  pub put_out : Put (plus_base start places) out₀ n out put

module _ {op : ℕ} {ra rb ca cb last₀ : List ℕ} {start : ℕ} {out₀ : List ℕ} {n : ℕ} where
  pub line_begin : LineTo op ra rb ca cb last₀ start out₀ n last₀ out₀ n 0 0
  line_begin =
      record {
        within = omega arith;
        long = refl;
        behind = λ v h. refl;
        places = [];
        rises = tt;
        under = tt;
        means = λ x h. absurd (omega arith);
        bits = λ x h. absurd (omega arith);
        parity = sym (bit_zero 0);
        alone = λ k. bit_zero (suc k);
        put_out = put_none out₀ n;
      }

  module _ {last out : List ℕ} {put carry w : ℕ} (l : LineTo op ra rb ca cb last₀ start out₀ n last out put carry w) where
    pub line_few : put ≤ n + 64 * w
    line_few =
        let h = rising_short 0 (64 * w) l.places (omega arith) l.rises l.under in
        omega (arith, l.put_out.count, length-map l.places (λ k. start + k))

    pub line_end_lem : length last ≤ w → PutLine op ra rb ca cb last₀ start out₀ n last out put
    line_end_lem h =
        let e : w ≡ length last₀ = omega (arith, l.long, l.within) in
        record {
          places = l.places;
          rises = l.rises;
          fits = subst (λ (m : ℕ). All (λ k. k < 64 * m) l.places) e l.under;
          means = λ x u. l.means x (omega arith);
          long = l.long;
          bits = λ x u. l.bits x (omega arith);
          put = l.put_out;
        }

    -- one word more
    module _ (now : ℕ) (room : w < length last)
        (changed : (k : ℕ) → bit now k ≡ change op (bit (get_or ra w 0) k) (bit (get_or rb w 0) k) (bit (get_or ca w 0) k) (bit (get_or cb w 0) k)) where
      abbrev turned : ℕ
      turned = bit_xor now (get_or last w 0)

      before : (x : ℕ) → x < 64 * w → bit_at (set last w now) x ≡ bit_at last x
      before x h = ap (λ v. bit v (x % 64)) (get_or-set_other last w (x / 64) now 0 (λ e. omega arith))

      here : (x : ℕ) → x / 64 ≡ w → bit_at (set last w now) x ≡ bit now (x % 64)
      here x e = bit_within w x e (set last w now) ∙ ap (λ v. bit v (x % 64)) (get_or-set_same last w now 0 room)

      by_word : {A : ℕ → Type 0} → ((x : ℕ) → x < 64 * w → A x) → ((x : ℕ) → x / 64 ≡ w → A x) → (x : ℕ) → x < 64 * (w + 1) → A x
      by_word {A} f g x h = go (ltb x (64 * w)) refl
        where
          go : (t : Bool) → ltb x (64 * w) ≡ t → A x
          go true e = f x (ltb-true x (64 * w) e)
          go false e = g x (omega (arith, ltb-false x (64 * w) e))

      bits_more : (x : ℕ) → x < 64 * (w + 1) → bit_at (set last w now) x ≡ change op (bit_at ra x) (bit_at rb x) (bit_at ca x) (bit_at cb x)
      bits_more =
          by_word {A = λ x. bit_at (set last w now) x ≡ change op (bit_at ra x) (bit_at rb x) (bit_at ca x) (bit_at cb x)}
          (λ x h. before x h ∙ l.bits x h)
          (λ x e. here x e ∙ changed (x % 64) ∙
          ap (λ v. change op (bit (get_or ra v 0) (x % 64)) (bit (get_or rb v 0) (x % 64)) (bit (get_or ca v 0) (x % 64)) (bit (get_or cb v 0) (x % 64))) (sym e))

      module _ {out' : List ℕ} {r : ℕ} (p : PutOnes (edges turned carry) (start + 64 * w) out put out' r) where
        abbrev more : List ℕ
        more = l.places ++ plus_base (64 * w) p.places

        under_more : All (λ k. k < 64 * (w + 1)) more
        under_more =
            all_append (λ k. k < 64 * (w + 1)) l.places (plus_base (64 * w) p.places)
            (all_map l.places (λ k h. omega arith) l.under)
            (all_plus (λ k. k < 64 * (w + 1)) (64 * w) p.places (all_map p.places (λ k h. omega arith) p.fits))

        -- on the word itself the keys before it cancel the carry
        in_word : (x : ℕ) → x / 64 ≡ w → sum (λ k. leb k x) more ≡ bit turned (x % 64)
        in_word x e =
            let b = bit turned (x % 64) in
            let c = bit carry 0 in
            sum_append (λ k. leb k x) l.places (plus_base (64 * w) p.places) ∙
            ap₂ ◌⊕◌ (sum_below (64 * w) x l.places (omega arith) l.under ∙ l.parity)
            (sum_within w x e p.places ∙ p.means (x % 64) (omega arith) ∙ up_to_edges turned carry l.alone (x % 64) (omega arith)) ∙
            ⊕_left c b c ∙ ap (b ⊕◌) (⊕_self c) ∙ ⊕_false b

        means_more : (x : ℕ) → x < 64 * (w + 1) → sum (λ k. leb k x) more ≡ (bit_at (set last w now) x ⊕ bit_at last₀ x)
        means_more =
            by_word {A = λ x. sum (λ k. leb k x) more ≡ (bit_at (set last w now) x ⊕ bit_at last₀ x)}
            (λ x h. sum_append (λ k. leb k x) l.places (plus_base (64 * w) p.places) ∙
            ap (sum (λ k. leb k x) l.places ⊕◌) (sum_above (64 * w) x p.places h) ∙ ⊕_false (sum (λ k. leb k x) l.places) ∙
            l.means x h ∙ ap (◌⊕ bit_at last₀ x) (sym (before x h)))
            (λ x e. in_word x e ∙ bit_xor_lem now (get_or last w 0) (x % 64) ∙
            ap₂ ◌⊕◌ (sym (here x e)) (ap (λ v. bit v (x % 64)) (l.behind w (omega arith)) ∙ sym (bit_within w x e last₀)))

        parity_more : sum (λ k. true) more ≡ bit (turned / 2 ^ 63) 0
        parity_more =
            let x = 64 * w + 63 in
            let d : x / 64 ≡ w = omega arith in
            let m : x % 64 ≡ 63 = omega arith in
            sym (sum_below (64 * (w + 1)) x more (omega arith) under_more) ∙ in_word x d ∙ ap (bit turned) m ∙ sym (bit_last turned)

        based : plus_base start l.places ++ plus_base (start + 64 * w) p.places ≡ plus_base start more
        based =
            ap (plus_base start l.places ++◌) (plus_plus start (64 * w) p.places) ∙
            sym (plus_append start l.places (plus_base (64 * w) p.places))

        line_more : turned < 2 ^ 64 → LineTo op ra rb ca cb last₀ start out₀ n (set last w now) out' r (turned / 2 ^ 63) (w + 1)
        line_more word =
            record {
              within = omega (arith, l.long);
              long = length-set last w now ∙ l.long;
              behind = λ v h. get_or-set_other last w v now 0 (λ e. omega arith) ∙ l.behind v (omega arith);
              places = more;
              rises =
                  from_append 0 (64 * w) l.places (plus_base (64 * w) p.places) l.rises l.under (omega arith)
                  (subst (λ (m : ℕ). From m (plus_base (64 * w) p.places)) (add-zero (64 * w)) (from_plus (64 * w) 0 p.places p.rises));
              under = under_more;
              means = means_more;
              bits = bits_more;
              parity = parity_more;
              alone = λ k. bit_last_alone turned k word;
              put_out = subst (λ (m : List ℕ). Put m out₀ n out' r) based (put_then l.put_out p.put);
            }

    -- the same, of a word
    pub line_word : {out' : List ℕ} {m : ℕ} (now : ℕ) → w < length last
        → ((k : ℕ) → bit now k ≡ change op (bit (get_or ra w 0) k) (bit (get_or rb w 0) k) (bit (get_or ca w 0) k) (bit (get_or cb w 0) k))
        → now < 2 ^ 64 → get_or last w 0 < 2 ^ 64 → PutOnes (edges (bit_xor now (get_or last w 0)) carry) (start + 64 * w) out put out' m
        → LineTo op ra rb ca cb last₀ start out₀ n (set last w now) out' m (bit_xor now (get_or last w 0) / 2 ^ 63) (w + 1)
    line_word now room f h hl p = line_more now room f p (xor_lt 64 now (get_or last w 0) h hl)
