-- Rising lists, place by place, and runs of numbers with one high part.
--   from_low, from_lt, from_le       members of a rising list
--   map_take, map_drop               parts of a list of which every member is changed
--   sum_places, sum_upto, sum_run    sums of which all that counts stands at the front, or in a run
--   run_of, take_run, run_at          the part of a list from one place to below another
--   less_run, above_run              parts of a list that counts from a base
--   once                             the rests of a run are all different
--   run_goes_on, run_stops, run_ends     where a run ends
--   less_le, edge_at                 the numbers up to a code
--   high_in, high_out                the high part at a place
-- Assumes nothing.
use mathlib.Core.Path.{◌≡◌, refl, sym, ◌∙◌, ap, ap₂, subst}
use mathlib.Core.Bool.{Bool, true, false, cond}
use mathlib.Core.List.{List, [], ◌∷◌, ◌++◌, map}
use Prim.Native.Nat.{ℕ, zero, suc, ◌+◌, ◌-◌, ◌*◌, ◌/◌, ◌≤◌, ◌<◌, min}
use native.Mathlib.Omega.{arith}
use native.Mathlib.Nat.{div-add-mod', div-mul-le_self, le-div_iff_mul-le, div-lt_iff_lt-mul, add-mul}
use lib.Dec.{ltb, eqb}
use lib.ListN.{length, get_or, take, drop, length-map, length-take, length-drop}
use lib.Seq.{take-add, get_or-take, get_or-drop, length-take-le}
use borrow.Author.Tests.{lt-ltb, le-ltb, ltb-true, ltb-false, eqb-true, eqb-false, eq-eqb, ne_eqb}
use Rattle.meaning.proofs.Parity.{◌⊕◌, sum, sum_append, sum_map}
use Rattle.rising.specs.Merged.{From, less_base}
use Rattle.rising.proofs.Sums.{from_less}
use Rattle.cells.specs.Cells.{high, rest, high_at, Cut, Run, Edge}
use Rattle.cells.specs.Line.{Above, Once}
use Rattle.cells.proofs.Line.{map_at, less_at, less_long}

-- ---- sums

pub sum_places : (f g : ℕ → Bool) (l : List ℕ) → ((j : ℕ) → j < length l → f (get_or l j 0) ≡ g (get_or l j 0)) → sum f l ≡ sum g l
sum_places f g [] h = refl
sum_places f g (x ∷ l) h = ap₂ ◌⊕◌ (h 0 (omega arith)) (sum_places f g l (λ j p. h (suc j) (omega arith)))

sum_none : (f : ℕ → Bool) (l : List ℕ) → ((j : ℕ) → j < length l → f (get_or l j 0) ≡ false) → sum f l ≡ false
sum_none f [] h = refl
sum_none f (x ∷ l) h = ap₂ ◌⊕◌ (h 0 (omega arith)) (sum_none f l (λ j p. h (suc j) (omega arith)))

pub sum_upto : (f g : ℕ → Bool) (l : List ℕ) (e : ℕ)
    → ((j : ℕ) → j < e → j < length l → f (get_or l j 0) ≡ g (get_or l j 0))
    → ((j : ℕ) → e ≤ j → j < length l → f (get_or l j 0) ≡ false)
    → sum f l ≡ sum g (take e l)
sum_upto f g [] zero h k = refl
sum_upto f g [] (suc e) h k = refl
sum_upto f g (x ∷ l) zero h k = sum_none f (x ∷ l) (λ j p. k j (omega arith) p)
sum_upto f g (x ∷ l) (suc e) h k =
    ap₂ ◌⊕◌ (h 0 (omega arith) (omega arith))
    (sum_upto f g l e (λ j p q. h (suc j) (omega arith) (omega arith)) (λ j p q. k (suc j) (omega arith) (omega arith)))

-- ---- rising lists, place by place

pub from_low : (m : ℕ) (l : List ℕ) → From m l → (k : ℕ) → k < length l → m ≤ get_or l k 0
from_low m [] h k p = absurd (omega arith)
from_low m (x ∷ l) h zero p = h.0
from_low m (x ∷ l) h (suc k) p = omega (arith, h.0, from_low (suc x) l h.1 k (omega arith))

pub from_lt : (m : ℕ) (l : List ℕ) → From m l → (j k : ℕ) → j < k → k < length l → get_or l j 0 < get_or l k 0
from_lt m [] h j k p q = absurd (omega arith)
from_lt m (x ∷ l) h zero zero p q = absurd (omega arith)
from_lt m (x ∷ l) h zero (suc k) p q = omega (arith, from_low (suc x) l h.1 k (omega arith))
from_lt m (x ∷ l) h (suc j) zero p q = absurd (omega arith)
from_lt m (x ∷ l) h (suc j) (suc k) p q = from_lt (suc x) l h.1 j k (omega arith) (omega arith)

pub from_le : (m : ℕ) (l : List ℕ) → From m l → (j k : ℕ) → j ≤ k → k < length l → get_or l j 0 ≤ get_or l k 0
from_le m l h j k p q = go (ltb j k) refl
  where
    go : (b : Bool) → ltb j k ≡ b → get_or l j 0 ≤ get_or l k 0
    go true e = omega (arith, from_lt m l h j k (ltb-true j k e) q)
    go false e = let s : j ≡ k = omega (arith, ltb-false j k e) in subst (λ (n : ℕ). get_or l j 0 ≤ get_or l n 0) s (omega arith)

pub from_take : (m n : ℕ) (l : List ℕ) → From m l → From m (take n l)
from_take m zero l h = tt
from_take m (suc n) [] h = tt
from_take m (suc n) (x ∷ l) h = (h.0, from_take (suc x) n l h.1)

pub from_drop : (m n : ℕ) (l : List ℕ) → From m l → From m (drop n l)
from_drop m zero l h = h
from_drop m (suc n) [] h = tt
from_drop m (suc n) (x ∷ l) h = from_drop m n l (from_less m (suc x) l (omega (arith, h.0)) h.1)

-- a member of a rising list stands there once
from_once : (m : ℕ) (l : List ℕ) → From m l → (i : ℕ) → i < length l → sum (λ k. eqb k (get_or l i 0)) l ≡ true
from_once m [] h i p = absurd (omega arith)
from_once m (x ∷ l) h zero p = ap₂ ◌⊕◌ (eq-eqb x x refl) (sum_none (λ k. eqb k x) l others)
  where
    others : (j : ℕ) → j < length l → eqb (get_or l j 0) x ≡ false
    others j q = ne_eqb (get_or l j 0) x (λ e. omega (arith, from_low (suc x) l h.1 j q))
from_once m (x ∷ l) h (suc i) p =
    ap₂ ◌⊕◌ (ne_eqb x (get_or l i 0) (λ e. omega (arith, from_low (suc x) l h.1 i (omega arith)))) (from_once (suc x) l h.1 i (omega arith))

-- ---- parts of lists

pub map_take : (f : ℕ → ℕ) (n : ℕ) (l : List ℕ) → map f (take n l) ≡ take n (map f l)
map_take f zero l = refl
map_take f (suc n) [] = refl
map_take f (suc n) (x ∷ l) = ap (f x ∷◌) (map_take f n l)

map_drop : (f : ℕ → ℕ) (n : ℕ) (l : List ℕ) → map f (drop n l) ≡ drop n (map f l)
map_drop f zero l = refl
map_drop f (suc n) [] = refl
map_drop f (suc n) (x ∷ l) = map_drop f n l

abbrev pub run_of : List ℕ → ℕ → ℕ → List ℕ
run_of l i e = take (e - i) (drop i l)

pub take_run : (l : List ℕ) (i e : ℕ) → i ≤ e → take i l ++ run_of l i e ≡ take e l
take_run l i e h = let s : i + (e - i) ≡ e = omega arith in sym (take-add i (e - i) l) ∙ ap (λ n. take n l) s

pub length_run : (l : List ℕ) (i e : ℕ) → e ≤ length l → length (run_of l i e) ≡ e - i
length_run l i e h = length-take-le (e - i) (drop i l) (omega (arith, length-drop i l))

pub run_at : (l : List ℕ) (i e k : ℕ) → k < e - i → get_or (run_of l i e) k 0 ≡ get_or l (i + k) 0
run_at l i e k h = get_or-take (e - i) (drop i l) k 0 h ∙ get_or-drop i l k 0

-- a part of a list less a base
pub less_run : (base : ℕ) (l : List ℕ) (i e : ℕ) → less_base base (run_of l i e) ≡ run_of (less_base base l) i e
less_run base l i e = map_take (λ k. k - base) (e - i) (drop i l) ∙ ap (take (e - i)) (map_drop (λ k. k - base) i l)

pub above_run : (base : ℕ) (l : List ℕ) (i e : ℕ) → e ≤ length l → Above base l → Above base (run_of l i e)
above_run base l i e h a k p =
    let q : k < e - i = omega (arith, length_run l i e h) in
    omega (arith, run_at l i e k q, a (i + k) (omega arith))

-- a sum of which all that counts stands in a run
pub sum_run : (f g : ℕ → Bool) (l : List ℕ) (i e : ℕ) → i ≤ e → e ≤ length l
    → ((j : ℕ) → j < i → f (get_or l j 0) ≡ false)
    → ((j : ℕ) → i ≤ j → j < e → f (get_or l j 0) ≡ g (get_or l j 0))
    → ((j : ℕ) → e ≤ j → j < length l → f (get_or l j 0) ≡ false)
    → sum f l ≡ sum g (run_of l i e)
sum_run f g l i e h n before in_it after =
    sum_upto f f l e (λ j p q. refl) after ∙
    ap (sum f) (sym (take_run l i e h)) ∙
    sum_append f (take i l) (run_of l i e) ∙
    ap₂ ◌⊕◌ (sum_none f (take i l) front) (sum_places f g (run_of l i e) inner)
  where
    front : (j : ℕ) → j < length (take i l) → f (get_or (take i l) j 0) ≡ false
    front j p = let q : j < i = omega (arith, length-take i l) in ap f (get_or-take i l j 0 q) ∙ before j q

    inner : (j : ℕ) → j < length (run_of l i e) → f (get_or (run_of l i e) j 0) ≡ g (get_or (run_of l i e) j 0)
    inner j p =
        let q : j < e - i = omega (arith, length_run l i e n) in
        let s = run_at l i e j q in
        ap f s ∙ in_it (i + j) (omega arith) (omega arith) ∙ ap g (sym s)

-- ---- high parts and rests

whole : (unit k : ℕ) → high unit k * unit + rest unit k ≡ k
whole unit k = div-add-mod' k unit

-- numbers with one high part are told by their rests
eqb_rest : (unit a b : ℕ) → high unit a ≡ high unit b → eqb (rest unit a) (rest unit b) ≡ eqb a b
eqb_rest unit a b e = go (eqb (rest unit a) (rest unit b)) refl
  where
    go : (t : Bool) → eqb (rest unit a) (rest unit b) ≡ t → eqb (rest unit a) (rest unit b) ≡ eqb a b
    go true p =
        p ∙
        sym
        (eq-eqb a b (omega (arith, whole unit a, whole unit b, ap (◌* unit) e, eqb-true (rest unit a) (rest unit b) p)))
    go false p = p ∙ sym (ne_eqb a b (λ q. eqb-false (rest unit a) (rest unit b) p (ap (rest unit) q)))

-- the rests of a run are all different
pub once : (unit : ℕ) (l : List ℕ) (i e : ℕ) → From 0 l → Run (high unit) l i e → Once (map (rest unit) (run_of l i e))
once unit l i e rises run j p =
    let q : j < length r = omega (arith, length-map r (rest unit)) in
    sum_map (λ k. eqb k (get_or (map (rest unit) r) j 0)) (rest unit) r ∙
    sum_places (λ k. eqb (rest unit k) (get_or (map (rest unit) r) j 0)) (λ k. eqb k (get_or r j 0)) r
    (λ k s. ap (eqb (rest unit (get_or r k 0))) (map_at (rest unit) r j q) ∙ eqb_rest unit (get_or r k 0) (get_or r j 0) (same k s ∙ sym (same j q))) ∙
    from_once 0 r (from_take 0 (e - i) (drop i l) (from_drop 0 i l rises)) j q
  where
    r : List ℕ
    r = run_of l i e

    same : (k : ℕ) → k < length (run_of l i e) → high unit (get_or (run_of l i e) k 0) ≡ high unit (get_or l i 0)
    same k s =
        let h : k < e - i = omega (arith, length_run l i e run.within) in
        ap (high unit) (run_at l i e k h) ∙ run.same (i + k) (omega arith) (omega arith)

-- high parts of a rising list rise
pub high_mono : (unit : ℕ) → 0 < unit → (l : List ℕ) → From 0 l → (j k : ℕ) → j ≤ k → k < length l → high unit (get_or l j 0) ≤ high unit (get_or l k 0)
high_mono unit u l h j k p q =
    (le-div_iff_mul-le u).1 (omega (arith, div-mul-le_self (get_or l j 0) unit, from_le 0 l h j k p q))

-- ---- where a run ends

module _ (unit : ℕ) (u : 0 < unit) (y z : ℕ) where
  same_high : y ≤ z → z - high unit y * unit < unit → high unit z ≡ high unit y
  same_high h k =
      let a : high unit y ≤ high unit z = (le-div_iff_mul-le u).1 (omega (arith, div-mul-le_self y unit)) in
      let b : high unit z < high unit y + 1 = (div-lt_iff_lt-mul u).1 (omega (arith, add-mul (high unit y) 1 unit)) in
      omega arith

  next_high : unit ≤ z - high unit y * unit → high unit y < high unit z
  next_high h =
      let a : high unit y + 1 ≤ high unit z = (le-div_iff_mul-le u).1 (omega (arith, add-mul (high unit y) 1 unit)) in
      omega arith

module _ (unit : ℕ) (u : 0 < unit) {l : List ℕ} (rises : From 0 l) {i : ℕ} where
  -- the number at the run's begin is y, the one behind it z
  module _ {e : ℕ} (run : Run (high unit) l i e) (y z : ℕ) (first : get_or l i 0 ≡ y) (next : get_or l e 0 ≡ z) where
    start : get_or l i 0 / unit * unit ≡ y / unit * unit
    start = ap (λ n. n / unit * unit) first

    pub run_over : e < length l → y / unit * unit ≤ z
    run_over h = omega (arith, start, div-mul-le_self (get_or l i 0) unit, from_le 0 l rises i e (omega (arith, run.some)) h)

    pub run_goes_on : e < length l → z - y / unit * unit < unit → Run (high unit) l i (e + 1)
    run_goes_on h k =
        record {
          some = omega (arith, run.some);
          within = omega arith;
          same = λ n p q. go n p q (ltb n e) refl;
        }
      where
        last : high unit (get_or l e 0) ≡ high unit (get_or l i 0)
        last = same_high unit u (get_or l i 0) (get_or l e 0) (from_le 0 l rises i e (omega (arith, run.some)) h) (omega (arith, start))

        go : (n : ℕ) → i ≤ n → n < e + 1 → (b : Bool) → ltb n e ≡ b → high unit (get_or l n 0) ≡ high unit (get_or l i 0)
        go n p q true t = run.same n p (ltb-true n e t)
        go n p q false t = let s : n ≡ e = omega (arith, ltb-false n e t) in ap (λ m. high unit (get_or l m 0)) s ∙ last

    pub run_stops : e < length l → unit ≤ z - y / unit * unit → Cut (high unit) l e
    run_stops h k =
        record {
          within = omega arith;
          apart = λ j n p q r.
              let a = high_mono unit u l rises j (e - 1) (omega arith) (omega arith) in
              let b = run.same (e - 1) (omega (arith, run.some)) (omega (arith, run.some)) in
              let c = high_mono unit u l rises e n q r in
              omega (arith, next_high unit u (get_or l i 0) (get_or l e 0) (omega (arith, start)));
        }

  module _ {e : ℕ} (run : Run (high unit) l i e) where
    pub run_ends : length l ≤ e → Cut (high unit) l e
    run_ends h = record { within = run.within; apart = λ j n p q r. absurd (omega arith) }

-- before the first number no run goes on
pub cut_none : (hi : ℕ → ℕ) (l : List ℕ) (i : ℕ) → i ≤ 0 → Cut hi l i
cut_none hi l i h = record { within = omega arith; apart = λ j k p q r. absurd (omega arith) }

-- ---- which numbers lie up to a code

-- less a base the numbers do not fall
pub less_le : (base : ℕ) (l : List ℕ) → From 0 (less_base base l) → (j k : ℕ) → j ≤ k → k < length l → get_or l j 0 - base ≤ get_or l k 0 - base
less_le base l rises j k p q =
    omega (arith, less_at base l j (omega arith), less_at base l k q, from_le 0 (less_base base l) rises j k p (omega (arith, less_long base l)))

-- the numbers before a place lie below the end of a code, those from it on do not
pub edge_at : (unit : ℕ) → 0 < unit → (base code : ℕ) (l : List ℕ) (i : ℕ) → i ≤ length l
    → ((j : ℕ) → j < i → get_or l j 0 - base < (code + 1) * unit)
    → ((j : ℕ) → i ≤ j → j < length l → (code + 1) * unit ≤ get_or l j 0 - base)
    → Edge (high unit) (less_base base l) code i
edge_at unit u base code l i h under over =
    record {
      within = omega (arith, less_long base l);
      upto = λ j p.
          let e = less_at base l j (omega arith) in
          let a : high unit (get_or l j 0 - base) < code + 1 = (div-lt_iff_lt-mul u).1 (under j p) in
          omega (arith, ap (high unit) e);
      beyond = λ j p q.
          let r : j < length l = omega (arith, less_long base l) in
          let e = less_at base l j r in
          let a : code + 1 ≤ high unit (get_or l j 0 - base) = (le-div_iff_mul-le u).1 (over j p r) in
          omega (arith, ap (high unit) e);
    }

-- ---- the high part at a place

pub high_in : (hi : ℕ → ℕ) (l : List ℕ) (i : ℕ) → i < length l → high_at hi l i ≡ min (hi (get_or l i 0)) 1024
high_in hi l i h = ap (λ b. cond b (min (hi (get_or l i 0)) 1024) 1024) (lt-ltb i (length l) h)

pub high_out : (hi : ℕ → ℕ) (l : List ℕ) (i : ℕ) → length l ≤ i → high_at hi l i ≡ 1024
high_out hi l i h = ap (λ b. cond b (min (hi (get_or l i 0)) 1024) 1024) (le-ltb i (length l) h)

pub high_end : (hi : ℕ → ℕ) (l : List ℕ) (i : ℕ) → high_at hi l i ≤ 1024
high_end hi l i = go (ltb i (length l)) refl
  where
    go : (b : Bool) → ltb i (length l) ≡ b → high_at hi l i ≤ 1024
    go true e = omega (arith, high_in hi l i (ltb-true i (length l) e))
    go false e = omega (arith, high_out hi l i (ltb-false i (length l) e))
