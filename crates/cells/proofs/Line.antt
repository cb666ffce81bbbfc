-- The numbers of one line.
--   less_at, number_of, number_at, number_small      a member less a base; the number of a pair
--   hit                        an odd number of members that pass is not none
--   Among, among-..            the ranks behind the numbers at the first places
--   odd_next                   the parity of the numbers up to a code, so far
--   line_here, line_behind     the least rank of a line whose wish's code is permitted, and of one where it is not
-- Assumes nothing.
use mathlib.Core.Path.{◌≡◌, refl, sym, ◌∙◌, ap, ap₂, subst}
use mathlib.Core.Logic.{◌⊎◌, inl, inr}
use mathlib.Core.Bool.{Bool, true, false, not, ◌&&◌, true≢false, false≢true, and-true, beq}
use mathlib.Core.List.{List, [], ◌∷◌, map}
use Prim.Native.Nat.{ℕ, zero, suc, ◌+◌, ◌-◌, ◌/◌, ◌%◌, ◌≤◌, ◌<◌, min}
use native.Mathlib.Omega.{arith}
use native.Mathlib.Numerals.{add-one}
use lib.Dec.{leb, ltb, eqb}
use lib.ListN.{length, get_or, take, length-map}
use lib.Seq.{take-suc}
use borrow.Author.Tests.{eqb-true, ltb-true, ltb-false}
use Rattle.meaning.proofs.Parity.{◌⊕◌, ⊕_false, sum, sum_append, sum_ext}
use Rattle.rising.specs.Merged.{less_base}
use Rattle.ranks.specs.declared.Scale.{Scale}
use Rattle.ranks.specs.Values.{axis_codes, value}
use Rattle.cells.specs.Cells.{Best, Rank, Here, Turned, point, line_in, line_unit, rest, high}
use Rattle.cells.specs.Line.{numbers_of, Behind}
use Rattle.cells.proofs.Best.{best_none, best_then, best_same}
use Rattle.cells.proofs.Axis.{axis_least, turned_past}

-- ---- members

pub map_at : (f : ℕ → ℕ) (l : List ℕ) (i : ℕ) → i < length l → get_or (map f l) i 0 ≡ f (get_or l i 0)
map_at f [] i h = absurd (omega arith)
map_at f (x ∷ l) zero h = refl
map_at f (x ∷ l) (suc i) h = map_at f l i (omega arith)

pub less_at : (base : ℕ) (l : List ℕ) (i : ℕ) → i < length l → get_or (less_base base l) i 0 ≡ get_or l i 0 - base
less_at base l i h = map_at (λ k. k - base) l i h

pub less_long : (base : ℕ) (l : List ℕ) → length (less_base base l) ≡ length l
less_long base l = length-map l (λ k. k - base)

pub numbers_long : (base : ℕ) (l : List ℕ) → length (numbers_of base l) ≡ length l
numbers_long base l = length-map (less_base base l) (rest line_unit) ∙ less_long base l

pub number_of : (base : ℕ) (l : List ℕ) (i : ℕ) → i < length l → get_or (numbers_of base l) i 0 ≡ (get_or l i 0 - base) % line_unit
number_of base l i h = map_at (rest line_unit) (less_base base l) i (omega (arith, less_long base l)) ∙ ap (rest line_unit) (less_at base l i h)

pub number_at : (base : ℕ) (l : List ℕ) (i n : ℕ) → i < length l → n ≡ rest line_unit (get_or l i 0 - base) → n ≡ get_or (numbers_of base l) i 0
number_at base l i n h e = e ∙ sym (number_of base l i h)

pub number_small : (base : ℕ) (l : List ℕ) (i : ℕ) → i < length l → get_or (numbers_of base l) i 0 < line_unit
number_small base l i h = omega (arith, number_of base l i h)

pub hit : (f : ℕ → Bool) (l : List ℕ) → sum f l ≡ true → (i : ℕ) × (i < length l) × (f (get_or l i 0) ≡ true)
hit f [] e = absurd (false≢true e)
hit f (x ∷ l) e = go (f x) refl e (λ k. hit f l k)
  where
    go : (b : Bool) → f x ≡ b → (b ⊕ sum f l) ≡ true → (sum f l ≡ true → (i : ℕ) × (i < length l) × (f (get_or l i 0) ≡ true))
        → (i : ℕ) × (i < length (x ∷ l)) × (f (get_or (x ∷ l) i 0) ≡ true)
    go true p k r = (0, omega arith, p)
    go false p k r = let (i, h, q) = r k in (suc i, omega arith, q)

one : (n : ℕ) → n / 1 ≡ n
one n = omega arith

-- on a line a number has no rest
pub whole_leb : (c : ℕ) (l : List ℕ) → sum (λ k. leb (high 1 k) c && true) l ≡ sum (λ k. leb k c) l
whole_leb c l = sum_ext (λ k. leb (high 1 k) c && true) (λ k. leb k c) l (λ k. and-true (leb (high 1 k) c) ∙ ap (λ n. leb n c) (one k))

whole_eqb : (x : ℕ) (l : List ℕ) → sum (λ k. eqb (high 1 k) x && true) l ≡ sum (λ k. eqb k x) l
whole_eqb x l = sum_ext (λ k. eqb (high 1 k) x && true) (λ k. eqb k x) l (λ k. and-true (eqb (high 1 k) x) ∙ ap (λ n. eqb n x) (one k))

-- ---- the ranks behind the numbers at the first places

pub record Among (scale : Scale) (l : List ℕ) (i base q : ℕ) : Type 0 where
  pub place : ℕ
  pub below : place < i
  pub odd : sum (λ k. eqb k (get_or l place 0)) l ≡ true
  pub rank : Behind scale (get_or l place 0) base q

module _ {scale : Scale} {l : List ℕ} {base : ℕ} where
  more : {i : ℕ} (q : ℕ) → Among scale l i base q → Among scale l (i + 1) base q
  more q t = record { place = t.place; below = omega (arith, t.below); odd = t.odd; rank = t.rank }

  last : {i : ℕ} {q : ℕ} (t : Among scale l (i + 1) base q) → Among scale l i base q ⊎ (t.place ≡ i)
  last {i} {q} t = side (ltb t.place i) refl
    where
      side : (b : Bool) → ltb t.place i ≡ b → Among scale l i base q ⊎ (t.place ≡ i)
      side true e = inl (record { place = t.place; below = ltb-true t.place i e; odd = t.odd; rank = t.rank })
      side false e = inr (omega (arith, ltb-false t.place i e, t.below))

  -- one number more that is there an odd number of times
  pub among_on : {i m r s : ℕ} → sum (λ k. eqb k (get_or l i 0)) l ≡ true → Best (Among scale l i base) m r → Best (Behind scale (get_or l i 0) base) r s
      → Best (Among scale l (i + 1) base) m s
  among_on {i} {m} {r} {s} odd =
      best_then (Among scale l i base) (Behind scale (get_or l i 0) base) (Among scale l (i + 1) base) m r s more
      (λ q t. record { place = i; below = omega arith; odd = odd; rank = t })
      (λ q t. side q t (last t))
    where
      side : (q : ℕ) (t : Among scale l (i + 1) base q) → Among scale l i base q ⊎ (t.place ≡ i) → Among scale l i base q ⊎ Behind scale (get_or l i 0) base q
      side q t (inl a) = inl a
      side q t (inr e) = inr (subst (λ (n : ℕ). Behind scale (get_or l n 0) base q) e t.rank)

  -- one that is not
  pub among_skip : {i m r : ℕ} → sum (λ k. eqb k (get_or l i 0)) l ≡ false → Best (Among scale l i base) m r → Best (Among scale l (i + 1) base) m r
  among_skip {i} {m} {r} even =
      best_same (Among scale l i base) (Among scale l (i + 1) base) m r more (λ q t. side q t (last t))
    where
      side : (q : ℕ) (t : Among scale l (i + 1) base q) → Among scale l i base q ⊎ (t.place ≡ i) → Among scale l i base q
      side q t (inl a) = a
      side q t (inr e) = absurd (true≢false (sym t.odd ∙ subst (λ (n : ℕ). sum (λ k. eqb k (get_or l n 0)) l ≡ false) (sym e) even))

  -- all of them
  pub among_all : {i m r : ℕ} → length l ≤ i → Best (Among scale l i base) m r → Best (Turned 1 scale point l 0 axis_codes base) m r
  among_all {i} {m} {r} h = best_same (Among scale l i base) (Turned 1 scale point l 0 axis_codes base) m r turned among
    where
      turned : (q : ℕ) → Among scale l i base q → Turned 1 scale point l 0 axis_codes base q
      turned q t =
          record {
            number = get_or l t.place 0;
            from = omega arith;
            below = t.rank.0;
            cell = record { at = tt; within = tt; member = whole_eqb (get_or l t.place 0) l ∙ t.odd; is = omega (arith, t.rank.1) };
          }

      among : (q : ℕ) → Turned 1 scale point l 0 axis_codes base q → Among scale l i base q
      among q t =
          let odd = sym (whole_eqb t.number l) ∙ t.cell.member in
          let (j, p, e) = hit (λ k. eqb k t.number) l odd in
          let n = eqb-true (get_or l j 0) t.number e in
          record {
            place = j;
            below = omega arith;
            odd = subst (λ (x : ℕ). sum (λ k. eqb k x) l ≡ true) (sym n) odd;
            rank = subst (λ (x : ℕ). Behind scale x base q) (sym n) (t.below, omega (arith, t.cell.is));
          }

-- ---- the parity of the numbers up to a code

pub odd_next : (f : ℕ → Bool) (l : List ℕ) (i : ℕ) (o b : Bool) → i < length l → o ≡ sum f (take i l) → b ≡ f (get_or l i 0)
    → not (beq o b) ≡ sum f (take (i + 1) l)
odd_next f l i o b h p q =
    xor_⊕ o b ∙
    ap₂ ◌⊕◌ p (q ∙ sym (⊕_false (f (get_or l i 0)))) ∙
    sym (sum_append f (take i l) (get_or l i 0 ∷ [])) ∙
    ap (sum f) (sym (take-suc l i 0 h) ∙ ap (λ (n : ℕ). take n l) (sym (add-one i)))
  where
    xor_⊕ : (a c : Bool) → not (beq a c) ≡ (a ⊕ c)
    xor_⊕ true true = refl
    xor_⊕ true false = refl
    xor_⊕ false true = refl
    xor_⊕ false false = refl

-- ---- the whole line

module _ (scale : Scale) {l : List ℕ} {base best : ℕ} where
  pub line_here : {r : ℕ} → true ≡ sum (λ k. leb k scale.wish) l → r ≡ min best (base + value scale scale.wish)
      → Best (Rank (line_in scale) l base) best r
  line_here {r} e h = axis_least {scale = scale} at_wish (turned_past {scale = scale} (omega arith))
    where
      cell : (q : ℕ) → q ≡ base + value scale scale.wish → Here 1 scale point l base q
      cell q p = record { at = tt; within = tt; member = whole_leb scale.wish l ∙ sym e; is = omega arith }

      from : (b : Bool) → ltb (base + value scale scale.wish) best ≡ b → (r ≡ best) ⊎ Here 1 scale point l base r
      from true p = inr (cell r (omega (arith, ltb-true (base + value scale scale.wish) best p)))
      from false p = inl (omega (arith, ltb-false (base + value scale scale.wish) best p))

      at_wish : Best (Here 1 scale point l base) best r
      at_wish =
          record {
            low = omega arith;
            least = λ q t. omega (arith, t.is);
            from = from (ltb (base + value scale scale.wish) best) refl;
          }

  pub line_behind : {r : ℕ} → false ≡ sum (λ k. leb k scale.wish) l → Best (Turned 1 scale point l 0 axis_codes base) best r
      → Best (Rank (line_in scale) l base) best r
  line_behind {r} e = axis_least {scale = scale} none
    where
      none : Best (Here 1 scale point l base) best best
      none =
          best_none (Here 1 scale point l base) best
          (λ q t. absurd (true≢false (sym t.member ∙ whole_leb scale.wish l ∙ sym e)))
