-- The check's verdict and validity.
--   verdict_valid          the verdict is Valid exactly when the numbers come in threes and their vertices are a valid list
--   passed, passes_valid   a verdict that passes is Valid, and the list is then a valid one
-- Assumes nothing.
use mathlib.Core.Path.{◌≡◌, refl, sym, ◌∙◌, ap, ap₂}
use mathlib.Core.Logic.{◌↔◌}
use mathlib.Core.Bool.{Bool, true, false, not, ◌||◌, cond, true≢false, false≢true}
use mathlib.Core.List.{List, [], ◌∷◌}
use Prim.Native.Nat.{ℕ, zero, suc, ◌%◌, ◌≤◌, ◌<◌}
use native.Mathlib.Omega.{arith}
use lib.IntN.{ℤ}
use lib.Dec.{ltb, eqb}
use lib.ListN.{length}
use borrow.Author.Tests.{ltb-true, ltb-false, le-ltb, eq-eqb, eqb-true}
use Rattle.meaning.specs.Numbers.{Axis, focus, first as first_shift, second, pair_of, is_corner}
use Rattle.meaning.specs.declared.Corner.{Corner}
use Rattle.meaning.specs.Counting.{All, first, odd, count}
use Rattle.meaning.specs.Lists.{vertices, below, Rising, on_line, odd_line, same_pair, most_vertices, Valid}
use Rattle.meaning.specs.Verdicts.{at, outside_at, falls_at, on_odd_line_at, unless_at, verdict_of, verdict, passes, refusal_number, Verdict, Valid as Passed}
use Rattle.std.specs.Prelude.{Ok, Err}
use Rattle.meaning.specs.declared.Refusal.{Refusal}
use Rattle.meaning.specs.declared.Refusal.TheVariants.{NotTriples, TooMany, OutOfRange, NotRising, OddLine}
use Rattle.meaning.proofs.Parity.{odd_count, sum_some}
use Rattle.meaning.proofs.Integers.{not_yes}
use Rattle.meaning.proofs.First.{first_is}
use Rattle.meaning.proofs.Solid.{plane}

-- ---- what a passed test says of every place, and back

not_passed : {r : Refusal} → ◌≡◌ {A = Verdict} (Err r) Passed → ⊥
not_passed e = false≢true (ap passes e)

unless_passed : (p : ℕ → Bool) (n : ℕ) (refusal : ℕ → Refusal) (next : Verdict) → unless_at p n refusal next ≡ Passed
    → ((k : ℕ) → k < n → p k ≡ false) × (next ≡ Passed)
unless_passed p n refusal next e = go (ltb (first p n) n) refl e
  where
    go : (t : Bool) → ltb (first p n) n ≡ t → cond t (Err (refusal (first p n))) next ≡ Passed → ((k : ℕ) → k < n → p k ≡ false) × (next ≡ Passed)
    go true a f = absurd (not_passed f)
    go false a f = (λ k l. (first_is p n).before k (omega (arith, ltb-false (first p n) n a)), f)

unless_none : (p : ℕ → Bool) (n : ℕ) (refusal : ℕ → Refusal) (next : Verdict) → ((k : ℕ) → k < n → p k ≡ false) → unless_at p n refusal next ≡ next
unless_none p n refusal next h =
    ap (λ t. cond t (Err (refusal (first p n))) next)
    (not_yes (ltb (first p n) n) (λ e. let l = ltb-true (first p n) n e in true≢false (sym ((first_is p n).found l) ∙ h (first p n) l)))

all_places : (Q : Corner → Type 0) (l : List Corner) → ((k : ℕ) → k < length l → Q (at l k)) → All Q l
all_places Q [] h = tt
all_places Q (v ∷ l) h = (h zero (omega arith), all_places Q l (λ k p. h (suc k) (omega arith)))

pub place_all : (Q : Corner → Type 0) (l : List Corner) → All Q l → (k : ℕ) → k < length l → Q (at l k)
place_all Q [] h k p = absurd (omega arith)
place_all Q (v ∷ l) h zero p = h.0
place_all Q (v ∷ l) h (suc k) p = place_all Q l h.1 k (omega arith)

flip : (b : Bool) → not b ≡ false → b ≡ true
flip true e = refl
flip false e = sym e

places_rising : (l : List Corner) → ((k : ℕ) → k < length l → falls_at l k ≡ false) → Rising l
places_rising [] h = tt
places_rising (v ∷ []) h = tt
places_rising (v ∷ w ∷ l) h = (flip (below v w) (h 1 (omega arith)), places_rising (w ∷ l) (tail h))
  where
    tail : ((k : ℕ) → k < length (v ∷ w ∷ l) → falls_at (v ∷ w ∷ l) k ≡ false) → (k : ℕ) → k < length (w ∷ l) → falls_at (w ∷ l) k ≡ false
    tail g zero p = refl
    tail g (suc k) p = g (suc (suc k)) (omega arith)

rising_places : (l : List Corner) → Rising l → (k : ℕ) → k < length l → falls_at l k ≡ false
rising_places l h zero p = refl
rising_places (v ∷ []) h (suc k) p = absurd (omega arith)
rising_places (v ∷ w ∷ l) h (suc zero) p = ap not h.0
rising_places (v ∷ w ∷ l) h (suc (suc k)) p = rising_places (w ∷ l) h.1 (suc k) (omega arith)
rising_places [] h (suc k) p = absurd (omega arith)

or_none : (a b : Bool) → (a || b) ≡ false → (a ≡ false) × (b ≡ false)
or_none true b e = absurd (true≢false e)
or_none false b e = (refl, e)

on_axis : (l : List Corner) (k : ℕ) → on_odd_line_at l k ≡ false → (axis : Axis) → odd_line axis l (at l k) ≡ false
on_axis l k e focus = (or_none (odd_line focus l (at l k)) _ e).0
on_axis l k e first_shift = (or_none (odd_line first_shift l (at l k)) _ (or_none (odd_line focus l (at l k)) _ e).1).0
on_axis l k e second = (or_none (odd_line first_shift l (at l k)) _ (or_none (odd_line focus l (at l k)) _ e).1).1

-- an odd line has a vertex on it, so that no line is odd where none through a vertex is
places_even : (l : List Corner) → ((k : ℕ) → k < length l → on_odd_line_at l k ≡ false) → (axis : Axis) (v : Corner) → odd_line axis l v ≡ false
places_even l h axis v =
    not_yes (odd_line axis l v)
    (λ e.
    let (w, q, on) = sum_some (λ w. odd_line axis l w ≡ false) (on_line axis v) l (all_places (λ w. odd_line axis l w ≡ false) l (λ k p. on_axis l k (h k p) axis)) (sym (odd_count (on_line axis v) l) ∙ e) in
    true≢false (sym e ∙ ap (λ p. odd (count (λ u. same_pair p (pair_of axis u)) l)) (plane.order.eq_sound (pair_of axis v) (pair_of axis w) on) ∙ q))

pub verdict_valid : (ns : List ℤ) → (verdict ns ≡ Passed) ↔ ((length ns % 3 ≡ 0) × Valid (vertices ns))
unfolding verdict
verdict_valid ns = (λ e. whole (eqb (length ns % 3) 0) refl e, λ r. back r.0 r.1)
  where
    l : List Corner
    l = vertices ns

    n : ℕ
    n = length (vertices ns)

    parts : n ≤ most_vertices → verdict_of l ≡ Passed → Valid l
    parts few e =
        let a = unless_passed (outside_at l) n OutOfRange _ e in
        let b = unless_passed (falls_at l) n NotRising _ a.1 in
        let d = unless_passed (on_odd_line_at l) n OddLine Passed b.1 in
        record {
          few = few;
          corners = all_places (λ v. is_corner v ≡ true) l (λ k p. flip (is_corner (at l k)) (a.0 k p));
          rising = places_rising l b.0;
          even = places_even l d.0;
        }

    counted : (t : Bool) → ltb most_vertices n ≡ t → cond t (Err TooMany) (verdict_of l) ≡ Passed → Valid l
    counted true q e = absurd (not_passed e)
    counted false q e = parts (ltb-false most_vertices n q) e

    whole : (t : Bool) → eqb (length ns % 3) 0 ≡ t → cond t (cond (ltb most_vertices n) (Err TooMany) (verdict_of l)) (Err NotTriples) ≡ Passed → (length ns % 3 ≡ 0) × Valid l
    whole true q e = (eqb-true (length ns % 3) 0 q, counted (ltb most_vertices n) refl e)
    whole false q e = absurd (not_passed e)

    none_odd : Valid l → (k : ℕ) → k < n → on_odd_line_at l k ≡ false
    none_odd h k p = ap₂ ◌||◌ (h.even focus (at l k)) (ap₂ ◌||◌ (h.even first_shift (at l k)) (h.even second (at l k)))

    back : length ns % 3 ≡ 0 → Valid l → cond (eqb (length ns % 3) 0) (cond (ltb most_vertices n) (Err TooMany) (verdict_of l)) (Err NotTriples) ≡ Passed
    back q h =
        ap (λ t. cond t (cond (ltb most_vertices n) (Err TooMany) (verdict_of l)) (Err NotTriples)) (eq-eqb (length ns % 3) 0 q) ∙
        ap (λ t. cond t (Err TooMany) (verdict_of l)) (le-ltb most_vertices n h.few) ∙
        unless_none (outside_at l) n OutOfRange _ (λ k p. ap not (place_all (λ v. is_corner v ≡ true) l h.corners k p)) ∙
        unless_none (falls_at l) n NotRising _ (rising_places l h.rising) ∙
        unless_none (on_odd_line_at l) n OddLine Passed (none_odd h)

pub passed : (v : Verdict) → passes v ≡ true → v ≡ Passed
passed (Ok tt) e = refl
passed (Err r) e = absurd (false≢true e)

pub passes_valid : (ns : List ℤ) → passes (verdict ns) ≡ true → Valid (vertices ns)
passes_valid ns e = ((verdict_valid ns).0 (passed (verdict ns) e)).1
