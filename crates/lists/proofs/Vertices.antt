-- The vertices of a list of numbers.
--   length_vertices   as many as a third of the numbers
--   at_vertices       the vertex at a place is the corner of the numbers 3i, 3i + 1 and 3i + 2
--   outside_at_lem, falls_at_lem, falls_key     the tests of the verdict, at a place
--   numbers_range               a list of corner numbers is in range
--   number_in, steps_in         each number of a list in range is a corner number, with at most 1024 steps
--   all_by            every member of a list, by its places
use mathlib.Core.Path.{◌≡◌, refl, sym, ◌∙◌, ap, ap₂}
use mathlib.Core.Bool.{true, not}
use mathlib.Core.List.{List, [], ◌∷◌}
use Prim.Native.Nat.{ℕ, zero, suc, ◌+◌, ◌-◌, ◌*◌, ◌/◌, ◌≤◌, ◌<◌}
use native.Mathlib.Omega.{arith}
use lib.Dec.{ltb}
use lib.IntN.{ℤ, pos}
use lib.ListN.{length, get_or}
use Rattle.meaning.specs.Numbers.{corner, is_number, is_corner, steps}
use Rattle.meaning.specs.Counting.{All}
use Rattle.meaning.specs.Lists.{vertices, below}
use Rattle.meaning.specs.Verdicts.{at, outside_at, falls_at}
use Rattle.codes.specs.Keys.{key_of, corner_at}
use Rattle.codes.proofs.Laws.{number_steps_le}
use Rattle.codes.proofs.Keys.{corner_numbers_lem, below_key}
use Rattle.lists.specs.Check.{AllNumbers, InRange}
use Rattle.meaning.proofs.Flags.{all_third}

pub length_vertices : (ns : List ℤ) → length (vertices ns) ≡ length ns / 3
length_vertices [] = refl
length_vertices (x ∷ []) = refl
length_vertices (x ∷ y ∷ []) = refl
length_vertices (x ∷ y ∷ z ∷ l) = omega (arith, length_vertices l)

-- three places further on
further : (x y z : ℤ) (l : List ℤ) (i : ℕ) → corner_at (x ∷ y ∷ z ∷ l) (suc i) ≡ corner_at l i
further x y z l i = λ j.
    corner
    (place (3 * suc i) (3 * i) (omega arith) j)
    (place (3 * suc i + 1) (3 * i + 1) (omega arith) j)
    (place (3 * suc i + 2) (3 * i + 2) (omega arith) j)
  where
    place : (m n : ℕ) → m ≡ suc (suc (suc n)) → get_or (x ∷ y ∷ z ∷ l) m (pos 0) ≡ get_or l n (pos 0)
    place m n e = ap (λ k. get_or (x ∷ y ∷ z ∷ l) k (pos 0)) e

pub at_vertices : (ns : List ℤ) (i : ℕ) → i < length (vertices ns) → at (vertices ns) i ≡ corner_at ns i
at_vertices [] i h = absurd (omega arith)
at_vertices (x ∷ []) i h = absurd (omega arith)
at_vertices (x ∷ y ∷ []) i h = absurd (omega arith)
at_vertices (x ∷ y ∷ z ∷ l) zero h = refl
at_vertices (x ∷ y ∷ z ∷ l) (suc i) h = at_vertices l i (omega arith) ∙ sym (further x y z l i)

pub outside_at_lem : (ns : List ℤ) (i : ℕ) → i < length (vertices ns) → outside_at (vertices ns) i ≡ not (is_corner (corner_at ns i))
outside_at_lem ns i h = ap (λ v. not (is_corner v)) (at_vertices ns i h)

pub falls_at_lem : (ns : List ℤ) (i : ℕ) → suc i < length (vertices ns) → falls_at (vertices ns) (suc i) ≡ not (below (corner_at ns i) (corner_at ns (suc i)))
falls_at_lem ns i h = ap₂ (λ v w. not (below v w)) (at_vertices ns i (omega arith)) (at_vertices ns (suc i) h)

-- a vertex after the first, of a list in range: by the keys of it and of the one before
pub falls_key : (ns : List ℤ) (i : ℕ) → InRange ns → 0 < i → i < length (vertices ns) →
    falls_at (vertices ns) i ≡ not (ltb (key_of (corner_at ns (i - 1))) (key_of (corner_at ns i)))
falls_key ns zero r h l = absurd (omega arith)
falls_key ns (suc i) r h l =
    falls_at_lem ns i l ∙
    ap not (below_key (corner_at ns i) (corner_at ns (suc i)) (r i (omega arith)) (r (suc i) l)) ∙
    ap (λ k. not (ltb (key_of (corner_at ns k)) (key_of (corner_at ns (suc i))))) (omega arith)

pub numbers_range : (ns : List ℤ) → AllNumbers ns → InRange ns
numbers_range ns all i h =
    let v = corner_at ns i in
    let n = length_vertices ns in
    sym
    (all_third (is_number v.focus) (is_number v.first) (is_number v.second) (all (3 * i) (omega arith)) (all (3 * i + 1) (omega arith))
    (sym (all (3 * i + 2) (omega arith))))

first_place : (i : ℕ) → 3 * i + 0 ≡ 3 * i
first_place i = omega arith

pub number_in : (ns : List ℤ) (i a : ℕ) → InRange ns → i < length (vertices ns) → a < 3 → is_number (get_or ns (3 * i + a) (pos 0)) ≡ true
number_in ns i a r h k = by a k
  where
    by : (a : ℕ) → a < 3 → is_number (get_or ns (3 * i + a) (pos 0)) ≡ true
    by zero k = ap (λ m. is_number (get_or ns m (pos 0))) (first_place i) ∙ (corner_numbers_lem (corner_at ns i) (r i h)).one
    by (suc zero) k = (corner_numbers_lem (corner_at ns i) (r i h)).two
    by (suc (suc zero)) k = (corner_numbers_lem (corner_at ns i) (r i h)).three
    by (suc (suc (suc a))) k = absurd (omega arith)

pub steps_in : (ns : List ℤ) (i a : ℕ) → InRange ns → i < length (vertices ns) → a < 3 → steps (get_or ns (3 * i + a) (pos 0)) ≤ 1024
steps_in ns i a r h k = number_steps_le (get_or ns (3 * i + a) (pos 0)) (number_in ns i a r h k)

module _ {A : Type 0} (P : A → Type 0) (d : A) where
  pub all_by : (l : List A) → ((i : ℕ) → i < length l → P (get_or l i d)) → All P l
  all_by [] h = tt
  all_by (x ∷ l) h = (h 0 (omega arith), all_by l (λ i k. h (suc i) (omega arith)))
