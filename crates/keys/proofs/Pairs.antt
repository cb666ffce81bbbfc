-- Rising lists of pair keys and the pairs that they stand for.
--   pair_up_lem                 the pairs of rising pair keys rise
--   permits_pairs           what they permit: a sum over the pair keys
--   one_pair_keys           rising pair keys that permit a set of squares within the codes are those of its one list
-- Assumes nothing.
use mathlib.Core.Path.{◌≡◌, refl, sym, ◌∙◌, ap, ap₂, subst}
use mathlib.Core.Bool.{Bool, true, false, ◌&&◌, ◌||◌, true≢false, and-false}
use mathlib.Core.List.{List, [], ◌∷◌, map}
use Prim.Native.Nat.{ℕ, suc, ◌≤◌, ◌<◌}
use native.Mathlib.Omega.{arith}
use borrow.Author.Tests.{ltb-false, lt-ltb, eq-eqb}
use lib.Dec.{ltb, eqb}
use lib.Signed.{le_z}
use Rattle.meaning.specs.Numbers.{Square, square, is_code, lowest, number, steps}
use Rattle.meaning.specs.Counting.{All}
use Rattle.meaning.specs.OneList.{one_pairs, SquaresWithin}
use Rattle.meaning.proofs.Parity.{sum, sum_map, sum_ext, sum_false}
use Rattle.meaning.proofs.Integers.{number_steps, under_lowest, not_yes, and_left, and_right}
use Rattle.meaning.proofs.Space.{Up, permits}
use Rattle.meaning.proofs.Solid.{plane}
use Rattle.meaning.proofs.Making.{is_one_pairs}
use Rattle.codes.specs.Keys.{line_of, last_of}
use Rattle.codes.proofs.Laws.{number_le, number_lt, number_same}
use Rattle.rising.specs.Merged.{From}
use Rattle.rising.proofs.Sums.{from_above}
use Rattle.keys.specs.Parts.{pair_of_key, pair_fits}

-- ---- order

pair_lt : (k j : ℕ) → k < j → plane.order.lt (pair_of_key k) (pair_of_key j) ≡ true
pair_lt k j h =
    ap₂ ◌||◌ (number_lt (line_of k) (line_of j)) (ap₂ ◌&&◌ (number_same (line_of k) (line_of j)) (number_lt (last_of k) (last_of j))) ∙
    go (ltb (line_of k) (line_of j)) refl
  where
    go : (t : Bool) → ltb (line_of k) (line_of j) ≡ t → (t || eqb (line_of k) (line_of j) && ltb (last_of k) (last_of j)) ≡ true
    go true e = refl
    go false e =
        let l = ltb-false (line_of k) (line_of j) e in
        ap₂ ◌&&◌ (eq-eqb (line_of k) (line_of j) (omega arith)) (lt-ltb (last_of k) (last_of j) (omega arith))

pub pair_up_lem : (m : ℕ) (ks : List ℕ) → From m ks → Up plane.order (map pair_of_key ks)
pair_up_lem m [] r = tt
pair_up_lem m (k ∷ ks) r = (above ks (from_above (suc k) ks r.1), pair_up_lem (suc k) ks r.1)
  where
    above : (l : List ℕ) → All (λ j. suc k ≤ j) l → All (λ p. plane.order.lt (pair_of_key k) p ≡ true) (map pair_of_key l)
    above [] h = tt
    above (j ∷ l) h = (pair_lt k j h.0, above l h.1)

-- ---- what they permit

pub permits_pairs : (b d : ℕ) (ks : List ℕ) → permits plane (map pair_of_key ks) (square (number b) (number d)) ≡ sum (pair_fits b d) ks
permits_pairs b d ks =
    let s = square (number b) (number d) in
    sum_map (plane.fits s) pair_of_key ks ∙
    sum_ext (λ k. plane.fits s (pair_of_key k)) (pair_fits b d) ks (λ k. ap₂ ◌&&◌ (number_le (line_of k) b) (number_le (last_of k) d))

-- a set of squares within the codes and the pairs of some keys agree where they agree on the squares that are given by steps
pub squares_by_steps : (S : Square → Bool) → SquaresWithin S → (ks : List ℕ) → ((b d : ℕ) → sum (pair_fits b d) ks ≡ S (square (number b) (number d)))
    → (s : Square) → permits plane (map pair_of_key ks) s ≡ S s
squares_by_steps S h ks e s = go (le_z lowest s.one) refl (le_z lowest s.two) refl
  where
    none : ((k : ℕ) → plane.fits s (pair_of_key k) ≡ false) → permits plane (map pair_of_key ks) s ≡ false
    none f = sum_map (plane.fits s) pair_of_key ks ∙ sum_ext (λ k. plane.fits s (pair_of_key k)) (λ k. false) ks f ∙ sum_false ks

    go : (t : Bool) → le_z lowest s.one ≡ t → (u : Bool) → le_z lowest s.two ≡ u → permits plane (map pair_of_key ks) s ≡ S s
    go false p u q =
        none (λ k. ap (◌&& le_z (number (last_of k)) s.two) (under_lowest (line_of k) s.one p)) ∙
        sym (not_yes (S s) (λ k. true≢false (sym (and_left (le_z lowest s.one) _ (and_left (is_code s.one) _ (h s k))) ∙ p)))
    go true p false q =
        none (λ k. ap (le_z (number (line_of k)) s.one &&◌) (under_lowest (last_of k) s.two q) ∙ and-false (le_z (number (line_of k)) s.one)) ∙
        sym (not_yes (S s) (λ k. true≢false (sym (and_left (le_z lowest s.two) _ (and_right (is_code s.one) _ (h s k))) ∙ q)))
    go true p true q =
        let x = number_steps s.one p in
        let y = number_steps s.two q in
        let is : square (number (steps s.one)) (number (steps s.two)) ≡ s = λ i. square (x i) (y i) in
        subst (λ (r : Square). permits plane (map pair_of_key ks) r ≡ S r) is
        (permits_pairs (steps s.one) (steps s.two) ks ∙ e (steps s.one) (steps s.two))

pub one_pair_keys : (S : Square → Bool) → SquaresWithin S → (ks : List ℕ) → From 0 ks
    → ((b d : ℕ) → sum (pair_fits b d) ks ≡ S (square (number b) (number d))) → map pair_of_key ks ≡ one_pairs S
one_pair_keys S h ks r e = is_one_pairs S h (map pair_of_key ks) (pair_up_lem 0 ks r) (squares_by_steps S h ks e)
