-- Lists that a call has made: what stands at the front of a result, cell by cell and square by square.
--   length_numbers, length_pairs             three numbers for each vertex, two for each pair
--   Stands, placed_stands                    a list that stands at the front of a result, with its count: so it does where it is placed and fits
--   stands_behind                            everything behind it is untouched
--   vertices_back, pairs_back, read_front    what is read from the front is the list that stands there
--   one_map                                  the one list of a set of cells within the codes is a map of the set
--   front_vertices, front_map, front_count   so it is where it stands at the front of a result
--   rising_up, up_rising, one_squares        the one list of a set of squares within the codes is the pairs of the set
-- Assumes nothing.
use mathlib.Core.Path.{◌≡◌, refl, sym, ◌∙◌, ap, ap₂, subst, fun_ext}
use mathlib.Core.Bool.{Bool, true, false}
use mathlib.Core.List.{List, [], ◌∷◌}
use Prim.Native.Nat.{ℕ, ◌*◌, ◌≤◌}
use native.Mathlib.Omega.{arith}
use borrow.Author.Tests.{leb-true}
use lib.Dec.{leb}
use lib.IntN.{ℤ}
use lib.ListN.{length, take, drop}
use lib.Seq.{take_at, drop-append_seam}
use Rattle.meaning.specs.Numbers.{Square, Pair}
use Rattle.meaning.specs.declared.Cell.{Cell}
use Rattle.meaning.specs.declared.Corner.{Corner}
use Rattle.meaning.specs.Lists.{vertices, numbers, listed, most_vertices}
use Rattle.meaning.specs.OneList.{one_list, one_pairs, WithinCodes, SquaresWithin}
use Rattle.meaning.specs.Made.{MapOf, pairs, permitted_square, pair_at_or_below, RisingPairs, PairsOf}
use Rattle.meaning.specs.Operations.{pair_numbers}
use Rattle.meaning.specs.Outcomes.{outcome, nothing, done, per_vertex, per_pair, fits, front, placed}
use Rattle.meaning.proofs.Parity.{odd_count}
use Rattle.meaning.proofs.Integers.{and_right}
use Rattle.meaning.proofs.Outcomes.{placed_fits, placed_short}
use Rattle.meaning.proofs.Maps.{lemma_3_8, one_permits, one_rising, one_valid}
use Rattle.meaning.proofs.Making.{is_one_pairs}
use Rattle.meaning.proofs.Space as Space
use Rattle.meaning.proofs.Space.{Up, permits, all_map}
use Rattle.meaning.proofs.Solid.{plane, listed_pair_diff, one_pairs_one_of}

pub length_numbers : (l : List Corner) → length (numbers l) ≡ per_vertex * length l
length_numbers [] = refl
length_numbers (v ∷ l) = omega (arith, length_numbers l)

pub length_pairs : (ps : List Pair) → length (pair_numbers ps) ≡ per_pair * length ps
length_pairs [] = refl
length_pairs (p ∷ ps) = omega (arith, length_pairs ps)

-- ---- lists that stand in results

pub record Stands {A : Type 0} (each : ℕ) (spell : List A → List ℤ) (l : List A) (before : List ℤ) (n : ℕ) (after : List ℤ) : Type 0 where
  pub fit : fits each l (length before) ≡ true
  pub many : n ≡ length l
  pub contents : after ≡ front (spell l) before

pub placed_stands : {A : Type 0} (each : ℕ) (spell : List A → List ℤ) (l : List A) (before : List ℤ) (n : ℕ) (after : List ℤ)
    → outcome (done n) nothing after ≡ placed each spell l before → Stands each spell l before n after
placed_stands each spell l before n after e = go (fits each l (length before)) refl
  where
    go : (t : Bool) → fits each l (length before) ≡ t → Stands each spell l before n after
    go true f =
        let g = e ∙ placed_fits each spell l before f in
        record { fit = f; many = ap (λ o. o.values.count) g; contents = ap (λ o. o.left) g }
    go false f = absurd (omega (arith, ap (λ o. o.values.number) (e ∙ placed_short each spell l before f)))

pub stands_behind : {A : Type 0} (each : ℕ) (spell : List A → List ℤ) → ((l : List A) → length (spell l) ≡ each * length l)
    → (l : List A) (before : List ℤ) (n : ℕ) (after : List ℤ) → Stands each spell l before n after → drop (each * n) after ≡ drop (each * n) before
stands_behind each spell long l before n after s =
    let many : each * n ≡ length (spell l) = ap (λ k. each * k) s.many ∙ sym (long l) in
    ap₂ drop many s.contents ∙ drop-append_seam (spell l) (drop (length (spell l)) before) ∙ sym (ap (λ k. drop k before) many)

-- what is read from the front of a result is what stands there
pub read_front : {A : Type 0} (each : ℕ) (spell : List A → List ℤ) (read : List ℤ → List A) → ((l : List A) → length (spell l) ≡ each * length l)
    → ((l : List A) → read (spell l) ≡ l) → (l : List A) (before : List ℤ) (n : ℕ) (after : List ℤ) → Stands each spell l before n after
    → read (take (each * n) after) ≡ l
read_front each spell read long back l before n after s =
    ap₂ (λ m ns. read (take (each * m) ns)) s.many s.contents ∙
    ap read (take_at (spell l) (drop (length (spell l)) before) (each * length l) (long l)) ∙
    back l

pub vertices_back : (l : List Corner) → vertices (numbers l) ≡ l
vertices_back [] = refl
vertices_back (v ∷ l) = ap (v ∷◌) (vertices_back l)

pub pairs_back : (l : List Pair) → pairs (pair_numbers l) ≡ l
pairs_back [] = refl
pairs_back (p ∷ l) = ap (p ∷◌) (pairs_back l)

-- ---- the map of a set of cells

pub one_map : (S : Cell → Bool) → WithinCodes S → length (one_list S) ≤ most_vertices → MapOf S (one_list S)
one_map S h few =
    record {
      valid = one_valid S h few;
      permits = one_permits S h;
      lists = λ v.
          let r = lemma_3_8 (one_list S) (one_rising S) v in
          let same = ap (λ R. listed R v) (fun_ext (one_permits S h)) in
          (λ m. sym same ∙ r.1 m, λ e. r.0 (same ∙ e));
    }

-- where the one list of a set stands at the front of a result
module _ (S : Cell → Bool) (h : WithinCodes S) (before : List ℤ) (n : ℕ) (after : List ℤ) (s : Stands per_vertex numbers (one_list S) before n after) where
  pub front_vertices : vertices (take (per_vertex * n) after) ≡ one_list S
  front_vertices = read_front per_vertex numbers vertices length_numbers vertices_back (one_list S) before n after s

  pub front_map : MapOf S (vertices (take (per_vertex * n) after))
  front_map =
      let few = leb-true (length (one_list S)) most_vertices (and_right (leb (per_vertex * length (one_list S)) (length before)) _ s.fit) in
      subst (MapOf S) (sym front_vertices) (one_map S h few)

  pub front_count : length (vertices (take (per_vertex * n) after)) ≡ n
  front_count = ap length front_vertices ∙ sym s.many

-- ---- the pairs of a set of squares

permits_squares : (l : List Pair) (s : Square) → permitted_square l s ≡ permits plane l s
permits_squares l s = odd_count (pair_at_or_below s) l

rising_up : (l : List Pair) → RisingPairs l → Up plane.order l
rising_up [] h = tt
rising_up (p ∷ []) h = (tt, tt)
rising_up (p ∷ q ∷ l) h =
    let r = rising_up (q ∷ l) h.1 in
    ((h.0, all_map l (λ u e. plane.order.lt_trans p q u h.0 e) r.0), r)

up_rising : (l : List Pair) → Up plane.order l → RisingPairs l
up_rising [] h = tt
up_rising (p ∷ []) h = tt
up_rising (p ∷ q ∷ l) h = (h.0.0, up_rising (q ∷ l) h.1)

module _ (S : Square → Bool) (h : SquaresWithin S) where
  one_up : Up plane.order (one_pairs S)
  one_up = subst (Up plane.order) (sym (one_pairs_one_of S)) (Space.one_up plane S)

  permits_one : (s : Square) → permits plane (one_pairs S) s ≡ S s
  permits_one s = ap (λ l. permits plane l s) (one_pairs_one_of S) ∙ Space.one_permits plane S h s

  pub one_squares : PairsOf S (one_pairs S)
  one_squares =
      record {
        rising = up_rising (one_pairs S) one_up;
        permits = λ s. permits_squares (one_pairs S) s ∙ permits_one s;
        lists = λ p.
            let r = Space.listed_iff plane (one_pairs S) one_up p in
            let same = listed_pair_diff S p ∙ sym (Space.diff_ext plane (permits plane (one_pairs S)) S p permits_one) in
            (λ m. same ∙ r.1 m, λ e. r.0 (sym same ∙ e));
        only = λ m u e. is_one_pairs S h m (rising_up m u) (λ s. sym (permits_squares m s) ∙ e s);
      }
