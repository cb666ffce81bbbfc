-- Laws that docs/PORT.md names and that no proof cites.
--   fits_room                               a list that fits has room
--   pairs_no_room, pairs_done               pairs in a result, where they do not fit and where they do
--   low_no_room, high_no_room, halves_done  two lists that are given by keys in two results, by which of them fit
--   few_vertices_lem                        a valid list has at most 1,024 vertices
use mathlib.Core.Path.{◌≡◌, sym, ◌∙◌, ap, ap₂}
use mathlib.Core.Bool.{Bool, true, false, ◌&&◌}
use mathlib.Core.List.{List, ◌++◌, map}
use Prim.Native.Nat.{ℕ, ◌*◌, ◌≤◌}
use borrow.Author.Tests.{leb-true}
use lib.Dec.{leb}
use lib.IntN.{ℤ}
use lib.ListN.{length, drop, length-map}
use Rattle.std.specs.Prelude.{Ok, Err}
use Rattle.meaning.specs.declared.Corner.{Corner}
use Rattle.meaning.specs.Lists.{numbers, Valid, most_vertices}
use Rattle.meaning.specs.Operations.{pair_numbers}
use Rattle.meaning.specs.Outcomes.{per_vertex, per_pair, fits, front, placed}
use Rattle.meaning.proofs.Integers.{and_left}
use Rattle.meaning.proofs.Outcomes.{placed_fits, placed_short}
use Rattle.meaning.proofs.Made.{length_numbers, length_pairs}
use Rattle.codes.specs.Keys.{of_key}
use Rattle.keys.specs.Parts.{pair_of_key}
use Rattle.cuts.specs.declared.SectionError.TheVariants as section
use Rattle.cuts.specs.declared.SplitError.TheVariants as split
use Rattle.cuts.specs.Answers.{section_says, counts, split_says, placed_halves}
use Rattle.cuts.proofs.Cuts.{low_short, high_short, both_fit}

-- ---- lists in results

pub fits_room : {A : Type 0} (each : ℕ) (l : List A) (room : ℕ) → fits each l room ≡ true → each * length l ≤ room
fits_room each l room e = leb-true (each * length l) room (and_left (leb (each * length l) room) _ e)

-- a list that was made member by member from another has as many members
same_fits : {A : Type 0} (f : ℕ → A) (each : ℕ) (ks : List ℕ) (room : ℕ) {t : Bool} → fits each ks room ≡ t → fits each (map f ks) room ≡ t
same_fits f each ks room e = ap (λ n. leb (each * n) room && leb n most_vertices) (length-map ks f) ∙ e

-- a list in front, so many numbers a member, as it is written
module _ {A : Type 0} (each : ℕ) (spell : List A → List ℤ) (long : (l : List A) → length (spell l) ≡ each * length l) (of : ℕ → A) where
  written_front : (ks : List ℕ) (before after : List ℤ) → after ≡ spell (map of ks) ++ drop (each * length ks) before
      → after ≡ front (spell (map of ks)) before
  written_front ks before after e =
      e ∙ sym (ap (λ n. spell (map of ks) ++ drop n before) (long (map of ks) ∙ ap (λ n. each * n) (length-map ks of)))

-- ---- pairs

module _ (ks : List ℕ) (before : List ℤ) where
  pub pairs_no_room : fits per_pair ks (length before) ≡ false
      → section_says (Err section.NoRoom) before ≡ placed per_pair pair_numbers (map pair_of_key ks) before
  pairs_no_room e = sym (placed_short per_pair pair_numbers (map pair_of_key ks) before (same_fits pair_of_key per_pair ks (length before) e))

  pub pairs_done : (after : List ℤ) → fits per_pair ks (length before) ≡ true
      → after ≡ pair_numbers (map pair_of_key ks) ++ drop (per_pair * length ks) before
      → section_says (Ok (length ks)) after ≡ placed per_pair pair_numbers (map pair_of_key ks) before
  pairs_done after e f =
      ap₂ (λ n ns. section_says (Ok n) ns)
      (sym (length-map ks pair_of_key)) (written_front per_pair pair_numbers length_pairs pair_of_key ks before after f) ∙
      sym (placed_fits per_pair pair_numbers (map pair_of_key ks) before (same_fits pair_of_key per_pair ks (length before) e))

-- ---- halves

module _ (ls us : List ℕ) (low high : List ℤ) where
  pub low_no_room : fits per_vertex ls (length low) ≡ false
      → split_says (Err split.LowNoRoom) low high ≡ placed_halves (map of_key ls) (map of_key us) low high
  low_no_room e = sym (low_short (map of_key ls) (map of_key us) low high (same_fits of_key per_vertex ls (length low) e))

  module _ (e : fits per_vertex ls (length low) ≡ true) where
    pub high_no_room : fits per_vertex us (length high) ≡ false
        → split_says (Err split.HighNoRoom) low high ≡ placed_halves (map of_key ls) (map of_key us) low high
    high_no_room f =
        sym
        (high_short (map of_key ls) (map of_key us) low high
        (same_fits of_key per_vertex ls (length low) e) (same_fits of_key per_vertex us (length high) f))

    pub halves_done : (low' high' : List ℤ) → fits per_vertex us (length high) ≡ true
        → low' ≡ numbers (map of_key ls) ++ drop (per_vertex * length ls) low
        → high' ≡ numbers (map of_key us) ++ drop (per_vertex * length us) high
        → split_says (Ok (counts (length ls) (length us))) low' high' ≡ placed_halves (map of_key ls) (map of_key us) low high
    halves_done low' high' f g h =
        ap₂ (λ m ns. split_says (Ok (counts m (length us))) ns high')
        (sym (length-map ls of_key)) (written_front per_vertex numbers length_numbers of_key ls low low' g) ∙
        ap₂ (λ n ns. split_says (Ok (counts (length (map of_key ls)) n)) (front (numbers (map of_key ls)) low) ns)
        (sym (length-map us of_key)) (written_front per_vertex numbers length_numbers of_key us high high' h) ∙
        sym
        (both_fit (map of_key ls) (map of_key us) low high
        (same_fits of_key per_vertex ls (length low) e) (same_fits of_key per_vertex us (length high) f))

-- ---- room

pub few_vertices_lem : (l : List Corner) → Valid l → length l ≤ 1024
unfolding most_vertices
few_vertices_lem l h = h.few
