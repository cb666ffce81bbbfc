-- Section and split, cell by cell: what stands in results that a promise calls done.
--   halves_stand                             the lists of the two halves stand at the fronts of the results
--   section_asked, split_asked               what is done was asked of an axis, a number in range and a travel map
--   section_squares, section_count           of a section that is done with n pairs: the first 2n numbers, square by square; they are n pairs
--   section_behind, lower_behind, upper_behind    everything behind what was made is untouched
--   lower_cells, lower_count                 of a split that is done with m and n vertices: the first 3m numbers of one result, cell by cell
--   upper_cells, upper_count                 and the first 3n of the other
-- Assumes nothing.
use mathlib.Core.Path.{◌≡◌, refl, sym, ◌∙◌, ap, subst}
use mathlib.Core.Bool.{Bool, true, false}
use mathlib.Core.List.{List}
use mathlib.Core.Option.{some}
use Prim.Native.Nat.{ℕ, ◌*◌}
use native.Mathlib.Omega.{arith}
use lib.IntN.{ℤ}
use lib.ListN.{length, take, drop}
use Rattle.std.specs.Prelude.{Ok}
use Rattle.meaning.specs.Numbers.{Axis, Square, is_code, is_number}
use Rattle.meaning.specs.declared.Corner.{Corner}
use Rattle.meaning.specs.Lists.{vertices, numbers, permitted, Valid}
use Rattle.meaning.specs.Verdicts.{verdict, passes}
use Rattle.meaning.specs.OneList.{one_pairs, WithinCodes}
use Rattle.meaning.specs.Made.{MapOf, pairs, PairsOf}
use Rattle.meaning.specs.Operations.{axis_of, section_at, lower_half, upper_half, pair_numbers}
use Rattle.meaning.specs.Outcomes.{outcome, nothing, done_both, per_vertex, per_pair, fits, placed}
use Rattle.meaning.proofs.Made.{length_numbers, length_pairs, Stands, placed_stands, stands_behind, read_front, pairs_back, front_map, front_count, one_squares}
use Rattle.meaning.proofs.Checked.{passes_valid}
use Rattle.meaning.proofs.Maps.{valid_within}
use Rattle.meaning.proofs.Making.{section_within, lower_within, upper_within}
use Rattle.cuts.specs.Answers.{section_pairs, SectionPromise, halves, counts, lower_list, upper_list, placed_halves, SplitPromise}
use Rattle.cuts.proofs.Promises.{outcome_done}
use Rattle.cuts.proofs.Cuts.{low_short, high_short, both_fit}

opened : {a b : Axis} → some a ≡ some b → a ≡ b
opened e = cc

-- ---- lists that stand in results

halves_stand : (l u : List Corner) (low high : List ℤ) (m n : ℕ) (low' high' : List ℤ)
    → outcome (done_both m n) nothing (halves low' high') ≡ placed_halves l u low high
    → Stands per_vertex numbers l low m low' × Stands per_vertex numbers u high n high'
halves_stand l u low high m n low' high' e = go (fits per_vertex l (length low)) (fits per_vertex u (length high)) refl refl
  where
    go : (s t : Bool) → fits per_vertex l (length low) ≡ s → fits per_vertex u (length high) ≡ t
        → Stands per_vertex numbers l low m low' × Stands per_vertex numbers u high n high'
    go true true f h =
        let g = e ∙ both_fit l u low high f h in (
          record { fit = f; many = ap (λ o. o.values.count) g; contents = ap (λ o. o.left.low) g },
          record { fit = h; many = ap (λ o. o.values.second) g; contents = ap (λ o. o.left.high) g },
        )
    go true false f h = absurd (omega (arith, ap (λ o. o.values.number) (e ∙ high_short l u low high f h)))
    go false t f h = absurd (omega (arith, ap (λ o. o.values.number) (e ∙ low_short l u low high f)))

-- ---- a section that is done with n pairs, on the axis with this number

module _ (ns : List ℤ) (which : ℕ) (k : ℤ) (before : List ℤ) (n : ℕ) (after : List ℤ)
    (made : SectionPromise ns which k before (Ok n) after) where
  section_done : (axis : Axis) × (axis_of which ≡ some axis) × (is_code k ≡ true) × (passes (verdict ns) ≡ true) ×
      Stands per_pair pair_numbers (section_pairs axis k ns) before n after
  unfolding SectionPromise
  section_done =
      let (axis, is, code, passed, at) =
      outcome_done ns which (is_code k) before (λ axis. placed per_pair pair_numbers (section_pairs axis k ns) before)
      (ap (λ o. o.values.number) (sym made)) in
      (axis, is, code, passed, placed_stands per_pair pair_numbers (section_pairs axis k ns) before n after (made ∙ at))

  pub section_asked : (axis : Axis) × (axis_of which ≡ some axis) × (is_code k ≡ true) × Valid (vertices ns)
  section_asked = let (axis, is, code, passed, _) = section_done in (axis, is, code, passes_valid ns passed)

  module _ (axis : Axis) (is : axis_of which ≡ some axis) where
    abbrev squares : Square → Bool
    squares = section_at axis k (permitted (vertices ns))

    stands : Stands per_pair pair_numbers (one_pairs squares) before n after
    stands =
        let (a, found, _, _, s) = section_done in
        subst (λ x. Stands per_pair pair_numbers (section_pairs x k ns) before n after) (opened (sym found ∙ is)) s

    front_pairs : pairs (take (per_pair * n) after) ≡ one_pairs squares
    front_pairs = read_front per_pair pair_numbers pairs length_pairs pairs_back (one_pairs squares) before n after stands

    pub section_squares : PairsOf (section_at axis k (permitted (vertices ns))) (pairs (take (per_pair * n) after))
    section_squares =
        let (_, _, _, valid) = section_asked in
        subst (PairsOf squares) (sym front_pairs)
        (one_squares squares (section_within axis k (permitted (vertices ns)) (valid_within (vertices ns) valid)))

    pub section_count : length (pairs (take (per_pair * n) after)) ≡ n
    section_count = ap length front_pairs ∙ sym stands.many

    pub section_behind : drop (per_pair * n) after ≡ drop (per_pair * n) before
    section_behind = stands_behind per_pair pair_numbers length_pairs (one_pairs squares) before n after stands

-- ---- a split that is done with m and n vertices, on the axis with this number

module _ (ns : List ℤ) (which : ℕ) (p : ℤ) (low high : List ℤ) (m n : ℕ) (low' high' : List ℤ)
    (made : SplitPromise ns which p low high (Ok (counts m n)) low' high') where
  split_done : (axis : Axis) × (axis_of which ≡ some axis) × (is_number p ≡ true) × (passes (verdict ns) ≡ true) ×
      (Stands per_vertex numbers (lower_list axis p ns) low m low' × Stands per_vertex numbers (upper_list axis p ns) high n high')
  unfolding SplitPromise
  split_done =
      let (axis, is, good, passed, at) =
      outcome_done ns which (is_number p) (halves low high) (λ axis. placed_halves (lower_list axis p ns) (upper_list axis p ns) low high)
      (ap (λ o. o.values.number) (sym made)) in
      (axis, is, good, passed, halves_stand (lower_list axis p ns) (upper_list axis p ns) low high m n low' high' (made ∙ at))

  pub split_asked : (axis : Axis) × (axis_of which ≡ some axis) × (is_number p ≡ true) × Valid (vertices ns)
  split_asked = let (axis, is, good, passed, _) = split_done in (axis, is, good, passes_valid ns passed)

  within : WithinCodes (permitted (vertices ns))
  within = let (_, _, _, valid) = split_asked in valid_within (vertices ns) valid

  module _ (axis : Axis) (is : axis_of which ≡ some axis) where
    both_stand : Stands per_vertex numbers (lower_list axis p ns) low m low' × Stands per_vertex numbers (upper_list axis p ns) high n high'
    both_stand =
        let (a, found, _, _, s) = split_done in
        subst (λ x. Stands per_vertex numbers (lower_list x p ns) low m low' × Stands per_vertex numbers (upper_list x p ns) high n high')
        (opened (sym found ∙ is)) s

    pub lower_cells : MapOf (lower_half axis p (permitted (vertices ns))) (vertices (take (per_vertex * m) low'))
    lower_cells = front_map _ (lower_within axis p _ within) low m low' both_stand.0

    pub lower_count : length (vertices (take (per_vertex * m) low')) ≡ m
    lower_count = front_count _ (lower_within axis p _ within) low m low' both_stand.0

    pub lower_behind : drop (per_vertex * m) low' ≡ drop (per_vertex * m) low
    lower_behind = stands_behind per_vertex numbers length_numbers (lower_list axis p ns) low m low' both_stand.0

    pub upper_cells : MapOf (upper_half axis p (permitted (vertices ns))) (vertices (take (per_vertex * n) high'))
    upper_cells = front_map _ (upper_within axis p _ within) high n high' both_stand.1

    pub upper_count : length (vertices (take (per_vertex * n) high')) ≡ n
    upper_count = front_count _ (upper_within axis p _ within) high n high' both_stand.1

    pub upper_behind : drop (per_vertex * n) high' ≡ drop (per_vertex * n) high
    upper_behind = stands_behind per_vertex numbers length_numbers (upper_list axis p ns) high n high' both_stand.1
