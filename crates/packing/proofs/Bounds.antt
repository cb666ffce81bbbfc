-- What the functions come to fits its bits: the number, the operand, the place and the counts of every outcome.
--   place_few, values_place         the place of a verdict is that of a vertex of a list that is not too long; what the check carries has it
--   check_few, cell_few, corner_few, box_few, join_few, section_few, split_few, nearest_few, many_few    of each function
--   report_few                      the mask has eight bits, and how many and the kind are at most 8
-- Assumes nothing.
use mathlib.Core.Path.{◌≡◌, refl}
use mathlib.Core.Bool.{Bool, true, false, ◌&&◌, cond}
use mathlib.Core.List.{List, [], ◌∷◌}
use mathlib.Core.Option.{Option, none, some}
use Prim.Native.Nat.{ℕ, ◌*◌, ◌%◌, ◌^◌, ◌≤◌, ◌<◌}
use native.Mathlib.Omega.{arith}
use borrow.Author.Tests.{ltb-true, ltb-false, leb-true}
use lib.Dec.{ltb, leb, eqb}
use lib.IntN.{ℤ}
use lib.ListN.{length}
use Rattle.meaning.specs.Numbers.{is_code, is_number}
use Rattle.meaning.specs.declared.Cell.{Cell}
use Rattle.meaning.specs.declared.Corner.{Corner}
use Rattle.meaning.specs.Counting.{count, first}
use Rattle.meaning.specs.Lists.{vertices, numbers, permitted, cell_by, surrounding, weigh, mask, how_many, most_vertices}
use Rattle.meaning.specs.Kinds.{kind, kind_by, half_edges, is_manifold, is_non_manifold}
use Rattle.meaning.specs.Verdicts.{outside_at, falls_at, on_odd_line_at, unless_at, verdict_of, Verdict, Valid, verdict, passes, place_of, refusal_number, refusal_place}
use Rattle.meaning.specs.Operations.{operation, joined_list, axis_of, pair_numbers}
use Rattle.meaning.specs.Outcomes.{Outcome, outcome, nothing, done, refused, refusal, verdict_values, bad_number, bad_operation, no_room, no_room_for, empty_map, kept, named, checked, per_vertex, per_pair, fits, placed}
use Rattle.meaning.specs.Nearest.{nearest_of, nearest_outcome, nowhere}
use Rattle.std.specs.Prelude.{Ok, Err}
use Rattle.meaning.specs.declared.Refusal.{Refusal}
use Rattle.meaning.specs.declared.Refusal.TheVariants.{NotTriples, TooMany, OutOfRange, NotRising, OddLine}
use Rattle.meaning.proofs.Integers.{and_right}
use Rattle.lists.specs.Check.{check_outcome}
use Rattle.boxes.specs.Box.{good_ends, box_vertices, box_outcome}
use Rattle.asks.specs.Asks.{report_on, cell_outcome, corner_outcome}
use Rattle.asks.proofs.Planes.{count_le}
use Rattle.joins.specs.Join.{joined_by, join_outcome}
use Rattle.cuts.specs.Answers.{halves, section_pairs, section_outcome, lower_list, upper_list, placed_halves, split_outcome}
use Rattle.wishes.specs.Many.{many_of, many_outcome}
use Rattle.packing.specs.Packed.{Few}

-- ---- the verdict

unless_few : (p : ℕ → Bool) (n : ℕ) (refusing : ℕ → Refusal) (next : Verdict) → ((i : ℕ) → place_of (refusing i) ≡ i)
    → refusal_place next ≤ n → refusal_place (unless_at p n refusing next) ≤ n
unless_few p n refusing next at h = go (ltb (first p n) n) refl
  where
    go : (t : Bool) → ltb (first p n) n ≡ t → refusal_place (cond t (Err (refusing (first p n))) next) ≤ n
    go true e = omega (arith, at (first p n), ltb-true (first p n) n e)
    go false e = h

pub place_few : (ns : List ℤ) → refusal_place (verdict ns) ≤ most_vertices
unfolding verdict
place_few ns = triples (eqb (length ns % 3) 0)
  where
    n : ℕ
    n = length (vertices ns)

    few : (t : Bool) → ltb most_vertices n ≡ t → refusal_place (cond t (Err TooMany) (verdict_of (vertices ns))) ≤ most_vertices
    few true e = omega arith
    few false e =
        let l = vertices ns in
        let r : refusal_place (verdict_of l) ≤ length l =
        unless_few (outside_at l) (length l) OutOfRange _ (λ i. refl)
        (unless_few (falls_at l) (length l) NotRising _ (λ i. refl) (unless_few (on_odd_line_at l) (length l) OddLine Valid (λ i. refl) (omega arith))) in
        omega (arith, r, ltb-false most_vertices n e)

    triples : (t : Bool) → refusal_place (cond t (cond (ltb most_vertices n) (Err TooMany) (verdict_of (vertices ns))) (Err NotTriples)) ≤ most_vertices
    triples true = few (ltb most_vertices n) refl
    triples false = omega arith

pub values_place : (v : Verdict) → (verdict_values v).place ≡ refusal_place v
values_place (Ok u) = refl
values_place (Err NotTriples) = refl
values_place (Err TooMany) = refl
values_place (Err (OutOfRange i)) = refl
values_place (Err (NotRising i)) = refl
values_place (Err (OddLine i)) = refl

number_few : (v : Verdict) → refusal_number v < 2 ^ 8
number_few (Ok u) = omega arith
number_few (Err NotTriples) = omega arith
number_few (Err TooMany) = omega arith
number_few (Err (OutOfRange i)) = omega arith
number_few (Err (NotRising i)) = omega arith
number_few (Err (OddLine i)) = omega arith

-- ---- the order of refusals

-- an answer that names no vertex, with counts that are few
plain_few : (number operand count second : ℕ) → number < 2 ^ 8 → operand < 2 ^ 8 → count ≤ most_vertices → second ≤ most_vertices
    → Few (record { number = number; operand = operand; place = 0; count = count; second = second })
plain_few number operand count second h k c s = record { number = h; operand = k; place = omega arith; count = c; second = s }

none_few : (number operand : ℕ) → number < 2 ^ 8 → operand < 2 ^ 8 → Few (refusal number operand 0)
none_few number operand h k = plain_few number operand 0 0 h k (omega arith) (omega arith)

pub refused_few : (operand : ℕ) (ns : List ℤ) → operand < 2 ^ 8 → Few (refused operand (verdict ns))
refused_few operand ns h =
    record { number = number_few (verdict ns); operand = h; place = place_few ns; count = omega arith; second = omega arith }

-- what holds of both cases holds
either : {A : Type 0} (P : A → Type 0) (t : Bool) (x y : A) → (t ≡ true → P x) → P y → P (cond t x y)
either P true x y h k = h refl
either P false x y h k = k

module _ {Given Left : Type 0} where
  abbrev FewIn : Outcome Given Left → Type 0
  FewIn o = Few o.values

  checked_few : (operand : ℕ) (ns : List ℤ) (given : Given) (left : Left) (next : Outcome Given Left) → operand < 2 ^ 8 → FewIn next
      → FewIn (checked operand (verdict ns) (kept given left) next)
  checked_few operand ns given left next h k =
      either FewIn (passes (verdict ns)) next (kept given left (refused operand (verdict ns))) (λ e. k) (refused_few operand ns h)

  named_few : {X : Type 0} (o : Option X) (bad : Outcome Given Left) (next : X → Outcome Given Left) → FewIn bad → ((x : X) → FewIn (next x))
      → FewIn (named o bad next)
  named_few none bad next h k = h
  named_few (some x) bad next h k = k x

fits_few : {A : Type 0} (each : ℕ) (l : List A) (room : ℕ) → fits each l room ≡ true → length l ≤ most_vertices
fits_few each l room e = leb-true (length l) most_vertices (and_right (leb (each * length l) room) (leb (length l) most_vertices) e)

placed_few : {A : Type 0} (each : ℕ) (numbers_of : List A → List ℤ) (l : List A) (before : List ℤ) → Few (placed each numbers_of l before).values
placed_few each numbers_of l before =
    either FewIn (fits each l (length before)) _ (kept nothing before no_room)
    (λ e. plain_few 0 0 (length l) 0 (omega arith) (omega arith) (fits_few each l (length before) e) (omega arith))
    (none_few 6 0 (omega arith) (omega arith))

-- ---- of each function

done_few : Few (done 0)
done_few = none_few 0 0 (omega arith) (omega arith)

pub empty_few : Few empty_map
empty_few = none_few 7 0 (omega arith) (omega arith)

bad_few : Few bad_number
bad_few = none_few 9 0 (omega arith) (omega arith)

module _ (ns : List ℤ) where
  pub check_few : Few (check_outcome ns).values
  check_few = checked_few 1 ns nothing nothing (outcome (done 0) nothing nothing) (omega arith) done_few

  pub cell_few : (c : Cell) → Few (cell_outcome ns c).values
  cell_few c = checked_few 1 ns false nothing (outcome (done 0) (permitted (vertices ns) c) nothing) (omega arith) done_few

  pub corner_few : (v : Corner) → Few (corner_outcome ns v).values
  corner_few v = checked_few 1 ns _ nothing (outcome (done 0) (report_on (permitted (vertices ns)) v) nothing) (omega arith) done_few

  pub section_few : (n : ℕ) (k : ℤ) (before : List ℤ) → Few (section_outcome ns n k before).values
  section_few n k before =
      named_few (axis_of n) (kept nothing before bad_number) _ bad_few
      (λ axis. either FewIn (is_code k) _ (kept nothing before bad_number)
      (λ e. checked_few 1 ns nothing before _ (omega arith) (placed_few per_pair pair_numbers (section_pairs axis k ns) before)) bad_few)

  halves_few : (l u : List Corner) (low high : List ℤ) → Few (placed_halves l u low high).values
  halves_few l u low high =
      either FewIn (fits per_vertex l (length low)) _ (kept nothing (halves low high) (no_room_for 1))
      (λ e. either FewIn (fits per_vertex u (length high)) _ (kept nothing (halves low high) (no_room_for 2))
      (λ f. plain_few 0 0 (length l) (length u) (omega arith) (omega arith) (fits_few per_vertex l (length low) e) (fits_few per_vertex u (length high) f))
      (none_few 6 2 (omega arith) (omega arith)))
      (none_few 6 1 (omega arith) (omega arith))

  pub split_few : (n : ℕ) (p : ℤ) (low high : List ℤ) → Few (split_outcome ns n p low high).values
  split_few n p low high =
      named_few (axis_of n) (kept nothing (halves low high) bad_number) _ bad_few
      (λ axis. either FewIn (is_number p) _ (kept nothing (halves low high) bad_number)
      (λ e. checked_few 1 ns nothing (halves low high) _ (omega arith) (halves_few (lower_list axis p ns) (upper_list axis p ns) low high)) bad_few)

  pub nearest_few : (w c : Cell) → Few (nearest_outcome ns w c).values
  nearest_few w c = checked_few 1 ns nowhere nothing (nearest_of (vertices ns) w c) (omega arith) (by (vertices ns))
    where
      by : (l : List Corner) → Few (nearest_of l w c).values
      by [] = empty_few
      by (v ∷ l) = done_few

  pub many_few : (ws : List ℤ) (cs : List Cell) (before : List ℤ) → Few (many_outcome ns ws cs before).values
  many_few ws cs before =
      checked_few 1 ns nothing before _ (omega arith)
      (either FewIn (eqb (length ws % per_vertex) 0) (many_of (vertices ns) cs before) (kept nothing before (refused 2 (Err NotTriples))) (λ e. by (vertices ns))
      (none_few 1 2 (omega arith) (omega arith)))
    where
      by : (l : List Corner) → Few (many_of l cs before).values
      by [] = empty_few
      by (v ∷ l) =
          either FewIn (leb (per_vertex * length cs) (length before)) _ (kept nothing before no_room) (λ e. done_few) (none_few 6 0 (omega arith) (omega arith))

pub box_few : (ends : List (List ℤ)) (before : List ℤ) → Few (box_outcome ends before).values
box_few ends before =
    either FewIn (good_ends ends) _ (kept nothing before bad_number) (λ e. placed_few per_vertex numbers (box_vertices ends) before) bad_few

pub join_few : (op : ℕ) (a b before : List ℤ) → Few (join_outcome op a b before).values
join_few op a b before =
    named_few (operation op) (kept nothing before bad_operation) (joined_by a b before) (none_few 8 0 (omega arith) (omega arith))
    (λ o. checked_few 1 a nothing before _ (omega arith)
    (checked_few 2 b nothing before _ (omega arith) (placed_few per_vertex numbers (joined_list o a b) before)))

-- ---- the corner report

eight_bits : (a b c d e f g h : Bool) → weigh (a ∷ b ∷ c ∷ d ∷ e ∷ f ∷ g ∷ h ∷ []) < 2 ^ 8
eight_bits a b c d e f g h = omega (arith, one a, one b, one c, one d, one e, one f, one g, one h)
  where
    one : (b : Bool) → cond b 1 0 ≤ 1
    one true = omega arith
    one false = omega arith

kind_few : (two non : ℕ) → kind_by two non < 2 ^ 8
kind_few two non =
    let small : ℕ → Type 0 = λ n. n < 2 ^ 8 in
    either small (eqb two 3 && eqb non 0) 1 _ (λ e. omega arith)
    (either small (eqb two 4 && eqb non 0) 2 _ (λ e. omega arith)
    (either small (eqb two 3 && eqb non 1) 3 _ (λ e. omega arith)
    (either small (eqb two 2 && eqb non 2) 4 _ (λ e. omega arith)
    (either small (eqb two 4 && eqb non 1) 5 _ (λ e. omega arith)
    (either small (eqb two 6 && eqb non 0) 6 _ (λ e. omega arith)
    (either small (eqb two 3 && eqb non 3) 7 _ (λ e. omega arith)
    (either small (eqb two 0 && eqb non 6) 8 0 (λ e. omega arith) (omega arith))))))))

pub report_few : (S : Cell → Bool) (v : Corner) → (mask S v < 2 ^ 8) × (how_many S v < 2 ^ 8) × (kind (mask S v) < 2 ^ 8)
unfolding kind
report_few S v = (
  eight_bits (S (cell_by v false false false)) (S (cell_by v false false true)) (S (cell_by v false true false)) (S (cell_by v false true true))
      (S (cell_by v true false false)) (S (cell_by v true false true)) (S (cell_by v true true false)) (S (cell_by v true true true)),
  omega (arith, count_le S (surrounding v)),
  kind_few (count is_manifold (half_edges (mask S v))) (count is_non_manifold (half_edges (mask S v))),
)
