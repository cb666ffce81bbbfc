-- Every exported answer can be read back, as include/travelmap.h reads it: from the promise of each function to every field of what it comes to.
--   check_read, box_read, join_read, section_read, split_read, many_read    number, operand, place and counts
--   cell_read, corner_read                                       number, operand, place; yes; mask, how many, kind
--   plane_read                                                   start and length
--   nearest_read, distance_read                                  number, operand, place; the three codes; the distance
-- No premise says what fits: that is shown. A wish is three numbers of 16 bits.
-- Assumes nothing.
use mathlib.Core.Path.{◌≡◌, refl, ◌∙◌, ap, subst}
use mathlib.Core.Bool.{Bool, true, false, cond, true≢false}
use mathlib.Core.List.{List, [], ◌∷◌}
use Prim.Native.Nat.{ℕ, ◌+◌, ◌-◌, ◌^◌, ◌<◌}
use native.Mathlib.Omega.{arith}
use borrow.Author.Tests.{eq-eqb, ne_eqb}
use lib.Dec.{eqb}
use lib.IntN.{ℤ}
use mir.Syntax.{w16}
use mir.Val.{SFits}
use Rattle.meaning.specs.Numbers.{cell, is_code}
use Rattle.meaning.specs.declared.Cell.{Cell}
use Rattle.meaning.specs.declared.Corner.{Corner}
use Rattle.meaning.specs.Lists.{vertices, permitted, Rising}
use Rattle.meaning.specs.Kinds.{bit}
use Rattle.meaning.specs.Verdicts.{Verdict, verdict, passes, refusal_number}
use Rattle.meaning.specs.Outcomes.{Values, Outcome, outcome, Nothing, nothing, done, refused, empty_map, kept}
use Rattle.meaning.specs.Nearest.{gap, weight, distance, reached, nowhere, nearest_of, IsNearest, nearest_outcome}
use Rattle.meaning.specs.declared.Reached.{Reached}
use Rattle.std.specs.Prelude.{Ok, Err}
use Rattle.meaning.specs.declared.Refusal.TheVariants.{NotTriples, TooMany, OutOfRange, NotRising, OddLine}
use Rattle.meaning.proofs.Integers.{and_left, and_right}
use Rattle.meaning.proofs.Checked.{passes_valid}
use Rattle.meaning.proofs.Maps.{valid_within, some_permitted}
use Rattle.words.specs.Words.{signed}
use Rattle.codes.proofs.Laws.{above, lifted_fits, code_fits}
use Rattle.nearest.proofs.Distances.{gap_lifted}
use Rattle.lists.specs.Check.{check_outcome}
use Rattle.boxes.specs.Box.{box_outcome}
use Rattle.asks.specs.Asks.{report, report_on, cell_outcome, corner_outcome, plane_ends}
use Rattle.joins.specs.Join.{join_outcome}
use Rattle.cuts.specs.Answers.{section_outcome, split_outcome}
use Rattle.wishes.specs.Many.{many_outcome}
use Rattle.packing.specs.Packed.{packed_values, packed_report, packed_codes, packed_nearest, Few, bits, number_in, Reads, ReadsCounts, place_in, cell_in}
use Rattle.packing.proofs.Bounds.{refused_few, empty_few, check_few, cell_few, corner_few, report_few, box_few, join_few, section_few, split_few, nearest_few, many_few}
use Rattle.packing.proofs.Back.{Fits, reads_beside, reads_values, reads_part, codes_number, codes_operand, codes_cell}
use Rattle.travelmap.specs.Exports.{CheckPacked, CellPacked, CornerPacked, PlanePacked, BoxPacked, JoinPacked, SectionPacked, SplitPacked, NearestPacked, DistancePacked, ManyPacked}
use Rattle.travelmap.proofs.Passing.{ends_of}

-- number, operand, place and the two counts
abbrev ReadsAll : ℕ → Values → Type 0
ReadsAll r v = Reads r v × ReadsCounts r v

pub check_read : (ns : List ℤ) (r : ℕ) → CheckPacked ns r → ReadsAll r (check_outcome ns).values
check_read ns r h = reads_values _ (check_few ns) r h

pub box_read : (ends : List (List ℤ)) (before : List ℤ) (r : ℕ) (after : List ℤ) → BoxPacked ends before r after → ReadsAll r (box_outcome ends before).values
box_read ends before r after h = reads_values _ (box_few ends before) r h.answer

pub join_read : (op : ℕ) (a b before : List ℤ) (r : ℕ) (after : List ℤ) → JoinPacked op a b before r after → ReadsAll r (join_outcome op a b before).values
join_read op a b before r after h = reads_values _ (join_few op a b before) r h.answer

pub many_read : (ns ws before : List ℤ) (r : ℕ) (after : List ℤ) (h : ManyPacked ns ws before r after)
    → ReadsAll r (many_outcome ns ws h.cells before).values
many_read ns ws before r after h = reads_values _ (many_few ns ws h.cells before) r h.answer

module _ (ns : List ℤ) (n : ℕ) where
  pub section_read : (k : ℤ) (before : List ℤ) (r : ℕ) (after : List ℤ) → SectionPacked ns n k before r after
      → ReadsAll r (section_outcome ns n k before).values
  section_read k before r after h = reads_values _ (section_few ns n k before) r h.answer

  pub split_read : (p : ℤ) (low high : List ℤ) (r : ℕ) (low' high' : List ℤ) → SplitPacked ns n p low high r low' high'
      → ReadsAll r (split_outcome ns n p low high).values
  split_read p low high r low' high' h = reads_values _ (split_few ns n p low high) r h.answer

-- ---- beside the values: no list is made, so that the counts are 0

-- what stands in the lower half of an answer that counts nothing
module _ (v : Values) (f : Few v) (none : (v.count ≡ 0) × (v.second ≡ 0)) (low r : ℕ) (h : low < 2 ^ 32) (e : r ≡ packed_values v + low) where
  beside : Reads r v
  beside = reads_beside v f low r h (omega (arith, none))

  low_half : bits 32 0 r ≡ low
  low_half = omega (arith, none)

-- of the two cases of an outcome: what the list's refusal gives, and what is given otherwise
by_passes : {A : Type 0} (P : A → Type 0) (t : Bool) (x y : A) → P x → P y → P (cond t x y)
by_passes P true x y h k = h
by_passes P false x y h k = k

module _ {Given : Type 0} (ns : List ℤ) (nothing_given given : Given) where
  -- what a question about one map comes to
  abbrev asking : Outcome Given Nothing
  asking = cond (passes (verdict ns)) (outcome (done 0) given nothing) (kept nothing_given nothing (refused 1 (verdict ns)))

  none_made : (asking.values.count ≡ 0) × (asking.values.second ≡ 0)
  none_made = by_passes (λ (o : Outcome Given Nothing). (o.values.count ≡ 0) × (o.values.second ≡ 0)) (passes (verdict ns)) _ _ (refl, refl) (refl, refl)

  given_by : (P : Given → Type 0) → P nothing_given → P given → P asking.given
  given_by P h k = by_passes (λ (o : Outcome Given Nothing). P o.given) (passes (verdict ns)) _ _ k h

bit_few : (b : Bool) → bit b < 2
bit_few true = omega arith
bit_few false = omega arith

module _ (ns : List ℤ) where
  pub cell_read : (c : Cell) (r : ℕ) → CellPacked ns c r → Reads r (cell_outcome ns c).values × (bits 1 0 r ≡ bit (cell_outcome ns c).given)
  cell_read c r h =
      let o = cell_outcome ns c in
      let b = bit_few o.given in
      let none = none_made ns false (permitted (vertices ns) c) in (
        beside o.values (cell_few ns c) none (bit o.given) r (omega arith) h,
        omega (arith, low_half o.values (cell_few ns c) none (bit o.given) r (omega arith) h),
      )

  pub corner_read : (v : Corner) (r : ℕ) → CornerPacked ns v r → let o = corner_outcome ns v in
      Reads r o.values × (bits 8 0 r ≡ o.given.mask) × (bits 8 8 r ≡ o.given.how_many) × (bits 8 16 r ≡ o.given.kind)
  corner_read v r h =
      let o = corner_outcome ns v in
      let g = o.given in
      let S = permitted (vertices ns) in
      let none = none_made ns (report 0 0 0) (report_on S v) in
      let few : (g.mask < 2 ^ 8) × (g.how_many < 2 ^ 8) × (g.kind < 2 ^ 8) =
      given_by ns (report 0 0 0) (report_on S v) (λ p. (p.mask < 2 ^ 8) × (p.how_many < 2 ^ 8) × (p.kind < 2 ^ 8)) (omega arith, omega arith, omega arith) (report_few S v) in
      let small : packed_report g < 2 ^ 32 = omega (arith, few) in
      let low = low_half o.values (corner_few ns v) none (packed_report g) r small h in
      (beside o.values (corner_few ns v) none (packed_report g) r small h, omega (arith, few, low), omega (arith, few, low), omega (arith, few, low))

  pub plane_read : (x : ℤ) (r : ℕ) → PlanePacked ns x r → let e = plane_ends ns x in
      (bits 32 32 r ≡ cond (eqb e.start e.end) 0 e.start) × (bits 32 0 r ≡ e.end - e.start)
  plane_read x r h = let (p, q) = ends_of ns x in reads_part (plane_ends ns x) r p q h

-- ---- nearest

-- a permitted cell of a map has codes of 16 bits
cell_fits : (ns : List ℤ) → passes (verdict ns) ≡ true → (c : Cell) → permitted (vertices ns) c ≡ true → Fits c
cell_fits ns p c m =
    let is = valid_within (vertices ns) (passes_valid ns p) c m in
    let rest = and_right (is_code c.focus) _ is in
    record {
      focus = code_fits c.focus (and_left (is_code c.focus) _ is);
      first = code_fits c.first (and_left (is_code c.first) _ rest);
      second = code_fits c.second (and_right (is_code c.first) _ rest);
    }

gap_few : (y z : ℤ) → SFits w16 y → SFits w16 z → gap y z < 65536
gap_few y z f g = omega (arith, gap_lifted y z (above y f) (above z g), lifted_fits y f, lifted_fits z g)

distance_few : (w c : Cell) → Fits w → Fits c → distance w c < 2 ^ 32
unfolding distance weight
distance_few w c f g =
    omega (
      arith,
      gap_few w.focus c.focus f.focus g.focus,
      gap_few w.first c.first f.first g.first,
      gap_few w.second c.second f.second g.second,
    )

-- what is read from an answer of nearest
pub record ReadsNearest (r : ℕ) (v : Values) (c : Cell) : Type 0 where
  pub number : number_in r ≡ v.number
  pub operand : bits 8 48 r ≡ v.operand
  pub place : place_in r ≡ v.place
  pub cell : cell_in r ≡ c

module _ (ns : List ℤ) (w c : Cell) (near : IsNearest ns w c) where
  -- what holds of each case of what nearest comes to
  nearest_cases : (P : Outcome Reached Nothing → Type 0) → (passes (verdict ns) ≡ false → P (kept nowhere nothing (refused 1 (verdict ns))))
      → P (kept nowhere nothing empty_map) → (Fits c → P (outcome (done 0) (reached c (distance w c)) nothing)) → P (nearest_outcome ns w c)
  nearest_cases P bad empty found = by (passes (verdict ns)) refl (vertices ns) refl
    where
      by : (t : Bool) → passes (verdict ns) ≡ t → (l : List Corner) → vertices ns ≡ l
          → P (cond t (nearest_of l w c) (kept nowhere nothing (refused 1 (verdict ns))))
      by false p l q = bad p
      by true p [] q = empty
      by true p (v ∷ l) q =
          let (d, m) = some_permitted v l (subst Rising q (passes_valid ns p).rising) in
          found (cell_fits ns p c (near p d (ap (λ k. permitted k d) q ∙ m)).member)

-- a list that does not pass has a number
refused_number : (v : Verdict) → passes v ≡ false → 0 < refusal_number v
refused_number (Ok u) e = absurd (true≢false e)
refused_number (Err NotTriples) e = omega arith
refused_number (Err TooMany) e = omega arith
refused_number (Err (OutOfRange i)) e = omega arith
refused_number (Err (NotRising i)) e = omega arith
refused_number (Err (OddLine i)) e = omega arith

refusal_read : (r : ℕ) (v : Values) → Few v → 0 < v.number → r ≡ packed_values v → ReadsNearest r v nowhere.at
refusal_read r v f some e =
    let (q, _) = reads_values v f r e in
    let Some-number = ne_eqb (number_in r) 0 (λ z. omega (arith, q.number, some)) in
    record {
      number = q.number;
      operand = q.operand;
      place = ap (λ t. cond t 0 (bits 16 32 r)) Some-number ∙ q.place;
      cell = ap (λ t. cond t (cell (signed (bits 16 32 r)) (signed (bits 16 16 r)) (signed (bits 16 0 r))) nowhere.at) Some-number;
    }

found_read : (r : ℕ) (c : Cell) → Fits c → r ≡ packed_codes c → ReadsNearest r (done 0) c
found_read r c f e =
    let z : number_in r ≡ 0 = ap number_in e ∙ codes_number c f in
    let none = eq-eqb (number_in r) 0 z in
    record {
      number = z;
      operand = ap (bits 8 48) e ∙ codes_operand c f;
      place = ap (λ t. cond t 0 (bits 16 32 r)) none;
      cell =
          ap (λ t. cond t (cell (signed (bits 16 32 r)) (signed (bits 16 16 r)) (signed (bits 16 0 r))) nowhere.at) none ∙
          ap (λ x. cell (signed (bits 16 32 x)) (signed (bits 16 16 x)) (signed (bits 16 0 x))) e ∙
          codes_cell c f;
    }

pub nearest_read : (ns : List ℤ) (w : Cell) (r : ℕ) (h : NearestPacked ns w r) → let o = nearest_outcome ns w h.at in
    ReadsNearest r o.values o.given.at
nearest_read ns w r h =
    nearest_cases ns w h.at h.nearest (λ (o : Outcome Reached Nothing). r ≡ packed_nearest o → ReadsNearest r o.values o.given.at)
    (λ p e. refusal_read r (refused 1 (verdict ns)) (refused_few 1 ns (omega arith)) (refused_number (verdict ns) p) (omega arith))
    (λ e. refusal_read r empty_map empty_few (omega arith) (omega arith))
    (λ f e. found_read r h.at f (omega arith))
    h.answer

pub distance_read : (ns : List ℤ) (w : Cell) (r : ℕ) → Fits w → (h : DistancePacked ns w r) → let o = nearest_outcome ns w h.at in
    Reads r o.values × (bits 32 0 r ≡ o.given.far)
distance_read ns w r wish h =
    let o = nearest_outcome ns w h.at in
    let few = nearest_few ns w h.at in
    let facts : (o.given.far < 2 ^ 32) × (o.values.count ≡ 0) × (o.values.second ≡ 0) =
    nearest_cases ns w h.at h.nearest (λ (o : Outcome Reached Nothing). (o.given.far < 2 ^ 32) × (o.values.count ≡ 0) × (o.values.second ≡ 0))
    (λ p. (omega arith, refl, refl)) (omega arith, refl, refl) (λ f. (distance_few w h.at wish f, refl, refl)) in (
      beside o.values few (facts.1, facts.2) o.given.far r facts.0 h.answer,
      low_half o.values few (facts.1, facts.2) o.given.far r facts.0 h.answer,
    )
