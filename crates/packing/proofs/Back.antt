-- What is packed is read back, by the divisions and remainders that include/travelmap.h takes.
--   reads_beside     whatever stands in the lower half, the number, the operand and the place are read above it
--   reads_values     the values that every answer carries, counts and all
--   reads_part       the plane query
--   codes_cell       the three codes of a cell that is found
-- Assumes nothing.
use mathlib.Core.Path.{◌≡◌, refl, sym, ◌∙◌, ap}
use mathlib.Core.Bool.{Bool, true, false, cond}
use Prim.Native.Nat.{ℕ, ◌+◌, ◌*◌, ◌-◌, ◌^◌, ◌≤◌, ◌<◌}
use native.Mathlib.Omega.{arith}
use borrow.Author.Tests.{eqb-true}
use lib.Dec.{eqb}
use mir.Syntax.{w16}
use mir.Val.{SFits}
use Rattle.meaning.specs.Lists.{most_vertices}
use Rattle.meaning.specs.Numbers.{cell}
use Rattle.meaning.specs.declared.Cell.{Cell}
use Rattle.meaning.specs.Outcomes.{Values}
use Rattle.words.specs.Words.{word, signed}
use Rattle.words.proofs.Laws.{word_fits, signed_word}
use Rattle.asks.specs.declared.Ends.{Ends}
use Rattle.packing.specs.Packed.{packed_values, packed_part, packed_codes, Few, bits, number_in, Reads, ReadsCounts}

-- ---- numbers

module _ (n o p low : ℕ) (hn : n < 2 ^ 8) (ho : o < 2 ^ 8) (hp : p < 2 ^ 16) (hl : low < 2 ^ 32) where
  abbrev whole : ℕ
  whole = n * 2 ^ 56 + o * 2 ^ 48 + p * 2 ^ 32 + low

  number_of : bits 8 56 whole ≡ n
  number_of = omega arith

  operand_of : bits 8 48 whole ≡ o
  operand_of = omega arith

  place_of : bits 16 32 whole ≡ p
  place_of = omega arith

-- ---- what every answer carries

module _ (v : Values) (f : Few v) where
  place_fits : v.place < 2 ^ 16
  unfolding most_vertices
  place_fits = omega (arith, f.place)

  counts_fit : (v.count < 2 ^ 16) × (v.second < 2 ^ 16)
  unfolding most_vertices
  counts_fit = (omega (arith, f.count), omega (arith, f.second))

  module _ (low x : ℕ) (h : low < 2 ^ 32) (e : x ≡ v.number * 2 ^ 56 + v.operand * 2 ^ 48 + v.place * 2 ^ 32 + low) where
    pub reads_beside : Reads x v
    reads_beside =
        record {
          number = ap (bits 8 56) e ∙ number_of v.number v.operand v.place low f.number f.operand place_fits h;
          operand = ap (bits 8 48) e ∙ operand_of v.number v.operand v.place low f.number f.operand place_fits h;
          place = ap (bits 16 32) e ∙ place_of v.number v.operand v.place low f.number f.operand place_fits h;
        }

  pub reads_values : (x : ℕ) → x ≡ packed_values v → Reads x v × ReadsCounts x v
  reads_values x e =
      let (hc, hs) = counts_fit in
      let low = v.second * 2 ^ 16 + v.count in
      let h : low < 2 ^ 32 = omega arith in
      let is : x ≡ v.number * 2 ^ 56 + v.operand * 2 ^ 48 + v.place * 2 ^ 32 + low = omega arith in
      (reads_beside low x h is, record { second = omega arith; count = omega arith })

-- ---- the plane query

part_of : (start long : ℕ) → start < 2 ^ 32 → long < 2 ^ 32 → (bits 32 32 (start * 2 ^ 32 + long) ≡ start) × (bits 32 0 (start * 2 ^ 32 + long) ≡ long)
part_of start long h k = (omega arith, omega arith)

-- where it starts, 0 where it is empty, and its length
pub reads_part : (r : Ends) (x : ℕ) → r.start ≤ r.end → r.end ≤ 3 * most_vertices → x ≡ packed_part r →
    (bits 32 32 x ≡ cond (eqb r.start r.end) 0 r.start) × (bits 32 0 x ≡ r.end - r.start)
unfolding most_vertices
reads_part r x h k = go (eqb r.start r.end) refl (omega (arith, h, k)) (omega (arith, h, k))
  where
    go : (t : Bool) → eqb r.start r.end ≡ t → r.start < 2 ^ 32 → r.end - r.start < 2 ^ 32 →
        x ≡ cond t 0 (r.start * 2 ^ 32 + (r.end - r.start)) →
        (bits 32 32 x ≡ cond t 0 r.start) × (bits 32 0 x ≡ r.end - r.start)
    go true t p q e =
        let none : r.end - r.start ≡ 0 = omega (arith, eqb-true r.start r.end t) in
        (ap (bits 32 32) e, ap (bits 32 0) e ∙ sym none)
    go false t p q e =
        let (s, l) = part_of r.start (r.end - r.start) p q in
        (ap (bits 32 32) e ∙ s, ap (bits 32 0) e ∙ l)

-- ---- a cell that is found

pub record Fits (c : Cell) : Type 0 where
  pub focus : SFits w16 c.focus
  pub first : SFits w16 c.first
  pub second : SFits w16 c.second

module _ (a b d : ℕ) (ha : a < 65536) (hb : b < 65536) (hd : d < 65536) where
  three_of : (number_in (a * 2 ^ 32 + b * 2 ^ 16 + d) ≡ 0) × (bits 16 32 (a * 2 ^ 32 + b * 2 ^ 16 + d) ≡ a) ×
      (bits 16 16 (a * 2 ^ 32 + b * 2 ^ 16 + d) ≡ b) × (bits 16 0 (a * 2 ^ 32 + b * 2 ^ 16 + d) ≡ d)
  three_of = (omega arith, omega arith, omega arith, omega arith)

  operand_none : bits 8 48 (a * 2 ^ 32 + b * 2 ^ 16 + d) ≡ 0
  operand_none = omega arith

module _ (c : Cell) (f : Fits c) where
  abbrev three : (number_in (packed_codes c) ≡ 0) × (bits 16 32 (packed_codes c) ≡ word c.focus) ×
      (bits 16 16 (packed_codes c) ≡ word c.first) × (bits 16 0 (packed_codes c) ≡ word c.second)
  three =
      three_of (word c.focus) (word c.first) (word c.second)
      (word_fits c.focus f.focus) (word_fits c.first f.first) (word_fits c.second f.second)

  pub codes_number : number_in (packed_codes c) ≡ 0
  codes_number = three.0

  pub codes_operand : bits 8 48 (packed_codes c) ≡ 0
  codes_operand =
      operand_none (word c.focus) (word c.first) (word c.second)
      (word_fits c.focus f.focus) (word_fits c.first f.first) (word_fits c.second f.second)

  pub codes_cell : cell (signed (bits 16 32 (packed_codes c))) (signed (bits 16 16 (packed_codes c))) (signed (bits 16 0 (packed_codes c))) ≡ c
  codes_cell =
      let x = ap signed three.1 ∙ signed_word c.focus f.focus in
      let y = ap signed three.2 ∙ signed_word c.first f.first in
      let z = ap signed three.3 ∙ signed_word c.second f.second in
      λ i. cell (x i) (y i) (z i)
