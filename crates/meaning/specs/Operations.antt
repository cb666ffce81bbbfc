-- What can be made of maps (document 01, "What can be asked"): joins, sections and splits, cell by cell.
--   box_cells               the cells between the low and the high ends
--   Operation, holds       union, overlap, first without second, exclusive or, of two memberships
--   operation              document 01's number of an operation: 1 to 4
--   join, joined_list       the cells of which the operation holds; their one list, of what two lists permit
--   section_at              the squares at a code of an axis
--   lower_half, upper_half   the cells with code below p on an axis, and those with code p or above
--   axis_of                 document 01's number of an axis: 0, 1, 2
--   pair_numbers            a list of pairs as numbers
use Rattle.std.specs.Prelude.{Bool, not, ◌&&◌, ◌||◌, cond, List, [], ◌∷◌, ℕ, ℤ, eqb}
use Rattle.std.proofs.Math.Option.{Option, none, some}
use Rattle.std.specs.Int.Signed.{le_z, lt_z}
use Rattle.meaning.specs.Numbers.{Axis, focus, first, second, Square, Pair, code_on, across}
use Rattle.meaning.specs.declared.Cell.{Cell}
use Rattle.meaning.specs.declared.Corner.{Corner}
use Rattle.meaning.specs.Lists.{vertices, permitted}
use Rattle.meaning.specs.OneList.{one_list}

-- from the low end to below the high end
abbrev pub between : ℤ → ℤ → ℤ → Bool
between low high z = le_z low z && lt_z z high

abbrev pub box_cells : ℤ → ℤ → ℤ → ℤ → ℤ → ℤ → Cell → Bool
box_cells a a' b b' d d' c = between a a' c.focus && (between b b' c.first && between d d' c.second)

pub data Operation : Type 0 where
  union overlap without exclusive : Operation

abbrev pub operation : ℕ → Option Operation
operation n =
    cond (eqb n 1) (some union)
    (cond (eqb n 2) (some overlap)
    (cond (eqb n 3) (some without)
    (cond (eqb n 4) (some exclusive) none)))

abbrev pub holds : Operation → Bool → Bool → Bool
holds union a b = a || b
holds overlap a b = a && b
holds without a b = a && not b
holds exclusive a b = a && not b || not a && b

abbrev pub join : Operation → (Cell → Bool) → (Cell → Bool) → Cell → Bool
join op S R c = holds op (S c) (R c)

abbrev pub axis_of : ℕ → Option Axis
axis_of n =
    cond (eqb n 0) (some focus)
    (cond (eqb n 1) (some first)
    (cond (eqb n 2) (some second) none))

abbrev pub section_at : Axis → ℤ → (Cell → Bool) → Square → Bool
section_at axis k S s = S (across axis k s)

abbrev pub lower_half : Axis → ℤ → (Cell → Bool) → Cell → Bool
lower_half axis p S c = lt_z (code_on axis c) p && S c

abbrev pub upper_half : Axis → ℤ → (Cell → Bool) → Cell → Bool
upper_half axis p S c = le_z p (code_on axis c) && S c

abbrev pub pair_numbers : List Pair → List ℤ
pair_numbers [] = []
pair_numbers (p ∷ l) = p.one ∷ p.two ∷ pair_numbers l

-- the one list of the cells of which an operation holds, of what two lists permit
abbrev pub joined_list : Operation → List ℤ → List ℤ → List Corner
joined_list o a b = one_list (join o (permitted (vertices a)) (permitted (vertices b)))
