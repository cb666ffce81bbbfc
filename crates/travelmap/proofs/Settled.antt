-- Each promise settles its answer, and the contents at exit: any two outcomes that it allows are equal.
--   exported_settled      of every function that makes lists: box, join, section, split
--   check_settled, cell_settled, corner_settled, plane_settled, box_settled, join_settled, section_settled, split_settled
--   nearest_settled, distance_settled, many_settled
use mathlib.Core.Path.{◌≡◌, sym, ◌∙◌, ap}
use mathlib.Core.List.{List}
use Prim.Native.Nat.{ℕ}
use lib.IntN.{ℤ}
use Rattle.meaning.specs.declared.Cell.{Cell}
use Rattle.meaning.specs.declared.Corner.{Corner}
use Rattle.meaning.specs.Outcomes.{Outcome, Nothing}
use Rattle.meaning.specs.declared.Reached.{Reached}
use Rattle.nearest.proofs.Promise.{outcome_once}
use Rattle.wishes.proofs.Answers.{many_once}
use Rattle.packing.specs.Packed.{packed_values, packed_nearest, packed_distance}
use Rattle.travelmap.specs.Exports.{Exported, CheckPacked, CellPacked, CornerPacked, PlanePacked, BoxPacked, JoinPacked, SectionPacked, SplitPacked, NearestBy, NearestPacked, DistancePacked, ManyPacked}

pub check_settled : (ns : List ℤ) (r s : ℕ) → CheckPacked ns r → CheckPacked ns s → r ≡ s
check_settled ns r s p q = p ∙ sym q

pub cell_settled : (ns : List ℤ) (c : Cell) (r s : ℕ) → CellPacked ns c r → CellPacked ns c s → r ≡ s
cell_settled ns c r s p q = p ∙ sym q

pub corner_settled : (ns : List ℤ) (v : Corner) (r s : ℕ) → CornerPacked ns v r → CornerPacked ns v s → r ≡ s
corner_settled ns v r s p q = p ∙ sym q

pub plane_settled : (ns : List ℤ) (x : ℤ) (r s : ℕ) → PlanePacked ns x r → PlanePacked ns x s → r ≡ s
plane_settled ns x r s p q = p ∙ sym q

exported_settled : {Left : Type 0} (o : Outcome Nothing Left) (r s : ℕ) (after last : Left) → Exported o r after → Exported o s last → (r ≡ s) × (after ≡ last)
exported_settled o r s after last p q = (p.answer ∙ sym q.answer, p.contents ∙ sym q.contents)

pub box_settled : (ends : List (List ℤ)) (before : List ℤ) (r s : ℕ) (after last : List ℤ) → BoxPacked ends before r after → BoxPacked ends before s last
    → (r ≡ s) × (after ≡ last)
box_settled ends before = exported_settled _

pub join_settled : (op : ℕ) (a b before : List ℤ) (r s : ℕ) (after last : List ℤ) → JoinPacked op a b before r after → JoinPacked op a b before s last
    → (r ≡ s) × (after ≡ last)
join_settled op a b before = exported_settled _

pub section_settled : (ns : List ℤ) (n : ℕ) (k : ℤ) (before : List ℤ) (r s : ℕ) (after last : List ℤ) → SectionPacked ns n k before r after
    → SectionPacked ns n k before s last → (r ≡ s) × (after ≡ last)
section_settled ns n k before = exported_settled _

pub split_settled : (ns : List ℤ) (n : ℕ) (p : ℤ) (low high : List ℤ) (r s : ℕ) (a b a' b' : List ℤ) → SplitPacked ns n p low high r a b
    → SplitPacked ns n p low high s a' b' → (r ≡ s) × (a ≡ a') × (b ≡ b')
split_settled ns n p low high r s a b a' b' g h =
    let (e, f) = exported_settled _ r s _ _ g h in
    (e, ap (λ x. x.low) f, ap (λ x. x.high) f)

nearest_by : (pack : Outcome Reached Nothing → ℕ) (ns : List ℤ) (w : Cell) (r s : ℕ) → NearestBy pack ns w r → NearestBy pack ns w s → r ≡ s
nearest_by pack ns w r s p q = p.answer ∙ ap pack (outcome_once ns w p.at q.at p.nearest q.nearest) ∙ sym q.answer

pub nearest_settled : (ns : List ℤ) (w : Cell) (r s : ℕ) → NearestPacked ns w r → NearestPacked ns w s → r ≡ s
nearest_settled = nearest_by packed_nearest

pub distance_settled : (ns : List ℤ) (w : Cell) (r s : ℕ) → DistancePacked ns w r → DistancePacked ns w s → r ≡ s
distance_settled = nearest_by packed_distance

pub many_settled : (ns ws before : List ℤ) (r s : ℕ) (after last : List ℤ) → ManyPacked ns ws before r after → ManyPacked ns ws before s last
    → (r ≡ s) × (after ≡ last)
many_settled ns ws before r s after last p q =
    let e = many_once ns ws before p.cells q.cells p.nearest q.nearest in
    (p.answer ∙ ap (λ o. packed_values o.values) e ∙ sym q.answer, p.contents ∙ ap (λ o. o.left) e ∙ sym q.contents)
