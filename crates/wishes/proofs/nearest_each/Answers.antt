-- `nearest_each` meets its contract: its answers are the promised ones, case by case.
use mathlib.Core.Path.{◌≡◌, sym, ◌∙◌, ap, subst}
use mathlib.Core.List.{List}
use Prim.Native.Nat.{◌%◌, ◌<◌}
use native.Mathlib.Omega.{arith}
use borrow.Author.Tests.{eqb-true}
use lib.IntN.{ℤ}
use lib.ListN.{length}
use Rattle.std.proofs.lemmas.Result.{err_from_is_err_and}
use Rattle.meaning.specs.Lists.{vertices}
use Rattle.meaning.specs.Verdicts.{Valid, verdict, passes}
use Rattle.lists.proofs.Vertices.{length_vertices}
use Rattle.nearest.proofs.Answers.{not_empty}
use Rattle.wishes.specs.Each.{EachPut}
use Rattle.wishes.proofs.Answers.{many_refused, many_not, many_empty, many_short, many_done}
use Rattle.wishes.proofs.nearest_each.Goals as goal
use Rattle.wishes.proofs.nearest_each.Goals.{Else-is_empty}

pub returns-in_err-map : goal.returns-in_err-map
returns-in_err-map c =
    let p = err_from_is_err_and c.from_residual.result c.from_residual.ensures.1 in
    rw (p.1, p.2) (many_refused _ _ _ _ c.in_err-map.ensures.err)

-- ---- the wishes, the map, the room

-- the list of a map passes the check
valid : {ns l : List ℤ} → l ≡ ns → verdict l ≡ Valid → verdict ns ≡ Valid
valid e v = ap verdict (sym e) ∙ v

some : (c : Else-is_empty) → 0 < length (vertices c.args.list.now)
some c = not_empty _ (valid c.in_ok-map.ensures.ok c.in_ok-map.map.passes) c.if-is_empty.ensures

pub returns-then-wishes-ne0 : goal.returns-then-wishes-ne0
returns-then-wishes-ne0 c =
    let p = ap passes (valid c.in_ok-map.ensures.ok c.in_ok-map.map.passes) in
    many_not _ _ _ p (λ (q : length c.args.wishes.now % 3 ≡ 0). omega arith)

pub returns-then-is_empty : goal.returns-then-is_empty
returns-then-is_empty c =
    let p = ap passes (valid c.in_ok-map.ensures.ok c.in_ok-map.map.passes) in
    many_empty _ c.args.wishes.now _ p (omega arith) (omega (arith, length_vertices c.args.list.now, eqb-true _ 0 (sym c.if-is_empty.ensures)))

pub returns-then-cells-wishes : goal.returns-then-cells-wishes
returns-then-cells-wishes c =
    let p = ap passes (valid c.in_ok-map.ensures.ok c.in_ok-map.map.passes) in
    many_short c.args.list.now c.args.wishes.now _ p (omega arith) (some (goal.at.returns-then-cells-wishes c).Else-is_empty) (omega arith)

pub each_of_map-requires : goal.each_of_map-requires
each_of_map-requires c =
    record {
      some = subst (λ (l : List ℤ). 0 < length (vertices l)) (sym c.in_ok-map.ensures.ok) (some (goal.at.each_of_map-requires c).Else-is_empty);
      threes = omega arith;
      room = omega arith;
    }

pub returns : goal.returns
returns c =
    let e = c.in_ok-map.ensures.ok in
    let p = ap passes (valid e c.in_ok-map.map.passes) in
    many_done c.args.list.now c.args.wishes.now _ p (omega arith) (some (goal.at.returns c).Else-is_empty) (omega arith) _
    (subst (λ (l : List ℤ). EachPut l c.args.wishes.now c.args.cells.now c.each_of_map.new.cells) e c.each_of_map.ensures)
