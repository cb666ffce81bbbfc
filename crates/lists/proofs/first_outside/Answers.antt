-- `lists::first_outside` meets its contract. The loop's invariant: every vertex passed is a corner.
use mathlib.Core.Path.{◌≡◌, sym, ◌∙◌, ap}
use mathlib.Core.Bool.{false, not}
use Prim.Native.Nat.{ℕ, ◌<◌}
use borrow.Author.Count.{below_more}
use native.Mathlib.Omega.{arith}
use lib.ListN.{length}
use Rattle.meaning.specs.Lists.{vertices}
use Rattle.meaning.specs.Verdicts.{outside_at}
use Rattle.meaning.proofs.First.{first_stop, first_none}
use Rattle.lists.proofs.Vertices.{length_vertices, outside_at_lem, numbers_range}
use Rattle.lists.proofs.first_outside.Goals as goal
use Rattle.lists.proofs.first_outside.Goals.{In-loop-place}

-- the place of a turn is a vertex's
within : (c : In-loop-place) → c.loop-place.place < length (vertices c.args.list.now)
within c = omega (arith, length_vertices c.args.list.now)

pub returns-then-all_numbers : goal.returns-then-all_numbers
returns-then-all_numbers c = let l = c.args.list.now in
    first_none (outside_at (vertices l)) (length (vertices l)) (sym (length_vertices l))
    (λ k h. none k (omega (arith, length_vertices l)))
  where
    none : (k : ℕ) → k < length (vertices c.args.list.now) → outside_at (vertices c.args.list.now) k ≡ false
    none k h =
        let l = c.args.list.now in
        outside_at_lem l k h ∙ ap not (numbers_range l (c.all_numbers.ensures c.if-all_numbers.true) k h)

pub returns-then-not-corner_at : goal.returns-then-not-corner_at
returns-then-not-corner_at c =
    let l = c.args.list.now in
    let i = c.loop-place.place in
    let h = within (goal.at.returns-then-not-corner_at c).In-loop-place in
    first_stop (outside_at (vertices l)) (length (vertices l)) i h c.loop-place.invariant
    (outside_at_lem l i h ∙ ap not (sym c.corner_at.ensures ∙ c.if-not-corner_at.true))

pub loop-place-preserved : goal.loop-place-preserved
loop-place-preserved c =
    let l = c.args.list.now in
    let i = c.loop-place.place in
    below_more (λ j. outside_at (vertices l) j ≡ false) i c.loop-place.invariant
    (outside_at_lem l i (within (goal.at.loop-place-preserved c).In-loop-place) ∙ ap not (sym c.corner_at.ensures ∙ c.if-not-corner_at.false))

pub returns : goal.returns
returns c = let l = c.args.list.now in
    first_none (outside_at (vertices l)) (length (vertices l)) (sym (length_vertices l)) (λ k h. c.loop-place.invariant k (omega arith))
