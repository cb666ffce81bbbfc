-- `lists::check` meets its contract: the verdict, one test after the other.
use Prim.Native.Nat.{◌≤◌}
use native.Mathlib.Omega.{arith}
use lib.ListN.{length}
use Rattle.meaning.specs.Lists.{vertices, most_vertices}
use Rattle.lists.specs.Check.{InRange}
use Rattle.lists.proofs.Vertices.{length_vertices}
use Rattle.lists.proofs.Verdicts.{not_triples, too_many_lem, in_range_lem, outside_stop, falls_stop, line_stop, all_passed, verdict_checked}
use Rattle.lists.proofs.check.Goals as goal
use Rattle.lists.proofs.check.Goals.{Else-falling-n, Else-n-gt-MOST_VERTICES, Else-outside-n}

-- what is known after each test
few : (c : Else-n-gt-MOST_VERTICES) → length (vertices c.args.list.now) ≤ most_vertices
unfolding most_vertices
few c = omega (arith, length_vertices c.args.list.now)

none_outside : (c : Else-outside-n) → length (vertices c.args.list.now) ≤ c.first_outside-outside.result
none_outside c = omega (arith, length_vertices c.args.list.now)

ranged : (c : Else-outside-n) → InRange c.args.list.now
ranged c = in_range_lem c.args.list.now c.first_outside-outside.result c.first_outside-outside.ensures (none_outside c)

none_falls : (c : Else-falling-n) → length (vertices c.args.list.now) ≤ c.first_falling-falling.result
none_falls c = omega (arith, length_vertices c.args.list.now)

pub returns-then-list-ne0 : goal.returns-then-list-ne0
returns-then-list-ne0 c = verdict_checked _ _ (not_triples c.args.list.now c.if-list-ne0.true)

pub returns-then-n-gt-MOST_VERTICES : goal.returns-then-n-gt-MOST_VERTICES
unfolding most_vertices
returns-then-n-gt-MOST_VERTICES c = verdict_checked _ _
    (too_many_lem c.args.list.now c.if-list-ne0.false (omega (arith, length_vertices c.args.list.now)))

pub returns-then-outside-n : goal.returns-then-outside-n
returns-then-outside-n c =
    let l = c.args.list.now in
    verdict_checked _ _
    (outside_stop l c.if-list-ne0.false (few (goal.at.returns-then-outside-n c).Else-n-gt-MOST_VERTICES) c.first_outside-outside.result c.first_outside-outside.ensures (omega (arith, length_vertices l)))

pub invariant_of-corners : goal.invariant_of-corners
invariant_of-corners c = record {
  in_range = ranged (goal.at.invariant_of-corners c).Else-outside-n;
  few = few (goal.at.invariant_of-corners c).Else-n-gt-MOST_VERTICES;
}

pub returns-then-falling-n : goal.returns-then-falling-n
returns-then-falling-n c =
    let l = c.args.list.now in
    verdict_checked _ _
    (falls_stop l c.if-list-ne0.false (few (goal.at.returns-then-falling-n c).Else-n-gt-MOST_VERTICES) c.first_outside-outside.result c.first_outside-outside.ensures (none_outside (goal.at.returns-then-falling-n c).Else-outside-n)
    c.first_falling-falling.result c.first_falling-falling.ensures (omega (arith, length_vertices l)))

pub returns-then-odd-n : goal.returns-then-odd-n
returns-then-odd-n c =
    let l = c.args.list.now in
    verdict_checked _ _
    (line_stop l c.if-list-ne0.false (few (goal.at.returns-then-odd-n c).Else-n-gt-MOST_VERTICES) c.first_outside-outside.result c.first_outside-outside.ensures (none_outside (goal.at.returns-then-odd-n c).Else-outside-n)
    c.first_falling-falling.result c.first_falling-falling.ensures (none_falls (goal.at.returns-then-odd-n c).Else-falling-n)
    c.first_on_odd_line-odd.result c.first_on_odd_line-odd.ensures (omega (arith, length_vertices l)))

pub returns : goal.returns
returns c =
    let l = c.args.list.now in
    verdict_checked _ _
    (all_passed l c.if-list-ne0.false (few (goal.at.returns c).Else-n-gt-MOST_VERTICES) c.first_outside-outside.result c.first_outside-outside.ensures (none_outside (goal.at.returns c).Else-outside-n)
    c.first_falling-falling.result c.first_falling-falling.ensures (none_falls (goal.at.returns c).Else-falling-n)
    c.first_on_odd_line-odd.result c.first_on_odd_line-odd.ensures (omega (arith, length_vertices l)))
