-- `asks::plane` meets its contract: the part from where the plane starts to where it ends holds the plane's numbers, and lies there.
use mathlib.Core.Path.{subst}
use Prim.Native.Nat.{◌≤◌}
use native.Mathlib.Omega.{arith}
use lib.ListN.{length}
use mir.Syntax.{w16}
use mir.ValLaws.{to_z-of_z}
use Rattle.asks.specs.Asks.{EndsPromise}
use Rattle.asks.proofs.Answers.{ends_within, plane_said}
use Rattle.asks.proofs.plane.Goals as goal
use Rattle.asks.proofs.plane.Goals.{After-plane_ends-ends}

-- where the part stands, and that it lies within the list
ends_is : (c : After-plane_ends-ends) → EndsPromise c.args.list.now c.args.focus c.plane_ends-ends.result
ends_is c = subst (λ x. EndsPromise c.args.list.now x c.plane_ends-ends.result) (to_z-of_z w16 c.args.focus c.ranges.focus)
    c.plane_ends-ends.ensures

within : (c : After-plane_ends-ends) → (c.plane_ends-ends.result.start ≤ c.plane_ends-ends.result.end) × (c.plane_ends-ends.result.end ≤ length c.args.list.now)
within c = ends_within _ _ _ (ends_is c)

pub offset_bounds-list-start : goal.offset_bounds-list-start
offset_bounds-list-start c = omega (arith, within c)

pub slice_bounds-result-count : goal.slice_bounds-result-count
slice_bounds-result-count c = omega (arith, within c)

pub slice_bounds-result-start : goal.slice_bounds-result-start
slice_bounds-result-start c = omega (arith, within c)

pub slice_bounds-result-end : goal.slice_bounds-result-end
slice_bounds-result-end c = omega (arith, within c)

pub returns : goal.returns
returns c = plane_said _ _ _ _ (ends_is (goal.at.returns c).After-plane_ends-ends)
