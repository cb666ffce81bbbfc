-- `asks::plane_ends` meets its contract: the two passes stop where the plane starts and where it ends.
use Rattle.std.proofs.Common.{rules}
use Rattle.asks.specs.Passes.{under}
use Rattle.asks.proofs.Answers.{refused_by, passed_by, ends_refused, ends_said}
use Rattle.asks.proofs.Passes.{crossing}
use Rattle.asks.proofs.Planes.{leading_within}
use Rattle.asks.proofs.plane_ends.Goals as goal

pub returns-then-is_err : goal.returns-then-is_err
returns-then-is_err c = ends_refused _ _ _ c.check.ensures (refused_by _ (search rules))

pub past-end-requires : goal.past-end-requires
past-end-requires c = rw c.past-start.ensures (leading_within (under c.lift-bound.result) c.args.list.now)

pub returns : goal.returns
returns c =
    ends_said _ _ _ c.check.ensures (passed_by _ (search rules))
    c.ranges.focus c.lift-bound.result _ _ (crossing c.args.focus _ c.ranges.focus c.lift-bound.ensures)
    c.past-start.ensures c.past-end.ensures
