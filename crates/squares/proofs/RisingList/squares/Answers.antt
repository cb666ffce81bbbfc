-- `RisingList::squares` meets its contract: the wish's own line, and then the lines that the pairs lie on.
use mathlib.Core.Path.{ap, subst}
use mathlib.Core.List.{List, map}
use Prim.Native.Nat.{ℕ, ◌+◌, ◌-◌}
use lib.ListN.{take}
use Rattle.rising.specs.Merged.{less_base}
use Rattle.cells.specs.Cells.{Best, Rank, line_in, section_in, line_unit, rest}
use Rattle.cells.proofs.Axis.{rank_stop, axis_least}
use Rattle.squares.proofs.Runs.{map_take}
use Rattle.squares.proofs.Walk.{here_of}
use Rattle.squares.proofs.RisingList.squares.Goals as goal

pub returns-then-best-rank : goal.returns-then-best-rank
returns-then-best-rank c =
    rank_stop (section_in c.args.scales.first c.args.scales.second) (less_base c.args.self.base c.args.self.list.now) c.args.rank c.args.best c.if-best-rank.true

pub returns : goal.returns
returns c =
    let same = map_take (λ k. k - c.args.self.base) c.upto-place.result c.args.self.list.now in
    axis_least {scale = c.args.scales.first}
    (here_of line_unit c.args.scales.first (line_in c.args.scales.second) (less_base c.args.self.base c.args.self.list.now) c.args.rank c.upto-place.result c.upto-place.ensures
    (subst (λ (n : ℕ). Best (Rank (line_in c.args.scales.second) (map (rest line_unit) (take c.upto-place.result (less_base c.args.self.base c.args.self.list.now))) n) c.args.best c.joint_line-found.result)
    (ap (c.args.rank +◌) c.value_at.ensures.is)
    (subst (λ (m : List ℕ). Best (Rank (line_in c.args.scales.second) (map (rest line_unit) m) (c.args.rank + c.value_at.result)) c.args.best c.joint_line-found.result)
    same c.joint_line-found.ensures)))
    c.own_lines.ensures
