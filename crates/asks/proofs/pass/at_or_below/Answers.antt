-- `asks::pass::at_or_below` meets its contract: where the first two tests pass, the third decides.
use mathlib.Core.Path.{sym, ◌∙◌}
use Rattle.std.proofs.Common.{rules}
use Rattle.asks.proofs.Passes.{vertex_of, at_or_below_passed}
use Rattle.asks.proofs.pass.at_or_below.Goals as goal
use Rattle.asks.proofs.pass.at_or_below.Goals.{then-vertex-cell, else-vertex-cell}

pub returns-then-vertex-cell-2 : goal.returns-then-vertex-cell-2
returns-then-vertex-cell-2 c =
    elim c.if-vertex-cell.branch [
      | then-vertex-cell w ↦
          at_or_below_passed c.args.cell (vertex_of c.args.vertex.now) (search rules) (search rules) (search rules)
          (search rules) (search rules) (search rules) w.if-vertex-cell.true (sym w.value-is ∙ c.if-vertex-cell-2.true)
      | else-vertex-cell w ↦ absurd (search rules)
    ]
