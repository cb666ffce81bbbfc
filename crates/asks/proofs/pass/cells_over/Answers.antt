-- `asks::pass::cells_over` meets its contract: the cells beyond the vertex on all three axes, by the law `over_handed`.
use mathlib.Core.Path.{ap₂, ◌∙◌}
use lib.Bits.{bit_and}
use Rattle.std.proofs.Common.{rules}
use Rattle.asks.proofs.Passes.{vertex_of}
use Rattle.asks.proofs.Masks.{over_handed}
use Rattle.asks.proofs.pass.cells_over.Goals as goal

pub returns : goal.returns
returns c =
    ap₂ bit_and c.beyond-a.ensures (ap₂ bit_and c.beyond-b.ensures c.beyond-c.ensures)
    ∙ over_handed (vertex_of c.args.vertex.now) c.args.corner (search rules) (search rules) (search rules)
    (search rules) (search rules) (search rules)
