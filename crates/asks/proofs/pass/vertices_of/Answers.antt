-- `asks::pass::vertices_of` meets its contract: the numbers three by three are the vertices.
use mathlib.Core.Path.{◌∙◌, ap}
use mathlib.Core.List.{map}
use Rattle.asks.proofs.Passes.{vertex_of, vertices_by_three}
use Rattle.asks.proofs.pass.vertices_of.Goals as goal

pub returns : goal.returns
returns c = ap (map vertex_of) c.as_chunks.ensures.front ∙ vertices_by_three c.args.list.now
