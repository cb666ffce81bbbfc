-- `lists::Corners::first_along_second` meets its contract: vertices two by two on a line need no search.
use mathlib.Core.Path.{sym, ◌∙◌}
use Rattle.lists.proofs.Vertices.{length_vertices}
use Rattle.lists.proofs.corners.Corners.first_along_second.Goals as goal

pub returns-then-in_pairs : goal.returns-then-in_pairs
returns-then-in_pairs c = sym (length_vertices c.args.self.list.now) ∙ c.in_pairs.ensures c.if-in_pairs.true
