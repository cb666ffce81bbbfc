-- `joins::fitting` meets its contract: the room in whole vertices, at most as many as a list may have.
use Rattle.meaning.specs.Lists.{most_vertices}
use Rattle.joins.proofs.fitting.Goals as goal

pub returns : goal.returns
unfolding most_vertices
returns c = c.min.ensures
