-- `joins::join_small` meets its contract: a result that fits in small room is the result; else nothing was written.
use Rattle.std.proofs.Common.{rules}
use Rattle.meaning.specs.Lists.{most_vertices}
use Rattle.joins.proofs.join_small.Goals as goal

pub join_in_room-requires-in-None-clause-most_bound : goal.join_in_room-requires-in-None-clause-most_bound
unfolding most_vertices
join_in_room-requires-in-None-clause-most_bound c = search rules
