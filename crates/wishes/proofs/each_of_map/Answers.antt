-- `each_of_map` meets its contract: with small rooms or with large ones.
use native.Mathlib.Omega.{arith}
use Rattle.meaning.specs.Lists.{most_vertices}
use Rattle.lists.proofs.Vertices.{length_vertices}
use Rattle.nearest.proofs.Answers.{valid_list}
use Rattle.wishes.proofs.each_of_map.Goals as goal

pub each_in_room-requires-clause-list_len_bound : goal.each_in_room-requires-clause-list_len_bound
each_in_room-requires-clause-list_len_bound c = omega (arith, c.if-map.true, length_vertices c.args.map.list.now)

-- the list has no more vertices than a list may have
pub each_in_room-requires-else-map-clause-list_len_bound : goal.each_in_room-requires-else-map-clause-list_len_bound
unfolding most_vertices
each_in_room-requires-else-map-clause-list_len_bound c = (valid_list _ c.args.map.passes).few
