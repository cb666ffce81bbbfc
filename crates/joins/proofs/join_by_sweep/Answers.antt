-- `joins::join_by_sweep` meets its contract: few vertices may do with small room.
use borrow.Author.Rules.{rules}
use Prim.Native.Nat.{◌≤◌}
use native.Mathlib.Omega.{arith}
use lib.ListN.{length}
use Rattle.lists.proofs.Vertices.{length_vertices}
use Rattle.meaning.specs.Lists.{most_vertices, vertices}
use Rattle.sweep.proofs.Whole.{read_room, map_valid}
use Rattle.joins.proofs.join_by_sweep.Goals as goal
use Rattle.joins.proofs.join_by_sweep.Goals.{Else-max}

pub join_in_room-requires-clause-a_in_bounds : goal.join_in_room-requires-clause-a_in_bounds
join_in_room-requires-clause-a_in_bounds c = (read_room _ (map_valid c.args.a), read_room _ (map_valid c.args.b))

pub join_in_room-requires-clause-most_bound : goal.join_in_room-requires-clause-most_bound
unfolding most_vertices
join_in_room-requires-clause-most_bound c = search rules

-- both lists are of few vertices
few : (e : Else-max) → (length (vertices e.args.a.list.now) ≤ 32) × (length (vertices e.args.b.list.now) ≤ 32)
few e = (omega (arith, length_vertices e.args.a.list.now, e.max.ensures), omega (arith, length_vertices e.args.b.list.now, e.max.ensures))

pub join_in_room-requires-then-most-lt-SMALL-clause-a_in_bounds : goal.join_in_room-requires-then-most-lt-SMALL-clause-a_in_bounds
join_in_room-requires-then-most-lt-SMALL-clause-a_in_bounds c = few (goal.at.join_in_room-requires-then-most-lt-SMALL-clause-a_in_bounds c).Else-max

pub join_small-requires-clause-a_len_bound : goal.join_small-requires-clause-a_len_bound
join_small-requires-clause-a_len_bound c = few (goal.at.join_small-requires-clause-a_len_bound c).Else-max
