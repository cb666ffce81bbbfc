-- `lists::Corners::first_on_odd_line` meets its contract: room for the list's vertices, few or many.
use native.Mathlib.Omega.{arith}
use Rattle.meaning.specs.Lists.{most_vertices}
use Rattle.lists.proofs.Vertices.{length_vertices}
use Rattle.lists.proofs.corners.Corners.first_on_odd_line.Goals as goal

pub first_of-requires : goal.first_of-requires
unfolding most_vertices
first_of-requires c = record {
  room = omega (arith, length_vertices c.args.self.list.now);
  room_bound = omega arith;
}

pub first_of-requires-2 : goal.first_of-requires-2
unfolding most_vertices
first_of-requires-2 c = record {
  room = omega (arith, c.args.self.few);
  room_bound = omega arith;
}
