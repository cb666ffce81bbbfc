-- `lists::Corners::first_of` meets its contract: the working array has room.
use native.Mathlib.Omega.{arith}
use Rattle.meaning.specs.Lists.{most_vertices}
use Rattle.lists.proofs.corners.Corners.first_of.Goals as goal

pub whole_as_slice-first_with_room : goal.whole_as_slice-first_with_room
unfolding most_vertices
whole_as_slice-first_with_room g c = omega (arith, c.requires.room_bound)
