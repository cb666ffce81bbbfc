-- `lists::Corners::fill` meets its contract: each place is a vertex's.
use native.Mathlib.Omega.{arith}
use Rattle.lists.proofs.Vertices.{length_vertices}
use Rattle.lists.proofs.corners.Corners.fill.Goals as goal

pub pair_at-requires : goal.pair_at-requires
pair_at-requires c = omega (arith, length_vertices c.args.self.list.now)
