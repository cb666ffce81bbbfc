-- `packing::pack_refusal` meets its contract: a place is that of one of few vertices.
use native.Mathlib.Omega.{arith}
use Rattle.meaning.specs.Lists.{most_vertices}
use Rattle.packing.proofs.pack_refusal.Goals as goal

pub overflow_cast-place : goal.overflow_cast-place
unfolding most_vertices
overflow_cast-place c = omega arith
