-- `packing::pack_part` meets its contract: where the part starts, and its length.
use native.Mathlib.Omega.{arith}
use Rattle.meaning.specs.Lists.{most_vertices}
use Rattle.packing.proofs.pack_part.Goals as goal

pub overflow_mul-result : goal.overflow_mul-result
unfolding most_vertices
overflow_mul-result c = omega arith

pub overflow_add-result : goal.overflow_add-result
unfolding most_vertices
overflow_add-result c = omega arith
