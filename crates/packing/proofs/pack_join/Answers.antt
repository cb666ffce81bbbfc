-- `packing::pack_join` meets its contract, case by case.
use mathlib.Core.Path.{subst}
use native.Mathlib.Omega.{arith}
use Rattle.meaning.specs.Lists.{most_vertices}
use Rattle.joins.specs.Join.{join_values}
use Rattle.packing.specs.Packed.{Few}
use Rattle.packing.proofs.pack_join.Goals as goal

pub overflow_cast-count : goal.overflow_cast-count
unfolding most_vertices
overflow_cast-count c = let few = subst (λ a. Few (join_values a)) c.in-Ok.is c.requires in omega arith
