-- `packing::pack_split` meets its contract, case by case.
use mathlib.Core.Path.{subst}
use native.Mathlib.Omega.{arith}
use Rattle.meaning.specs.Lists.{most_vertices}
use Rattle.cuts.specs.Answers.{split_values}
use Rattle.packing.specs.Packed.{Few}
use Rattle.packing.proofs.pack_split.Goals as goal

pub overflow_cast-upper : goal.overflow_cast-upper
unfolding most_vertices
overflow_cast-upper c = let few = subst (λ a. Few (split_values a)) c.in-Ok.is c.requires in omega arith

pub overflow_cast-lower : goal.overflow_cast-lower
unfolding most_vertices
overflow_cast-lower c = let few = subst (λ a. Few (split_values a)) c.in-Ok.is c.requires in omega arith
