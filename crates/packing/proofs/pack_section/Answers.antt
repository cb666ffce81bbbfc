-- `packing::pack_section` meets its contract, case by case.
use mathlib.Core.Path.{subst}
use native.Mathlib.Omega.{arith}
use Rattle.meaning.specs.Lists.{most_vertices}
use Rattle.cuts.specs.Answers.{section_values}
use Rattle.packing.specs.Packed.{Few}
use Rattle.packing.proofs.pack_section.Goals as goal

pub overflow_cast-pairs : goal.overflow_cast-pairs
unfolding most_vertices
overflow_cast-pairs c = let few = subst (λ a. Few (section_values a)) c.in-Ok.is c.requires in omega arith
