use Rattle.std.proofs.lemmas.Int.{to_z-of_z}
use Rattle.travelmap_c.proofs.travelmap_section.Goals as goal

pub returns : goal.returns
returns c = simp (to_z-of_z, c.ranges.code) at c.travelmap_section.ensures
