use Rattle.std.proofs.lemmas.Int.{to_z-of_z}
use Rattle.travelmap_c.proofs.travelmap_split.Goals as goal

pub returns : goal.returns
returns c = simp (to_z-of_z, c.ranges.at) at c.travelmap_split.ensures
