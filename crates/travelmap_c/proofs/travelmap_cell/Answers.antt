use Rattle.std.proofs.lemmas.Int.{to_z-of_z}
use Rattle.travelmap_c.proofs.travelmap_cell.Goals as goal

pub returns : goal.returns
returns c = simp (to_z-of_z, c.ranges.focus, c.ranges.first, c.ranges.second) at c.travelmap_cell.ensures
