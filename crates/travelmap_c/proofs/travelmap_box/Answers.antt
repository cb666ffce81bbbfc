use Rattle.std.proofs.lemmas.Int.{to_z-of_z}
use Rattle.travelmap_c.proofs.travelmap_box.Goals as goal

pub returns : goal.returns
returns c = simp (to_z-of_z, c.ranges.focus_low, c.ranges.focus_high, c.ranges.first_low, c.ranges.first_high, c.ranges.second_low, c.ranges.second_high) at c.travelmap_box.ensures
