-- `travelmap::travelmap_nearest_distance` meets its contract: the answer of nearest is packed.
use Rattle.travelmap.proofs.Passing.{found_fits}
use Rattle.travelmap.proofs.travelmap_nearest_distance.Goals as goal

pub pack_distance-requires : goal.pack_distance-requires
pack_distance-requires c = found_fits _ _ _ c.nearest.ensures
