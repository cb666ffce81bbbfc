-- `travelmap::travelmap_nearest` meets its contract: the answer of nearest is packed.
use Rattle.travelmap.proofs.Passing.{found_fits}
use Rattle.travelmap.proofs.travelmap_nearest.Goals as goal

pub pack_nearest-requires : goal.pack_nearest-requires
pack_nearest-requires c = found_fits _ _ _ c.nearest.ensures
