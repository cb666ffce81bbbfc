-- `travelmap::travelmap_nearest_each` meets its contract: the answer is packed, and the contents at exit are those that are promised.
use Rattle.travelmap.proofs.Passing.{many_fits}
use Rattle.travelmap.proofs.travelmap_nearest_each.Goals as goal

pub pack_wished-requires : goal.pack_wished-requires
pack_wished-requires c = many_fits _ _ _ _ _ c.nearest_each.ensures
