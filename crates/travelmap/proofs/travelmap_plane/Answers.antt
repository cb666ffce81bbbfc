-- `travelmap::travelmap_plane` meets its contract: where the part starts, and its length, are packed.
use Rattle.travelmap.proofs.Passing.{ends_fit}
use Rattle.travelmap.proofs.travelmap_plane.Goals as goal

pub pack_part-requires : goal.pack_part-requires
pack_part-requires c = ends_fit _ _ _ c.plane_ends.ensures
