-- `travelmap::travelmap_join` meets its contract: the answer of the join is packed, and the contents at exit are those of the join.
use Rattle.travelmap.proofs.Passing.{join_fits, join_packed}
use Rattle.travelmap.proofs.travelmap_join.Goals as goal

pub pack_join-requires : goal.pack_join-requires
pack_join-requires c = join_fits _ _ _ _ _ _ c.join.ensures

pub returns : goal.returns
returns c = join_packed _ _ _ _ _ _ c.join.ensures _ c.pack_join.ensures
