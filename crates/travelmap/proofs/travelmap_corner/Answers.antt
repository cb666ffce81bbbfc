-- `travelmap::travelmap_corner` meets its contract: the report is packed, beside the refusal of the list.
use Rattle.travelmap.proofs.Passing.{corner_fits, corner_packed}
use Rattle.travelmap.proofs.travelmap_corner.Goals as goal

pub pack_corner-requires : goal.pack_corner-requires
pack_corner-requires c = let f = corner_fits _ _ _ c.corner_report.ensures in record { few = f.0; eight = f.1 }

pub returns : goal.returns
returns c =
    let f = c.ranges in
    corner_packed _ _ _ _ f.focus f.first f.second _ _ c.corner_report.ensures c.pack_corner.ensures
