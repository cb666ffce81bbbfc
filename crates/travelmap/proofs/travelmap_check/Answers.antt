-- `travelmap::travelmap_check` meets its contract: the verdict of the check is packed.
use Rattle.travelmap.proofs.Passing.{check_place, check_packed}
use Rattle.travelmap.proofs.travelmap_check.Goals as goal

pub pack_verdict-requires : goal.pack_verdict-requires
pack_verdict-requires c = check_place _ _ c.check.ensures

pub returns : goal.returns
returns c = check_packed _ _ _ c.check.ensures c.pack_verdict.ensures
