-- `travelmap::travelmap_split` meets its contract: the answer of the split is packed, and the contents of both results at exit are those of the split.
use Rattle.travelmap.proofs.Passing.{split_fits, split_packed}
use Rattle.travelmap.proofs.travelmap_split.Goals as goal

pub pack_split-requires : goal.pack_split-requires
pack_split-requires c = split_fits _ _ _ _ _ _ _ _ c.split.ensures

pub returns : goal.returns
returns c =
    split_packed _ _ _ _ _ _ _ _ _ c.ranges.at c.split.ensures c.pack_split.ensures
