-- `travelmap::travelmap_cell` meets its contract: the answer of the cell query is packed.
use Rattle.travelmap.proofs.Passing.{cell_fits, cell_packed}
use Rattle.travelmap.proofs.travelmap_cell.Goals as goal

pub pack_cell-requires : goal.pack_cell-requires
pack_cell-requires c = cell_fits _ _ _ c.cell_permitted.ensures

pub returns : goal.returns
returns c =
    let f = c.ranges in
    cell_packed _ _ _ _ f.focus f.first f.second _ _ c.cell_permitted.ensures c.pack_cell.ensures
