-- `travelmap::travelmap_box` meets its contract: the answer of making a box is packed.
use Rattle.travelmap.proofs.Passing.{box_packed}
use Rattle.travelmap.proofs.travelmap_box.Goals as goal

pub returns : goal.returns
returns c =
    let a = c.args in
    let f = c.ranges in
    box_packed a.focus_low a.focus_high a.first_low a.first_high a.second_low a.second_high
    f.focus_low f.focus_high f.first_low f.first_high f.second_low f.second_high
    _ _ _ _ c.make_box.ensures c.pack_box.ensures
