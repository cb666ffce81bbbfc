use Rattle.travelmap_c.proofs.travelmap_nearest_each.Goals as goal

pub returns : goal.returns
returns c = c.travelmap_nearest_each.ensures
