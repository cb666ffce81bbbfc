use Rattle.travelmap_c.proofs.travelmap_join.Goals as goal

pub returns : goal.returns
returns c = c.travelmap_join.ensures
