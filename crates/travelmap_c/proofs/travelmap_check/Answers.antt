use Rattle.travelmap_c.proofs.travelmap_check.Goals as goal

pub returns : goal.returns
returns c = c.travelmap_check.ensures
