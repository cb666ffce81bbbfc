-- `toggle` meets its contract: one word, turned at one place.
use Rattle.cells.proofs.Bits.{toggled}
use Rattle.cells.proofs.toggle.Goals as goal

pub returns : goal.returns
returns c = toggled c.args.at c.args.row.now c.requires
