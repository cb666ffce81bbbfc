-- `keys::write_corner` meets its contract: the three numbers stand where they are written.
use Rattle.keys.proofs.Filling.{stored, three}
use Rattle.keys.proofs.write_corner.Goals as goal

pub returns : goal.returns
returns c =
    let ok = c.requires.key_ok in
    three c.args.out.now c.requires.room (stored _ _ ok.0 c.number_of.ensures) (stored _ _ ok.1.0 c.number_of-2.ensures)
    (stored _ _ ok.1.1 c.number_of-3.ensures)
