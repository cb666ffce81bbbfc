-- `keys::write_pair` meets its contract: the two numbers stand where they are written.
use Rattle.keys.proofs.Filling.{stored, two}
use Rattle.keys.proofs.write_pair.Goals as goal

pub returns : goal.returns
returns c = two c.args.out.now c.requires.room (stored _ _ c.requires.key_ok.0 c.number_of.ensures) (stored _ _ c.requires.key_ok.1 c.number_of-2.ensures)
