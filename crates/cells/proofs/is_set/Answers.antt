-- `is_set` meets its contract: the word shifted, and its first digit.
use Rattle.cells.proofs.Bits.{set_bit}
use Rattle.cells.proofs.is_set.Goals as goal

pub returns : goal.returns
returns c = set_bit c.args.row.now c.args.at
