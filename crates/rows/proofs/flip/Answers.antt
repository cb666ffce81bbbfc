-- `rows::flip` meets its contract: the word of the place turned from there on, and all words behind it.
use Rattle.rows.proofs.Flips.{turned_none, turned_one, flipped}
use Rattle.rows.proofs.flip.Goals as goal

pub loop-word-init : goal.loop-word-init
loop-word-init c = turned_none

pub loop-word-preserved : goal.loop-word-preserved
loop-word-preserved c = turned_one c.loop-word.invariant c.loop-word-test.true

pub returns : goal.returns
returns c = flipped c.args.at c.args.row.now _ _ c.requires c.loop-word.invariant c.loop-word-test.false
