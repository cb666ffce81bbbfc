-- `lines::occurs_oddly` meets its contract: an exclusive or over the keys read so far. Assumes nothing.
use mathlib.Core.Bool.{xor}
use Rattle.chains.proofs.Parity.{odd_read}
use Rattle.lines.proofs.occurs_oddly.Goals as goal

pub loop-k-preserved : goal.loop-k-preserved
unfolding xor
loop-k-preserved c = odd_read _ _ _ c.loop-k-test.true c.loop-k.invariant
