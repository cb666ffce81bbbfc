-- `lines::fill` meets its contract: the table holds what occurs an odd number of times among the keys read so far. Assumes nothing.
use Rattle.lines.proofs.Table.{holds_next}
use Rattle.lines.proofs.fill.Goals as goal

pub loop-key-preserved : goal.loop-key-preserved
loop-key-preserved c = holds_next _ _ _ _ c.loop-key-test.true c.loop-key.invariant (c.flip.ensures c.if-not-flip.false)
