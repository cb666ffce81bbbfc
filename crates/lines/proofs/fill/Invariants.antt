-- `lines::fill` meets its contract: the table holds what occurs an odd number of times among the keys read so far. Assumes nothing.
use lib.ListN.{take}
use Rattle.lines.specs.Table.{Holds}
use Rattle.lines.proofs.fill.Given as goal

abbrev pub invariant-loop-key : goal.invariant-loop-key
invariant-loop-key l = Holds l.table (take l.key-index l.keys)
