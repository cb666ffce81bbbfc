-- `lines::occurs_oddly` meets its contract: an exclusive or over the keys read so far. Assumes nothing.
use mathlib.Core.Path.{◌≡◌}
use lib.Dec.{eqb}
use lib.ListN.{take}
use Rattle.meaning.specs.Counting.{count, odd}
use Rattle.lines.proofs.occurs_oddly.Given as goal

abbrev pub invariant-loop-k : goal.invariant-loop-k
invariant-loop-k l = l.oddly ≡ odd (count (λ k. eqb l.key k) (take l.k-index l.keys))
