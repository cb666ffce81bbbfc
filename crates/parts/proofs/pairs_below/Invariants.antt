-- `parts::pairs_below` meets its contract: each turn takes the next key's pair, or leaves it.
use Rattle.keys.specs.Parts.{axis_at}
use Rattle.parts.specs.Axes.{pairs_below}
use Rattle.rising.proofs.Written.{Filling}
use Rattle.parts.proofs.pairs_below.Given as goal

abbrev pub invariant-loop-key : goal.invariant-loop-key
invariant-loop-key l = Filling (pairs_below (axis_at l.axis) l.cut) l.keys l.initial.out l.out l.key-index l.n
