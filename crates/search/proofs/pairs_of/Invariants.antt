-- `pairs_of` meets its contract: each turn writes the next pair, and then they are brought to order.
use mathlib.Core.List.{map}
use Rattle.rising.proofs.Written.{Filling}
use Rattle.cells.specs.Cells.{rest, plane_unit}
use Rattle.search.proofs.pairs_of.Given as goal

abbrev pub invariant-loop-n : goal.invariant-loop-n
invariant-loop-n l = Filling (map (rest plane_unit)) l.keys l.initial.room l.room l.n l.n
