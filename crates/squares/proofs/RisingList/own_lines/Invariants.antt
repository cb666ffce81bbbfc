-- `RisingList::own_lines` meets its contract: each turn one line, and its own numbers.
use Prim.Native.Nat.{◌-◌}
use lib.ListN.{length}
use Rattle.rising.specs.Merged.{less_base}
use Rattle.cells.specs.Cells.{line_in, line_unit}
use Rattle.squares.proofs.Walk.{Passed}
use Rattle.squares.proofs.RisingList.own_lines.Given as goal

abbrev pub invariant-loop-i : goal.invariant-loop-i
invariant-loop-i l = Passed line_unit l.scales.first (line_in l.scales.second) (less_base l.self.base l.self.list.now) l.rank 0 l.best l.i l.found

abbrev pub decreases-loop-i : goal.decreases-loop-i
decreases-loop-i l = length l.self.list.now - l.i
