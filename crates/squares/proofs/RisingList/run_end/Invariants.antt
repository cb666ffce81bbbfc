-- `RisingList::run_end` meets its contract: the run goes on while the numbers lie within a unit of its first high part.
use Rattle.rising.specs.Merged.{less_base}
use Rattle.cells.specs.Cells.{high, Run}
use Rattle.squares.proofs.RisingList.run_end.Given as goal

abbrev pub invariant-loop-e : goal.invariant-loop-e
invariant-loop-e l = Run (high l.unit) (less_base l.self.base l.self.list.now) l.i l.e
