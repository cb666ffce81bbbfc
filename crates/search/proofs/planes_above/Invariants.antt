-- `planes_above` meets its contract: each turn one plane upward, and its own pairs.
use Prim.Native.Nat.{◌-◌, ◌≤◌}
use lib.ListN.{length}
use Rattle.cells.specs.Cells.{section_in, plane_unit, high, high_at}
use Rattle.squares.proofs.Walk.{Passed}
use Rattle.search.proofs.planes_above.Given as goal

abbrev pub invariant-loop-i : goal.invariant-loop-i
invariant-loop-i l = Passed plane_unit l.scales.focus (section_in l.scales.first l.scales.second) l.keys 0 (high_at (high plane_unit) l.keys l.place) l.best l.i l.found × (l.place ≤ l.i)

abbrev pub decreases-loop-i : goal.decreases-loop-i
decreases-loop-i l = length l.keys - l.i
