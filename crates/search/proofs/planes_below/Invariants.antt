-- `planes_below` meets its contract: each turn one plane downward, and its own pairs.
use Prim.Native.Nat.{◌≤◌}
use Rattle.cells.specs.Cells.{section_in, plane_unit, high, high_at}
use Rattle.search.proofs.Outwards.{Sunk}
use Rattle.search.proofs.planes_below.Given as goal

abbrev pub invariant-loop-i : goal.invariant-loop-i
invariant-loop-i l = Sunk plane_unit l.scales.focus (section_in l.scales.first l.scales.second) l.keys 0 (high_at (high plane_unit) l.keys l.place) l.best l.i l.found × (l.i ≤ l.place)

abbrev pub decreases-loop-i : goal.decreases-loop-i
decreases-loop-i l = l.i
