-- `lists::Corners::all_rise` meets its contract. The loop's invariant is the state of the pass over neighbouring keys.
use Rattle.lists.proofs.Rising.{Risen}
use Rattle.lists.proofs.corners.Corners.all_rise.Given as goal

abbrev pub invariant-loop-i : goal.invariant-loop-i
invariant-loop-i l = Risen l.self.list.now l.good l.last l.i
