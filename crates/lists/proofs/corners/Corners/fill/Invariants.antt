-- `lists::Corners::fill` meets its contract. The loop's invariant: the places passed hold their vertices' numbers.
use Rattle.lists.specs.Check.{Filled}
use Rattle.lists.proofs.corners.Corners.fill.Given as goal

abbrev pub invariant-loop-i : goal.invariant-loop-i
invariant-loop-i l = Filled l.self.list.now l.pair.a l.pair.b l.i l.keys
