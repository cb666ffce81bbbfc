-- `lists::Corners::in_pairs` meets its contract. The loop's invariant: where the flag is up, among the vertices passed every line of the second shift is even.
use mathlib.Core.Path.{◌≡◌}
use mathlib.Core.Bool.{true}
use Prim.Native.Nat.{◌*◌}
use Rattle.chains.proofs.Parity.{Evenly}
use Rattle.lists.proofs.Lines.{line_keys}
use Rattle.lists.proofs.corners.Corners.in_pairs.Given as goal

abbrev pub invariant-loop-i : goal.invariant-loop-i
invariant-loop-i l = l.good ≡ true → Evenly (line_keys l.self.list.now) (2 * l.i)
