-- `lists::Corners::first_falling` meets its contract. The loop's invariant: every vertex passed stands above the one before it.
use mathlib.Core.Path.{◌≡◌}
use mathlib.Core.Bool.{false}
use Prim.Native.Nat.{ℕ, ◌<◌}
use Rattle.meaning.specs.Lists.{vertices}
use Rattle.meaning.specs.Verdicts.{falls_at}
use Rattle.lists.proofs.corners.Corners.first_falling.Given as goal

abbrev pub invariant-loop-i : goal.invariant-loop-i
invariant-loop-i l = (k : ℕ) → k < l.i → falls_at (vertices l.self.list.now) k ≡ false
