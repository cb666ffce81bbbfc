-- `lines::flip` meets its contract: the table stays as it was until the one store, which flips the key. Assumes nothing.
use mathlib.Core.Path.{◌≡◌}
use Prim.Native.Nat.{◌<◌}
use lib.ListN.{length}
use Rattle.lines.proofs.flip.Given as goal

abbrev pub invariant-loop : goal.invariant-loop
invariant-loop l = (l.at < length l.table) × (l.table ≡ l.initial.table)
