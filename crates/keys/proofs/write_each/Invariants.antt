-- `keys::write_each` meets its contract: each turn writes the numbers of the next key.
use mathlib.Core.List.{List}
use Prim.Native.Nat.{ℕ, ◌*◌}
use lib.IntN.{ℤ}
use lib.ListN.{drop}
use Rattle.rising.proofs.Written.{Written}
use Rattle.keys.specs.Spelled.{Spells}
use Rattle.keys.proofs.write_each.Given as goal

abbrev pub invariant-loop-i : goal.invariant-loop-i
invariant-loop-i g l =
    (spell : List ℕ → List ℤ) → Spells g.F.Fn l.write_one spell → Written (spell l.keys) (spell (drop l.i l.keys)) l.initial.out l.out (g.row.WIDTH * l.i)
