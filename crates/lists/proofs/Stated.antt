-- Laws that docs/PORT.md names and that no proof cites.
--   refused_not     a verdict that is a refusal does not pass
--   at_number       the place of each of the three numbers of a vertex is within the list
use mathlib.Core.Path.{◌≡◌, refl}
use mathlib.Core.Bool.{true, false, false≢true}
use mathlib.Core.List.{List}
use Prim.Native.Nat.{ℕ, ◌+◌, ◌*◌, ◌<◌}
use native.Mathlib.Omega.{arith}
use lib.IntN.{ℤ}
use lib.ListN.{length}
use Rattle.std.specs.Prelude.{Ok, Err, is_err}
use Rattle.meaning.specs.Lists.{vertices}
use Rattle.meaning.specs.Verdicts.{Verdict, passes}
use Rattle.lists.proofs.Vertices.{length_vertices}

pub refused_not : (v : Verdict) → is_err v ≡ true → passes v ≡ false
refused_not (Ok u) h = absurd (false≢true h)
refused_not (Err r) h = refl

pub at_number : (ns : List ℤ) (i a : ℕ) → i < length (vertices ns) → a < 3 → 3 * i + a < length ns
at_number ns i a h k = omega (arith, length_vertices ns)
