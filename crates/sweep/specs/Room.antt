-- Inner: two valid lists joined in working room.
--   Filled, InRoom     a list at the front of a result that has room for a given number of vertices; the same of an operation's list
use Rattle.std.specs.Prelude.{◌≡◌, Option, None, Some, List, ◌++◌, ℕ, ◌*◌, ◌≤◌, ◌<◌, ℤ, length, drop}
use Rattle.std.proofs.Math.Option.{some}
use Rattle.meaning.specs.declared.Corner.{Corner}
use Rattle.meaning.specs.Lists.{numbers}
use Rattle.meaning.specs.Operations.{Operation, operation, joined_list}

-- r is the list's length where the list fits, and the list stands at the front; else r is none, and nothing is written
pub record Filled (l : List Corner) (most : ℕ) (before : List ℤ) (r : Option ℕ) (after : List ℤ) : Type 0 where
  pub fits : length l ≤ most → (r ≡ Some (length l)) × (after ≡ numbers l ++ drop (3 * length l) before)
  pub short : most < length l → (r ≡ None) × (after ≡ before)

abbrev pub InRoom : ℕ → List ℤ → List ℤ → ℕ → List ℤ → Option ℕ → List ℤ → Type 0
InRoom op a b most before r after = (o : Operation) → operation op ≡ some o → Filled (joined_list o a b) most before r after
