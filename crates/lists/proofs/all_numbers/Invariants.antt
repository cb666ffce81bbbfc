-- `lists::all_numbers` meets its contract. The loop's invariant: where the flag is up, every number passed is a corner number.
use mathlib.Core.Path.{◌≡◌}
use mathlib.Core.Bool.{true}
use Prim.Native.Nat.{ℕ, ◌<◌}
use lib.IntN.{pos}
use lib.ListN.{get_or}
use Rattle.meaning.specs.Numbers.{is_number}
use Rattle.lists.proofs.all_numbers.Given as goal

abbrev pub invariant-loop-x : goal.invariant-loop-x
invariant-loop-x l = l.good ≡ true → (k : ℕ) → k < l.x-index → is_number (get_or l.list k (pos 0)) ≡ true
