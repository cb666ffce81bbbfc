-- `RisingList::upto` meets its contract: the numbers below a bound, found by halving.
use Prim.Native.Nat.{ℕ, ◌+◌, ◌-◌, ◌*◌}
use native.Mathlib.Omega.{arith}
use lib.Dec.{ltb}
use borrow.Author.Tests.{ltb-true, ltb-false}
use Rattle.std.proofs.Common.{rules}
use Rattle.std.proofs.lemmas.List.Sorted.{IsPartitionPoint-from_clause, IsPartitionedBy-ltb, IsNonDecreasingBy-from_default}
use Rattle.squares.proofs.Runs.{less_le, edge_at}
use Rattle.squares.proofs.RisingList.upto.Goals as goal

pub returns : goal.returns
returns c =
    let rises = IsNonDecreasingBy-from_default (λ (k : ℕ). k - c.args.self.base) c.args.self.list.now 0 (less_le c.args.self.base c.args.self.list.now c.args.self.rising.rising) in
    let parted = IsPartitionedBy-ltb (λ (k : ℕ). k - c.args.self.base) c.args.self.list.now ((c.args.code + 1) * c.args.unit) rises in
    let point =
    IsPartitionPoint-from_clause (λ (k : ℕ). ltb (k - c.args.self.base) ((c.args.code + 1) * c.args.unit)) _ _ c.partition_point.ensures.partitioned parted
    (λ a r q k. search rules) in
    edge_at c.args.unit c.requires.0 c.args.self.base c.args.code c.args.self.list.now c.partition_point.result c.partition_point.ensures.bound
    (λ j h. ltb-true _ _ (point.0 j 0 (omega arith) h)) (λ j h k. ltb-false _ _ (point.1 j 0 h k))
