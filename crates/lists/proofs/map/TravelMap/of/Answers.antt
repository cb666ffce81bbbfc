-- `lists::TravelMap::of` meets its contract: what the check answers is the verdict.
use Rattle.std.proofs.Common.{rules}
use Rattle.lists.proofs.Verdicts.{checked_verdict}
use Rattle.lists.proofs.map.TravelMap.of.Goals as goal

pub returns-in_err-check-clause-err : goal.returns-in_err-check-clause-err
returns-in_err-check-clause-err c = let e = checked_verdict c.args.list.now c.check.result c.check.ensures in search rules

pub invariant_of-result : goal.invariant_of-result
invariant_of-result c = let e = checked_verdict c.args.list.now c.check.result c.check.ensures in search rules
