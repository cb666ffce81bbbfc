-- `chains::Linkage::first_odd` meets its contract. The loop's invariant: the chains that end before the present place have been looked at.
use Rattle.chains.proofs.Chains.{covered_none, covered_all}
use Rattle.chains.proofs.Linkage.first_odd.Goals as goal

pub loop-place-init : goal.loop-place-init
loop-place-init c = (covered_none _, c.requires.1)

pub returns : goal.returns
returns c = covered_all c.loop-place.invariant.0 c.loop-place-test.false
