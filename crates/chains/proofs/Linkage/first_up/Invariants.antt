-- `chains::Linkage::first_up` meets its contract. The loop's invariant: the places of the chain from here on have been looked at. Assumes nothing.
use Rattle.chains.specs.Chains.{flagged}
use Rattle.chains.proofs.Walks.{Searched}
use Rattle.chains.proofs.Linkage.first_up.Given as goal

abbrev pub invariant-loop-place : goal.invariant-loop-place
invariant-loop-place l = Searched l.self.keys.now l.last (flagged l.self.keys.now l.flags) l.found l.at

abbrev pub decreases-loop-place : goal.decreases-loop-place
decreases-loop-place l = l.at
