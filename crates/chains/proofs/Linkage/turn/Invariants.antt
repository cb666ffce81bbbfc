-- `chains::Linkage::turn` meets its contract. The loop's invariant: what was turned, with what is left of the chain, is the whole. Assumes nothing.
use Rattle.chains.proofs.Walks.{Walked}
use Rattle.chains.proofs.Linkage.turn.Given as goal

abbrev pub invariant-loop-place : goal.invariant-loop-place
invariant-loop-place l = Walked l.self.keys.now l.last l.initial.flags l.flags l.count l.at

abbrev pub decreases-loop-place : goal.decreases-loop-place
decreases-loop-place l = l.at
