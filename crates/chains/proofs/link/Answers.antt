-- `chains::link` meets its contract. The loop's invariant: the places passed are linked. Assumes nothing.
use Rattle.meaning.specs.Lists.{most_vertices}
use Rattle.chains.proofs.Links.{linking_first, linking_next}
use borrow.Author.Rules.{rules}
use Rattle.chains.proofs.link.Goals as goal

pub loop-i-init : goal.loop-i-init
loop-i-init c = linking_first _ _ _ c.requires.heads_len c.requires.empty_heads

pub overflow_cast-heads : goal.overflow_cast-heads
unfolding most_vertices
overflow_cast-heads c = search rules

pub loop-i-preserved : goal.loop-i-preserved
loop-i-preserved c = let high = c.high_at-high.ensures in linking_next c.loop-i.invariant c.loop-i-test.true high.1 high.0
