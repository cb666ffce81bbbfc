-- `chains::first_by_chains` meets its contract: new arrays are empty. Assumes nothing.
use mathlib.Core.Path.{refl}
use Rattle.meaning.specs.Lists.{most_vertices}
use Rattle.chains.proofs.Links.{no_heads}
use Rattle.chains.proofs.Flags.{ups_new}
use Rattle.chains.proofs.first_by_chains.Goals as goal

pub link-requires-clause-heads_len : goal.link-requires-clause-heads_len
unfolding most_vertices
link-requires-clause-heads_len c = (refl, c.requires.1)

pub link-requires-clause-empty_heads : goal.link-requires-clause-empty_heads
link-requires-clause-empty_heads c = no_heads 1025

pub first_odd-requires : goal.first_odd-requires
first_odd-requires c = (refl, ups_new 1025)
