-- `chains::link` meets its contract. The loop's invariant: the places passed are linked. Assumes nothing.
use Rattle.chains.proofs.Links.{Linking}
use Rattle.chains.proofs.link.Given as goal

abbrev pub invariant-loop-i : goal.invariant-loop-i
invariant-loop-i l = Linking l.keys l.heads l.links l.i
