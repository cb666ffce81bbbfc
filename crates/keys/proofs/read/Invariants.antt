-- `keys::read` meets its contract: each turn writes the key of the next vertex.
use Rattle.keys.proofs.Filling.{Reading}
use Rattle.keys.proofs.read.Given as goal

abbrev pub invariant-loop-i : goal.invariant-loop-i
invariant-loop-i l = Reading l.list l.initial.out l.out l.i
