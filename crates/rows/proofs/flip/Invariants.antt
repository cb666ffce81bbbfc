-- `rows::flip` meets its contract: the word of the place turned from there on, and all words behind it.
use Rattle.rows.proofs.Flips.{Turned}
use Rattle.rows.proofs.flip.Given as goal

abbrev pub invariant-loop-word : goal.invariant-loop-word
invariant-loop-word l = Turned l.initial.word-items l.word-items l.word-index
