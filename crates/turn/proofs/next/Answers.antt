use Rattle.turn.proofs.Pieces.{advanced}
use Rattle.turn.proofs.next.Goals as goal

pub returns : goal.returns
returns c =
    advanced _ c.requires.stride_nonzero.0 _ _ _ _ _ _ _ c.least-key.ensures c.run.ensures c.run-2.ensures
