-- `turn::take_in` meets its contract: a plane without keys leaves the section as it is.
use Rattle.turn.proofs.Pieces.{took_none}
use Rattle.turn.proofs.take_in.Goals as goal

pub returns-then-i-e : goal.returns-then-i-e
returns-then-i-e c =
    let p = c.requires in
    took_none _ _ _ _ _ _ p.n_in_bounds.0 p.n_in_bounds.1 p.n_in_bounds.2 c.if-i-e.true
