-- `lines::flip` meets its contract: the table stays as it was until the one store, which flips the key. Assumes nothing.
use mathlib.Core.Logic.{inl, inr}
use Rattle.lines.proofs.Table.{flipped}
use Rattle.lines.proofs.flip.Goals as goal
use Rattle.lines.proofs.flip.Goals.{then-entry-eq0-via-then-entry-eq0, then-entry-eq0-via-else-entry-eq0+then-entry-half}

pub returns-then-entry-eq0 : goal.returns-then-entry-eq0
returns-then-entry-eq0 c = λ _.
    let flips = flipped _ _ _ c.args.key c.loop.invariant.1 c.loop.invariant.0 in
    elim c.then-entry-eq0.branch [
      | then-entry-eq0-via-then-entry-eq0 w ↦ flips (inl w.if-entry-eq0.true)
      | then-entry-eq0-via-else-entry-eq0+then-entry-half w ↦ flips (inr w.if-entry-half.true)
    ]
