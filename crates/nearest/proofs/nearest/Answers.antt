-- `nearest` meets its contract: what the check refuses, and then what the map answers.
use Rattle.std.proofs.lemmas.Result.{err_from_is_err_and}
use Rattle.nearest.proofs.Promise.{answered_refused}
use Rattle.nearest.proofs.nearest.Goals as goal

pub returns-in_err-of : goal.returns-in_err-of
returns-in_err-of c =
    let p = err_from_is_err_and c.from_residual.result c.from_residual.ensures.1 in
    rw (p.1, p.2) (answered_refused _ _ _ c.in_err-of.ensures.err)
