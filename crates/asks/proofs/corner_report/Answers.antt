-- `asks::corner_report` meets its contract: the check's verdict, the mask of one pass, its ones and its kind.
use Rattle.std.proofs.lemmas.Result.{err_from_is_err_and}
use Rattle.asks.proofs.Answers.{corner_refused, corner_said}
use Rattle.asks.proofs.corner_report.Goals as goal

pub returns-in_err-check : goal.returns-in_err-check
returns-in_err-check c =
    let p = err_from_is_err_and c.from_residual.result c.from_residual.ensures.1 in
    rw (p.1, p.2) (corner_refused _ _ _ c.in_err-check.ensures)

-- the mask of the pass is the corner's
pub returns : goal.returns
returns c = corner_said _ _ _ _ _ c.in_ok-check.ensures c.mask_round-mask.ensures c.count_of.ensures c.kind_of.ensures
