-- `asks::cell_permitted` meets its contract: the check's verdict and the parity of the vertices at or below the cell decide.
use Rattle.std.proofs.lemmas.Result.{err_from_is_err_and}
use Rattle.asks.proofs.Answers.{cell_refused, cell_said}
use Rattle.asks.proofs.cell_permitted.Goals as goal

pub returns-in_err-check : goal.returns-in_err-check
returns-in_err-check c =
    let p = err_from_is_err_and c.from_residual.result c.from_residual.ensures.1 in
    rw (p.1, p.2) (cell_refused _ _ _ c.in_err-check.ensures)

-- what the pass says is whether the cell is permitted
pub returns : goal.returns
returns c = cell_said _ _ _ c.in_ok-check.ensures c.parity.ensures
