-- `cuts::split` meets its promise, case by case.
use Rattle.std.proofs.lemmas.Result.{err_from_is_err_and}
use Rattle.cuts.proofs.Promises.{crossed_lem, split_bad, split_refused, split_made}
use Rattle.cuts.proofs.split.Goals as goal

pub returns-then-not-in_range : goal.returns-then-not-in_range
returns-then-not-in_range c = split_bad _ _ _ _ _ (crossed_lem _ c.ranges.at c.lift-u.ensures) c.in_range.ensures c.if-not-in_range.true

pub returns-in_err-map : goal.returns-in_err-map
returns-in_err-map c =
    let p = err_from_is_err_and c.from_residual.result c.from_residual.ensures.1 in
    rw (p.1, p.2)
    (split_refused _ _ _ _ _ (crossed_lem _ c.ranges.at c.lift-u.ensures) c.in_range.ensures c.if-not-in_range.false _ c.in_err-map.ensures.err)

pub returns-then-map : goal.returns-then-map
returns-then-map c =
    split_made _ _ _ _ _ (crossed_lem _ c.ranges.at c.lift-u.ensures) c.in_range.ensures c.if-not-in_range.false c.in_ok-map.map.passes c.in_ok-map.ensures.ok
    _ _ _ c.split_of.ensures

pub returns : goal.returns
returns c =
    split_made _ _ _ _ _ (crossed_lem _ c.ranges.at c.lift-u.ensures) c.in_range.ensures c.if-not-in_range.false c.in_ok-map.map.passes c.in_ok-map.ensures.ok
    _ _ _ c.split_of-2.ensures
