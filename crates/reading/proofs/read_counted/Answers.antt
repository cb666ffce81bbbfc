-- `reading::read_counted` meets its contract: the first check that fails says what follows the count.
use mathlib.Core.Path.{◌≡◌, sym, ap, ◌∙◌}
use Prim.Native.Nat.{◌*◌, ◌≤◌}
use native.Mathlib.Omega.{arith}
use lib.ListN.{take}
use Rattle.std.specs.Prelude.{Some}
use Rattle.std.proofs.lemmas.Result.{err_from_is_err_and}
use Rattle.meaning.specs.Lists.{most_vertices}
use Rattle.meaning.specs.Verdicts.{verdict}
use Rattle.lists.proofs.Verdicts.{checked_verdict}
use Rattle.reading.specs.Reading.{closing_sum, by_verdict, counted}
use Rattle.reading.proofs.Runs.{all_read}
use Rattle.reading.proofs.Order.{most_vertices_lem, some_of_ok, sum_right}
use Rattle.reading.proofs.read_counted.Goals as goal
use Rattle.reading.proofs.read_counted.Goals.{After-check}

-- all vertices are read, and the closing line holds their sum: what follows is the verdict
by_sum : (f : After-check)
    → let ns = take (3 * f.from-n.result) f.frames_from-ill.new.list in by_verdict ns (verdict ns) ≡ counted f.args.s.now (Some f.args.count)
by_sum f =
    let ill = f.frames_from-ill in
    let n = f.from-n.result in
    let is : n ≡ f.args.count = omega arith in
    let few : n ≤ most_vertices = omega (arith, most_vertices_lem) in
    sum_right f.args.s.now n few ill.ensures.value (omega arith) (some_of_ok _ _ _ f.in_ok-sum.ensures.value ∙ f.number_at.ensures)
    (all_read _ _ _ n _ ill.ensures.value (omega arith) ill.ensures.list_after)
    (omega arith ∙ f.closing_sum.ensures ∙ ap (λ k. closing_sum k (take (3 * n) ill.new.list)) (sym is)) ∙
    ap (λ k. counted f.args.s.now (Some k)) is

pub returns-in_err-check-clause-list_after : goal.returns-in_err-check-clause-list_after
returns-in_err-check-clause-list_after c =
    let p = err_from_is_err_and c.from_residual-in_err-check.result c.from_residual-in_err-check.ensures.1 in
    let sum = by_sum (goal.at.returns-in_err-check-clause-list_after c).After-check in
    rw (p.1, p.2) (ap (by_verdict _) (checked_verdict _ _ c.in_err-check.ensures) ∙ sum)

pub returns-clause-list_after : goal.returns-clause-list_after
returns-clause-list_after c =
    ap (by_verdict _) (checked_verdict _ _ c.in_ok-check.ensures) ∙ by_sum (goal.at.returns-clause-list_after c).After-check
