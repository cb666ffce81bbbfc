-- `reading::read_wishes` meets its contract: a line that is ill formed; or all of them.
use mathlib.Core.Path.{◌≡◌, ap, ◌∙◌}
use Prim.Native.Nat.{min}
use native.Mathlib.Omega.{arith}
use Rattle.meaning.specs.Counting.{first}
use Rattle.reading.specs.Reading.{wish_tag, ill_at, wish_place, wish_lines}
use Rattle.reading.proofs.Order.{wish_ill, wish_all, wish_few}
use Rattle.reading.proofs.read_wishes.Goals as goal
use Rattle.reading.proofs.read_wishes.Goals.{After-frames_from-ill}

are_due : (f : After-frames_from-ill) → f.div_ceil-due.result ≡ wish_lines f.args.s.now f.args.n
are_due f = omega arith

-- the first ill formed line of those that can be wishes
found : (f : After-frames_from-ill) → f.frames_from-ill.result ≡ first (ill_at f.args.s.now wish_tag (wish_place f.args.n)) (min f.div_ceil-due.result 256)
found f =
    let most : f.min.result ≡ min f.div_ceil-due.result 256 = omega arith in
    f.frames_from-ill.ensures.value ∙ ap (first (ill_at f.args.s.now wish_tag (wish_place f.args.n))) most

pub returns-then-ill-due-clause-list_after : goal.returns-then-ill-due-clause-list_after
returns-then-ill-due-clause-list_after c =
    let f = (goal.at.returns-then-ill-due-clause-list_after c).After-frames_from-ill in
    wish_ill _ _ (are_due f) (found f) (omega arith)

pub returns-clause-list_after : goal.returns-clause-list_after
returns-clause-list_after c =
    let f = (goal.at.returns-clause-list_after c).After-frames_from-ill in
    wish_all _ _ (are_due f) (found f) _ (omega arith) c.frames_from-ill.ensures.list_after

pub returns-clause-at_most : goal.returns-clause-at_most
returns-clause-at_most c =
    let f = (goal.at.returns-clause-at_most c).After-frames_from-ill in
    wish_few _ _ (are_due f) (found f) (omega arith)
