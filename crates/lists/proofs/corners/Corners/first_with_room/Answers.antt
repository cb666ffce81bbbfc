-- `lists::Corners::first_with_room` meets its contract: the least of the three axes' places, or 0 as soon as one of them is.
use mathlib.Core.Path.{refl, sym, ap, ◌∙◌}
use Prim.Native.Nat.{min}
use Rattle.meaning.specs.Numbers.{focus, first, second}
use Rattle.meaning.specs.Lists.{vertices}
use Rattle.lists.proofs.Lines.{first_at_start, first_of_three}
use Rattle.lists.proofs.corners.Corners.first_with_room.Goals as goal

pub returns-then-along_second-eq0 : goal.returns-then-along_second-eq0
returns-then-along_second-eq0 c =
    first_at_start second (vertices c.args.self.list.now) (sym c.if-along_second-eq0.true ∙ c.first_along_second-along_second.ensures)

pub returns-then-along_focus-eq0 : goal.returns-then-along_focus-eq0
returns-then-along_focus-eq0 c =
    let along_focus = c.first_odd_pair-along_focus.ensures focus (refl, refl) in
    first_at_start focus (vertices c.args.self.list.now) (sym c.if-along_focus-eq0.true ∙ along_focus)

pub returns : goal.returns
returns c =
    c.min-2.ensures ∙
    ap (min c.first_odd_pair-along_focus.result) c.min.ensures ∙
    first_of_three (vertices c.args.self.list.now) _ _ _
    (c.first_odd_pair-along_focus.ensures focus (refl, refl)) (c.first_odd_pair-along_first.ensures first (refl, refl))
    c.first_along_second-along_second.ensures
