-- `boxes::good_end` meets its contract: the comparisons of the shifted numbers.
use mathlib.Core.Path.{◌∙◌, ap}
use Rattle.std.proofs.Common.{arith}
use Rattle.std.proofs.lemmas.Bool.Decides.{nat_tests}
use Rattle.codes.specs.Lift.{lifted}
use Rattle.codes.proofs.Laws.{read_back}
use Rattle.boxes.proofs.Ends.{good_lifted}
use Rattle.boxes.proofs.good_end.Goals as goal

pub returns-else-from-to : goal.returns-else-from-to
returns-else-from-to c =
    let from = c.lift-from.ensures ∙ ap lifted (read_back c.args.low c.ranges.low.sfits) in
    let to = c.lift-to.ensures ∙ ap lifted (read_back c.args.high c.ranges.high.sfits) in
    let tests = good_lifted c.args.low c.args.high c.ranges.low c.ranges.high from to in
    grind (arith, nat_tests)
