-- `boxes::good_ends` meets its contract: the three axes, one after the other.
use mathlib.Core.Path.{◌∙◌}
use Rattle.std.proofs.Common.{pos, get_or, rules, tests}
use Rattle.std.proofs.lemmas.Iterator.{YieldsList-from_slice}
use Rattle.std.proofs.lemmas.Iterator.Search.{all_from_yields_List}
use Rattle.boxes.specs.Box.{good_end}
use Rattle.boxes.proofs.Ends.{good_all}
use Rattle.boxes.proofs.good_ends.Goals as goal

pub returns : goal.returns
returns c =
    all_from_yields_List (λ e. good_end (get_or e 0 (pos 0)) (get_or e 1 (pos 0))) _ _ _ c.all.ensures.ran (YieldsList-from_slice c.args.ends cc)
    (λ x b q k. search (rules, tests)) ∙
    good_all c.args.ends (search rules)
