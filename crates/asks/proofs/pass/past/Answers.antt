-- `asks::pass::past` meets its contract: as many vertices are passed as lie below the bound before the first that does not.
use mathlib.Core.Path.{◌∙◌, ap}
use Prim.Native.Nat.{◌+◌, ◌-◌, ◌*◌}
use native.Mathlib.Omega.{arith}
use lib.ListN.{length, drop, length-drop}
use Rattle.std.proofs.Common.{rules, tests}
use Rattle.std.proofs.lemmas.Iterator.{YieldsList-from_slice}
use Rattle.std.proofs.lemmas.Iterator.Consumers.{YieldsList-at, count_from_yields_List}
use Rattle.std.proofs.lemmas.Iterator.Search.{YieldsList-from_take_while}
use Rattle.std.proofs.lemmas.List.{take_all}
use Rattle.std.proofs.lemmas.List.Folds.{length-prefix_len}
use Rattle.meaning.specs.Lists.{vertices}
use Rattle.asks.specs.Passes.{under, leading}
use Rattle.asks.proofs.Planes.{first_below, passed_all}
use Rattle.asks.proofs.pass.past.Goals as goal

pub returns : goal.returns
returns c =
    let below = first_below c.args.bound in
    let list = c.args.list.now in
    let from = c.args.from in
    let ensures = c.take_while.ensures in
    let whole = take_all (length list - from) (drop from list) (omega (arith, length-drop from list)) in
    ap (λ n. from + 3 * n)
    (count_from_yields_List c.take_while.result _ c.count-passed.ensures.ran
    (YieldsList-from_take_while _ below (YieldsList-at ensures.source (YieldsList-from_slice _ c.iter.ensures.rest))
    ensures.closure ensures.done (λ x r q k. search (rules, tests)))
    ∙ length-prefix_len below _
    ∙ passed_all c.args.bound _
    ∙ ap (leading (under c.args.bound)) (c.vertices_of.ensures ∙ ap vertices whole))
