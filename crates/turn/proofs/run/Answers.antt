-- `turn::run` meets its contract: as many keys as pass the limit's test stand behind place i.
use mathlib.Core.Path.{◌∙◌}
use Prim.Native.Nat.{ℕ, ◌-◌}
use lib.Dec.{ltb}
use lib.ListN.{length, drop, length-drop}
use Rattle.std.proofs.Common.{rules, tests, arith}
use Rattle.std.proofs.lemmas.Iterator.{YieldsList-from_slice}
use Rattle.std.proofs.lemmas.Iterator.Consumers.{YieldsList-at, count_from_yields_List}
use Rattle.std.proofs.lemmas.Iterator.Search.{YieldsList-from_take_while}
use Rattle.std.proofs.lemmas.List.{take_all}
use Rattle.std.proofs.lemmas.List.Folds.{length-prefix_len}
use Rattle.turn.proofs.Pieces.{run_counted}
use Rattle.turn.proofs.run.Goals as goal

pub returns : goal.returns
returns c =
    let keys = drop c.args.i c.args.keys.now in
    let below = λ (k : ℕ). ltb k c.args.limit in
    let ensures = c.take_while.ensures in
    let whole = take_all (length c.args.keys.now - c.args.i) keys (omega (arith, length-drop c.args.i c.args.keys.now)) in
    run_counted _ _ _ _ c.requires.i_in_bounds c.requires.from
    (count_from_yields_List c.take_while.result _ c.count.ensures.ran
    (YieldsList-from_take_while _ below (YieldsList-at ensures.source (YieldsList-from_slice keys (c.iter.ensures.rest ∙ whole)))
    ensures.closure ensures.done (λ x r q k. search (rules, tests)))
    ∙ length-prefix_len below keys)
