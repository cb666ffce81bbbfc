-- `lines::first_by_counting` meets its contract: a search by position. Assumes nothing.
use mathlib.Core.Path.{◌≡◌, ◌∙◌, ap}
use lib.ListN.{length}
use lib.Dec.{eqb}
use Rattle.std.proofs.Common.{rules, tests, unwrap_or, position}
use Rattle.std.proofs.lemmas.Iterator.{YieldsList-from_slice}
use Rattle.std.proofs.lemmas.Iterator.Search.{position_from_yields_List}
use Rattle.meaning.specs.Counting.{count, odd}
use Rattle.lines.proofs.first_by_counting.Goals as goal

pub returns : goal.returns
returns c =
    let keys = c.args.keys.now in
    let found : c.position.result ≡ position (λ key. odd (count (λ k. eqb key k) keys)) keys =
    position_from_yields_List (λ key. odd (count (λ k. eqb key k) keys)) _ _ c.position.result c.position.ensures.ran
    (YieldsList-from_slice keys c.iter.ensures.rest) (λ x b q k. search (rules, tests)) in
    c.unwrap_or.ensures ∙ ap (λ o. unwrap_or o (length keys)) found
