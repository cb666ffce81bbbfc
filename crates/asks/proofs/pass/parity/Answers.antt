-- `asks::pass::parity` meets its contract: each vertex at or below the cell turns the answer.
use mathlib.Core.Path.{◌∙◌, ap}
use mathlib.Core.Bool.{false}
use Rattle.std.proofs.Common.{rules}
use Rattle.std.proofs.lemmas.Iterator.{YieldsList-from_slice}
use Rattle.std.proofs.lemmas.Iterator.Consumers.{fold_from_yields_List}
use Rattle.meaning.specs.Lists.{permitted}
use Rattle.asks.proofs.Passes.{turned_by, turned_all}
use Rattle.asks.proofs.pass.parity.Goals as goal

pub returns : goal.returns
returns c =
    let at = c.args.cell in
    fold_from_yields_List _ (turned_by at) false c.fold.result c.fold.ensures.ran (YieldsList-from_slice _ c.iter.ensures.rest) (λ a x b q k. search rules)
    ∙ turned_all at _ false
    ∙ ap (λ l. permitted l at) c.vertices_of.ensures
