-- `asks::pass::mask_round` meets its contract: each vertex turns the cells that it is at or below.
use mathlib.Core.Path.{◌∙◌, ap}
use Rattle.std.proofs.Common.{rules}
use Rattle.std.proofs.lemmas.Iterator.{YieldsList-from_slice}
use Rattle.std.proofs.lemmas.Iterator.Consumers.{fold_from_yields_List}
use Rattle.meaning.specs.Lists.{permitted, mask}
use Rattle.asks.proofs.Masks.{masked_by, masked_all}
use Rattle.asks.proofs.pass.mask_round.Goals as goal

pub returns : goal.returns
returns c =
    let at = c.args.corner in
    fold_from_yields_List _ (masked_by at) 0 c.fold.result c.fold.ensures.ran (YieldsList-from_slice _ c.iter.ensures.rest) (λ a x b q k. search rules)
    ∙ masked_all at _
    ∙ ap (λ l. mask (permitted l) at) c.vertices_of.ensures
