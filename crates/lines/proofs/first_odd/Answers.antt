-- `lines::first_odd` meets its contract: counting, the table or the chains answer. Assumes nothing.
use mathlib.Core.Path.{refl, ◌∙◌}
use Rattle.meaning.proofs.First.{first_none}
use Rattle.lines.proofs.Counting.{first_position}
use Rattle.lines.proofs.first_odd.Goals as goal

pub returns-then-keys-le-FEW : goal.returns-then-keys-le-FEW
returns-then-keys-le-FEW c = c.first_by_counting.ensures ∙ first_position _ c.args.keys.now

pub returns-then-shown_even : goal.returns-then-shown_even
returns-then-shown_even c = first_none _ _ refl (c.shown_even.ensures c.if-shown_even.true)
