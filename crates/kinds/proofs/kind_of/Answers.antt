-- `kinds::kind_of` meets its contract: the rule of kinds is one test of the whole table, and `entry_rule` carries it to the mask's entry.
use borrow.Author.Rules.{rules}
use Rattle.meaning.specs.Kinds.{kind}
use Rattle.kinds.proofs.Table.{entry_rule}
use Rattle.kinds.proofs.kind_of.Goals as goal

pub returns : goal.returns
unfolding kind
returns c = search (entry_rule kind, rules)
