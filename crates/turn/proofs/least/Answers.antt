use native.Mathlib.Omega.{arith}
use Rattle.turn.proofs.Pieces.{least_a, least_b, least_both}
use borrow.Author.Rules.{rules}
use Rattle.turn.proofs.least.Goals as goal

pub returns-then-i-a : goal.returns-then-i-a
returns-then-i-a c = least_b _ _ _ _ (search rules) (search rules) (omega arith) (omega arith)

pub returns-then-j-b : goal.returns-then-j-b
returns-then-j-b c = least_a _ _ _ _ (search rules) (search rules) (omega arith) (omega arith)

pub returns : goal.returns
returns c = least_both _ _ _ _ (search rules) (search rules) (omega arith) (omega arith) c.min.ensures
