-- `reading::closing_sum` meets its contract: the sum is taken modulo 65,536 after each number.
use mathlib.Core.Path.{◌≡◌, ◌∙◌}
use Prim.Native.Nat.{◌+◌, ◌%◌}
use native.Mathlib.Omega.{arith}
use Rattle.std.proofs.Common.{rules}
use Rattle.std.specs.List.{fold}
use Rattle.words.specs.Words.{word}
use Rattle.reading.proofs.Totals.{sum_fold}
use Rattle.reading.proofs.closing_sum.Goals as goal

pub returns : goal.returns
returns c =
    let is : c.fold.result ≡ fold (λ sum z. (sum + word z) % 65536) c.args.n c.args.list.now = search rules in
    is ∙ sum_fold c.args.n c.args.list.now (omega arith)
