-- `levels::Reading::take_line` meets its contract: a line before the first key that is left leaves all as it is.
use mathlib.Core.Path.{sym}
use native.Mathlib.Omega.{arith}
use lib.ListN.{length}
use borrow.Author.Tests.{ltb-true}
use Rattle.levels.proofs.Readings.{passed}
use Rattle.levels.proofs.Reading.take_line.Goals as goal

pub returns-else-key-limit : goal.returns-else-key-limit
returns-else-key-limit c =
    let first = c.in-Some.ensures.lookup in
    passed c.requires (ltb-true c.args.self.now.read (length c.args.self.now.keys.now) (sym first.0)) (omega (arith, c.if-key-limit.false, first.1))
