-- `lines::even_by` meets its contract: a table of zeros holds nothing; one with no live entry shows that no key occurs an odd number of times.
-- Assumes nothing.
use mathlib.Core.Path.{sym, ◌∙◌}
use Prim.Native.Nat.{ℕ}
use native.Mathlib.Omega.{arith}
use lib.ListN.{length-replicate}
use borrow.Author.Tests.{eqb-true}
use Rattle.lines.proofs.Table.{holds_empty, live_le, none_live}
use Rattle.lines.proofs.even_by.Goals as goal

pub fill-requires-clause-holds : goal.fill-requires-clause-holds
fill-requires-clause-holds g c = (holds_empty g.row.SLOTS, rw length-replicate c.requires.1)

pub count_live-requires : goal.count_live-requires
count_live-requires g c = omega (arith, live_le c.fill.new.table, c.fill.auto.table, length-replicate {A = ℕ})

pub returns-then-fill : goal.returns-then-fill
returns-then-fill g c = λ q. none_live (c.fill.ensures c.if-fill.true) (sym c.count_live.ensures ∙ eqb-true _ _ q)
