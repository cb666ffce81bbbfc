-- `lists::Corners::first_falling` meets its contract. The loop's invariant: every vertex passed stands above the one before it.
use mathlib.Core.Path.{◌≡◌, sym, ◌∙◌, ap, ap₂}
use mathlib.Core.Bool.{false, not}
use Prim.Native.Nat.{◌-◌, ◌<◌}
use borrow.Author.Count.{below_more}
use borrow.Author.Tests.{lt-ltb, le-ltb}
use native.Mathlib.Omega.{arith}
use lib.Dec.{ltb}
use lib.ListN.{length}
use Rattle.meaning.specs.Lists.{vertices}
use Rattle.meaning.specs.Verdicts.{falls_at}
use Rattle.meaning.proofs.First.{first_stop, first_none}
use Rattle.lists.proofs.Vertices.{length_vertices, falls_key}
use Rattle.lists.proofs.corners.Corners.first_falling.Goals as goal
use Rattle.lists.proofs.corners.Corners.first_falling.Goals.{After-key_at-in-loop-i, In-loop-i}

-- the place of a turn is a vertex's
place : (c : In-loop-i) → c.loop-i.i < length (vertices c.args.self.list.now)
place c = omega (arith, length_vertices c.args.self.list.now)

pub returns-then-all_rise : goal.returns-then-all_rise
returns-then-all_rise c = let l = c.args.self.list.now in
    first_none (falls_at (vertices l)) (length (vertices l)) (sym (length_vertices l))
    (λ k h. c.all_rise.ensures c.if-all_rise.true k (omega (arith, length_vertices l)))

pub key_at-requires-clause-corner : goal.key_at-requires-clause-corner
key_at-requires-clause-corner c = c.args.self.in_range c.loop-i.i (place (goal.at.key_at-requires-clause-corner c).In-loop-i)

-- the test at the place of a turn, by the two keys
next : (c : After-key_at-in-loop-i) → c.loop-i.i < length (vertices c.args.self.list.now) →
    falls_at (vertices c.args.self.list.now) c.loop-i.i ≡ not (ltb c.key_at-in-loop-i.result c.key_at.result)
next c h =
    falls_key c.args.self.list.now c.loop-i.i c.args.self.in_range (omega arith) h ∙
    ap₂ (λ a b. not (ltb a b)) (sym c.key_at-in-loop-i.ensures) (sym c.key_at.ensures)

pub key_at-requires-in-loop-i-clause-corner : goal.key_at-requires-in-loop-i-clause-corner
key_at-requires-in-loop-i-clause-corner c =
    let h = place (goal.at.key_at-requires-in-loop-i-clause-corner c).In-loop-i in
    c.args.self.in_range (c.loop-i.i - 1) (omega arith)

pub returns-then-key_at : goal.returns-then-key_at
returns-then-key_at c =
    let l = c.args.self.list.now in
    let h = place (goal.at.returns-then-key_at c).In-loop-i in
    first_stop (falls_at (vertices l)) (length (vertices l)) c.loop-i.i h c.loop-i.invariant
    (next (goal.at.returns-then-key_at c).After-key_at-in-loop-i h ∙ ap not (le-ltb c.key_at-in-loop-i.result c.key_at.result c.if-key_at.true))

pub loop-i-preserved : goal.loop-i-preserved
loop-i-preserved c =
    let l = c.args.self.list.now in
    below_more (λ j. falls_at (vertices l) j ≡ false) c.loop-i.i c.loop-i.invariant
    (next (goal.at.loop-i-preserved c).After-key_at-in-loop-i (place (goal.at.loop-i-preserved c).In-loop-i) ∙ ap not (lt-ltb c.key_at-in-loop-i.result c.key_at.result c.if-key_at.false))

pub returns : goal.returns
returns c = let l = c.args.self.list.now in
    first_none (falls_at (vertices l)) (length (vertices l)) (sym (length_vertices l)) (λ k h. c.loop-i.invariant k (omega (arith, c.loop-i-test.false)))
