-- `levels::changes` meets its contract: each turn of the loop goes on to the next line.
use mathlib.Core.Path.{sym, ◌∙◌, ap₂}
use native.Mathlib.Omega.{arith}
use Rattle.levels.specs.Planes.{lesser_of}
use Rattle.levels.proofs.Lines.{Heads}
use Rattle.levels.proofs.Readings.{start, asks_head, heads, ended, small, asks_a, asks_b, asks_c, asks_d, asks_put, moved, few_read, quiet, put_on, early}
use Rattle.levels.proofs.changes.Goals as goal
use Rattle.levels.proofs.changes.Goals.{In-Some}

-- the least of the first keys
least : (n : In-Some) → Heads n.args.of.base n.args.of.sa.now n.args.of.sb.now n.args.of.pa.now n.args.of.pb.now
    n.loop-least.in_sa.read n.loop-least.in_sb.read n.loop-least.in_pa.read n.loop-least.in_pb.read n.in-Some.least
least n =
    heads n.loop-least.invariant _ _ _ _ n.head.ensures n.head-in-loop-least.ensures n.head-in-loop-least-2.ensures n.head-in-loop-least-3.ensures
    (sym (n.in-Some.ensures ∙ ap₂ lesser_of n.lesser.ensures n.lesser-in-loop-least.ensures))

-- ---- what each call asks

pub loop-least-init : goal.loop-least-init
loop-least-init c =
    start c.new-in_sa.ensures c.new-in_sb.ensures c.new-in_pa.ensures c.new-in_pb.ensures c.requires.planes c.args.of.span.low_bound
    c.args.of.span.words_bound

pub head-requires : goal.head-requires
head-requires c = asks_head c.loop-least.invariant.of_sa c.loop-least.invariant.lines.in_sa

pub head-requires-in-loop-least : goal.head-requires-in-loop-least
head-requires-in-loop-least c = asks_head c.loop-least.invariant.of_sb c.loop-least.invariant.lines.in_sb

pub head-requires-in-loop-least-2 : goal.head-requires-in-loop-least-2
head-requires-in-loop-least-2 c = asks_head c.loop-least.invariant.of_pa c.loop-least.invariant.lines.in_pa

pub head-requires-in-loop-least-3 : goal.head-requires-in-loop-least-3
head-requires-in-loop-least-3 c = asks_head c.loop-least.invariant.of_pb c.loop-least.invariant.lines.in_pb

pub take_line-requires : goal.take_line-requires
take_line-requires c = asks_a c.loop-least.invariant (least (goal.at.take_line-requires c).In-Some)

pub take_line-requires-in-Some : goal.take_line-requires-in-Some
take_line-requires-in-Some c = asks_b c.loop-least.invariant (least (goal.at.take_line-requires-in-Some c).In-Some)

pub take_line-requires-in-Some-2 : goal.take_line-requires-in-Some-2
take_line-requires-in-Some-2 c = asks_c c.loop-least.invariant (least (goal.at.take_line-requires-in-Some-2 c).In-Some) c.args.of.base_bound

pub take_line-requires-in-Some-3 : goal.take_line-requires-in-Some-3
take_line-requires-in-Some-3 c = asks_d c.loop-least.invariant (least (goal.at.take_line-requires-in-Some-3 c).In-Some) c.args.of.base_bound

pub overflow_add-in_pa : goal.overflow_add-in_pa
overflow_add-in_pa c =
    omega (
      arith,
      few_read c.loop-least.invariant (least (goal.at.overflow_add-in_pa c).In-Some) c.take_line.ensures c.take_line-in-Some.ensures
          c.take_line-in-Some-2.ensures c.take_line-in-Some-3.ensures,
      c.requires.count_bound,
    )

pub overflow_add-start : goal.overflow_add-start
overflow_add-start c = omega (arith, small c.loop-least.invariant (least (goal.at.overflow_add-start c).In-Some), c.args.of.base_bound, c.args.of.span.low_bound)

pub overflow_add-start-then-in_pa-in_pb-gt0 : goal.overflow_add-start-then-in_pa-in_pb-gt0
overflow_add-start-then-in_pa-in_pb-gt0 c =
    omega (arith, small c.loop-least.invariant (least (goal.at.overflow_add-start-then-in_pa-in_pb-gt0 c).In-Some), c.args.of.base_bound, c.args.of.span.low_bound)

pub put_line-put-requires-clause-last_bound : goal.put_line-put-requires-clause-last_bound
put_line-put-requires-clause-last_bound c =
    asks_put c.loop-least.invariant (least (goal.at.put_line-put-requires-clause-last_bound c).In-Some) c.args.of.base_bound c.requires.count_bound

-- ---- what a turn leaves

pub returns-then-is_zero-2 : goal.returns-then-is_zero-2
returns-then-is_zero-2 c =
    early c.loop-least.invariant (least (goal.at.returns-then-is_zero-2 c).In-Some) c.take_line.ensures c.take_line-in-Some.ensures
    c.take_line-in-Some-2.ensures c.take_line-in-Some-3.ensures c.put_line-put.ensures
    (c.is_read.ensures c.if-is_read.true) (c.is_read-then-is_read.ensures c.if-is_read-2.true)
    (c.is_zero.ensures c.if-is_zero.true) (c.is_zero-then-is_zero.ensures c.if-is_zero-2.true)

pub loop-least-smaller-else-is_read : goal.loop-least-smaller-else-is_read
loop-least-smaller-else-is_read c =
    let q = least (goal.at.loop-least-smaller-else-is_read c).In-Some in
    omega (
      arith,
      moved c.loop-least.invariant q c.take_line.ensures c.take_line-in-Some.ensures c.take_line-in-Some-2.ensures c.take_line-in-Some-3.ensures,
      q.left,
    )

pub loop-least-preserved-else-is_read : goal.loop-least-preserved-else-is_read
loop-least-preserved-else-is_read c =
    put_on c.loop-least.invariant (least (goal.at.loop-least-preserved-else-is_read c).In-Some) c.take_line.ensures c.take_line-in-Some.ensures
    c.take_line-in-Some-2.ensures c.take_line-in-Some-3.ensures c.put_line-put.ensures

pub loop-least-smaller : goal.loop-least-smaller
loop-least-smaller c =
    let q = least (goal.at.loop-least-smaller c).In-Some in
    omega (
      arith,
      moved c.loop-least.invariant q c.take_line.ensures c.take_line-in-Some.ensures c.take_line-in-Some-2.ensures c.take_line-in-Some-3.ensures,
      q.left,
    )

pub loop-least-preserved : goal.loop-least-preserved
loop-least-preserved c =
    quiet c.loop-least.invariant (least (goal.at.loop-least-preserved c).In-Some) c.take_line.ensures c.take_line-in-Some.ensures
    c.take_line-in-Some-2.ensures c.take_line-in-Some-3.ensures (omega arith)

pub returns : goal.returns
returns c =
    ended c.loop-least.invariant _ _ _ _ c.head.ensures c.head-in-loop-least.ensures c.head-in-loop-least-2.ensures c.head-in-loop-least-3.ensures
    (sym (c.lesser-in-loop-least-2.ensures ∙ ap₂ lesser_of c.lesser.ensures c.lesser-in-loop-least.ensures) ∙ c.in_default.is)
