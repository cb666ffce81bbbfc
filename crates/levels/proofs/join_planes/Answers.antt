-- `levels::join_planes` meets its contract: each call of the loop's body asks, and each turn leaves, what the laws of a plane say.
use mathlib.Core.Path.{◌∙◌}
use native.Mathlib.Omega.{arith}
use Rattle.levels.proofs.Sections.{lends, begins, asks_next, planes_of, base_small, few_keys, asks_a, asks_b, short, again, done}
use Rattle.levels.proofs.join_planes.Goals as goal

pub loop-i-init : goal.loop-i-init
loop-i-init c =
    let p = c.requires in
    let s = c.span_of-span in
    begins p.operand.0 p.operand.1 (lends s.result.low_bound s.result.words_bound p.a_in_bounds p.a_len_bound s.ensures)

pub next-plane-requires-clause-all : goal.next-plane-requires-clause-all
next-plane-requires-clause-all c = (asks_next c.loop-i.invariant c.loop-i-test.true).1.1.1.1

pub invariant_of-of : goal.invariant_of-of
invariant_of-of c = record { base_bound = base_small c.loop-i.invariant c.next-plane.ensures }

pub changes-n-requires-clause-planes : goal.changes-n-requires-clause-planes
changes-n-requires-clause-planes c = planes_of c.loop-i.invariant c.next-plane.ensures

pub changes-n-requires-clause-count_bound : goal.changes-n-requires-clause-count_bound
changes-n-requires-clause-count_bound c = few_keys c.loop-i.invariant c.next-plane.ensures

pub returns-then-out-n : goal.returns-then-out-n
returns-then-out-n c =
    short c.loop-i.invariant c.next-plane.ensures c.changes-n.ensures (omega (arith, c.changes-n.ensures.put.long, c.if-out-n.true))

pub take_in-na-requires-clause-above : goal.take_in-na-requires-clause-above
take_in-na-requires-clause-above c =
    (asks_a c.loop-i.invariant c.next-plane.ensures c.loop-i.room c.loop-i.invariant.long_room).1.1.0

pub take_in-na-requires-clause-fits : goal.take_in-na-requires-clause-fits
take_in-na-requires-clause-fits c =
    (asks_a c.loop-i.invariant c.next-plane.ensures c.loop-i.room c.loop-i.invariant.long_room).1.1.1

pub take_in-nb-requires-clause-above : goal.take_in-nb-requires-clause-above
take_in-nb-requires-clause-above c =
    (asks_b c.loop-i.invariant c.next-plane.ensures c.loop-i.room c.loop-i.invariant.long_room).1.1.0

pub take_in-nb-requires-clause-fits : goal.take_in-nb-requires-clause-fits
take_in-nb-requires-clause-fits c =
    (asks_b c.loop-i.invariant c.next-plane.ensures c.loop-i.room c.loop-i.invariant.long_room).1.1.1

pub loop-i-preserved : goal.loop-i-preserved
loop-i-preserved c =
    again c.loop-i.invariant c.next-plane.ensures c.changes-n.ensures (omega (arith, c.changes-n.ensures.put.long, c.if-out-n.false))
    c.take_in-na.ensures c.take_in-nb.ensures
    c.take_in-na.auto.sec c.take_in-nb.auto.sec (c.take_in-nb.auto.room ∙ c.take_in-na.auto.room)

pub returns : goal.returns
returns c = done c.loop-i.invariant c.loop-i-test.false
