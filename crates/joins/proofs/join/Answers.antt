-- `joins::join` meets its contract: its answers are the promised ones, case by case.
use mathlib.Core.Path.{◌≡◌, subst₂}
use mathlib.Core.Bool.{true}
use mathlib.Core.List.{List}
use lib.IntN.{ℤ}
use Prim.Native.Nat.{◌≤◌}
use native.Mathlib.Omega.{arith}
use Rattle.std.proofs.lemmas.Result.{err_from_is_err_and}
use Rattle.meaning.specs.Verdicts.{verdict, passes}
use Rattle.sweep.specs.Room.{InRoom}
use Rattle.joins.specs.declared.JoinError.TheVariants.{FirstRefused, SecondRefused}
use Rattle.joins.proofs.Answers.{bad_low, bad_high, first_refused, second_refused, joined_or_not, map_refused, map_taken}
use Rattle.joins.proofs.join.Goals as goal
use Rattle.joins.proofs.join.Goals.{Else-op-gt-EXCLUSIVE, In_ok-first}

-- ---- the operation, then the lists, then the room

pub returns-then-op-lt-UNION : goal.returns-then-op-lt-UNION
returns-then-op-lt-UNION c = bad_low _ _ _ _ (omega (arith, c.if-op-lt-UNION.true))

pub returns-then-op-gt-EXCLUSIVE : goal.returns-then-op-gt-EXCLUSIVE
returns-then-op-gt-EXCLUSIVE c = bad_high _ _ _ _ (omega (arith, c.if-op-gt-EXCLUSIVE.true))

-- the operation is one of the four
op_low : (e : Else-op-gt-EXCLUSIVE) → 1 ≤ e.args.op
op_low e = omega (arith, e.if-op-lt-UNION.false)

op_high : (e : Else-op-gt-EXCLUSIVE) → e.args.op ≤ 4
op_high e = omega (arith, e.if-op-gt-EXCLUSIVE.false)

pub returns-in_err-first : goal.returns-in_err-first
returns-in_err-first c =
    let at = goal.at.returns-in_err-first c in
    let p = err_from_is_err_and c.from_residual.result c.from_residual.ensures.1 in
    let (r, is, why) = map_refused _ c.of.result FirstRefused c.of.ensures.err c.in_err-first.ensures.cases in
    rw (p.1, p.2, is) (first_refused _ _ _ _ (op_low at.Else-op-gt-EXCLUSIVE) (op_high at.Else-op-gt-EXCLUSIVE) r why)

-- the first list passes
passes_a : (n : In_ok-first) → (n.in_ok-first.first.list.now ≡ n.args.a.now) × (passes (verdict n.args.a.now) ≡ true)
passes_a n = map_taken _ n.of.result n.in_ok-first.first n.of.ensures.ok n.in_ok-first.ensures.cases

pub returns-in_err-second : goal.returns-in_err-second
returns-in_err-second c =
    let at = goal.at.returns-in_err-second c in
    let p = err_from_is_err_and c.from_residual-in_err-second.result c.from_residual-in_err-second.ensures.1 in
    let (r, is, why) = map_refused _ c.of-2.result SecondRefused c.of-2.ensures.err c.in_err-second.ensures.cases in
    rw (p.1, p.2, is)
    (second_refused _ _ _ _ (op_low at.Else-op-gt-EXCLUSIVE) (op_high at.Else-op-gt-EXCLUSIVE) (passes_a at.In_ok-first).1 r why)

pub returns : goal.returns
returns c =
    let at = goal.at.returns c in
    let (a, ga) = passes_a at.In_ok-first in
    let (b, gb) = map_taken _ c.of-2.result c.in_ok-second.second c.of-2.ensures.ok c.in_ok-second.ensures.cases in
    rw (c.ok_or.ensures.value)
    (joined_or_not _ _ _ _ (op_low at.Else-op-gt-EXCLUSIVE) (op_high at.Else-op-gt-EXCLUSIVE) ga gb c.fitting-most.ensures
    (subst₂ (λ (x y : List ℤ). InRoom c.args.op x y c.fitting-most.result c.args.out.now c.join_valid.result c.join_valid.new.out) a b c.join_valid.ensures))
