-- `keys::write_each` meets its contract: each turn writes the numbers of the next key.
use mathlib.Core.Path.{◌≡◌, ◌∙◌, ap}
use mathlib.Core.List.{[], ◌++◌}
use Prim.Native.Nat.{◌*◌}
use native.Mathlib.Omega.{arith}
use native.Mathlib.Nat.{mul-le-mul_left}
use lib.ListN.{length, drop, drop_of_length-le}
use Rattle.rising.proofs.Written.{next_at, to_come, all}
use Rattle.keys.proofs.Filling.{part}
use Rattle.keys.proofs.write_each.Goals as goal

pub loop-i-preserved : goal.loop-i-preserved
loop-i-preserved g c spell s =
    let next = ap spell (next_at c.args.keys.now c.loop-i.i (omega arith)) ∙ s.member _ _ _ c.write_one.ensures _ in
    part _ _ _ _ (to_come _ (c.loop-i.invariant spell s) next) (omega arith) (omega arith)
    (omega (arith, mul-le-mul_left g.row.WIDTH c.loop-i-test.true))

pub returns : goal.returns
returns g c spell s =
    let is : c.loop-i.i ≡ length c.args.keys.now = omega arith in
    (all (to_come [] (c.loop-i.invariant spell s) (ap spell (drop_of_length-le c.args.keys.now c.loop-i-test.false) ∙ s.nothing))).1 ∙
    ap (λ k. spell c.args.keys.now ++ drop (g.row.WIDTH * k) c.args.out.now) is
