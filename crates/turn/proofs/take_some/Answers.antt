use Prim.Native.Nat.{◌+◌, ◌-◌, ◌^◌, ◌≤◌, ◌<◌}
use lib.ListN.{length}
use mathlib.Core.List.{[]}
use native.Mathlib.Omega.{arith}
use lib.Seq.{length-take-le}
use Rattle.turn.proofs.Pieces.{into_short, into_fits, copied, took}
use Rattle.turn.proofs.take_some.Goals as goal
use Rattle.turn.proofs.take_some.Goals.{After-merge-m}

-- the merge is no longer than its parts
short : (c : After-merge-m) →
    c.merge-m.result ≤ c.args.n + (c.args.e - c.args.i)
short c =
    let p = c.requires in
    omega (
      arith,
      c.merge-m.ensures.0,
      into_short c.args.sec.now c.args.keys.now c.args.n c.args.i c.args.e c.args.base p.n_in_bounds.0 p.n_in_bounds.1 p.n_in_bounds.2,
    )

-- and there is room for it
roomy : (c : After-merge-m) → c.merge-m.result ≤ length c.merge-m.new.out
roomy c =
    omega (arith, short c, c.merge-m.auto.out, c.requires.i_in_bounds.1)

pub put-requires : goal.put-requires
put-requires c =
    let p = c.requires in record {
      from_in_bounds = omega (arith, length-take-le c.merge-m.result c.merge-m.new.out (roomy (goal.at.put-requires c).After-merge-m), short (goal.at.put-requires c).After-merge-m, p.i_in_bounds.0);
      all = copied c.args.sec.now c.args.keys.now c.args.n c.args.i c.args.e c.args.base p.n_in_bounds.0 p.n_in_bounds.1 p.n_in_bounds.2 c.merge-m.result
          c.args.room.now c.merge-m.new.out [] c.merge-m.ensures.0 c.merge-m.ensures.1 (λ k. 0 + k < 2 ^ 32)
          (into_fits c.args.sec.now c.args.keys.now c.args.n c.args.i c.args.e c.args.base p.n_in_bounds.0 p.n_in_bounds.1 p.n_in_bounds.2
          p.fits.0 p.fits.1);
    }

pub returns : goal.returns
returns c =
    let p = c.requires in
    took _ _ _ _ _ _ p.n_in_bounds.0 p.n_in_bounds.1 p.n_in_bounds.2 _ _ _ _ c.merge-m.ensures.0 c.merge-m.ensures.1 c.put.ensures
