-- `RisingList::run_end` meets its contract: the run goes on while the numbers lie within a unit of its first high part.
use mathlib.Core.Path.{◌≡◌, subst}
use Prim.Native.Nat.{ℕ}
use native.Mathlib.Omega.{arith}
use lib.ListN.{length}
use Rattle.rising.specs.Merged.{less_base}
use Rattle.cells.specs.Cells.{high, Run}
use Rattle.cells.proofs.Line.{less_at, less_long}
use Rattle.squares.proofs.Runs.{run_over, run_goes_on, run_stops, run_ends}
use Rattle.squares.proofs.RisingList.run_end.Goals as goal

pub overflow_sub-self-in-loop-e : goal.overflow_sub-self-in-loop-e
overflow_sub-self-in-loop-e c =
    run_over c.args.unit c.requires.unit_nonzero c.args.self.rising.rising c.loop-e.invariant _ _ (less_at c.args.self.base c.args.self.list.now c.args.i c.requires.i_in_bounds) (less_at c.args.self.base c.args.self.list.now c.loop-e.e c.loop-e-test.true)
    (omega (arith, less_long c.args.self.base c.args.self.list.now, c.loop-e-test.true))

pub returns-then-unit-self : goal.returns-then-unit-self
returns-then-unit-self c =
    let h = c.loop-e-test.true in
    record {
      run = c.loop-e.invariant;
      cut = run_stops c.args.unit c.requires.unit_nonzero c.args.self.rising.rising c.loop-e.invariant _ _ (less_at c.args.self.base c.args.self.list.now c.args.i c.requires.i_in_bounds) (less_at c.args.self.base c.args.self.list.now c.loop-e.e h) (omega (arith, less_long c.args.self.base c.args.self.list.now, h)) c.if-unit-self.true;
    }

pub loop-e-preserved : goal.loop-e-preserved
loop-e-preserved c =
    let h = c.loop-e-test.true in
    run_goes_on c.args.unit c.requires.unit_nonzero c.args.self.rising.rising c.loop-e.invariant _ _ (less_at c.args.self.base c.args.self.list.now c.args.i c.requires.i_in_bounds) (less_at c.args.self.base c.args.self.list.now c.loop-e.e h) (omega (arith, less_long c.args.self.base c.args.self.list.now, h)) c.if-unit-self.false

pub returns : goal.returns
returns c =
    let ended : c.loop-e.e ≡ length c.args.self.list.now =
    omega (arith, c.loop-e-test.false, c.loop-e.invariant.within, less_long c.args.self.base c.args.self.list.now) in
    let run = subst (λ (n : ℕ). Run (high c.args.unit) (less_base c.args.self.base c.args.self.list.now) c.args.i n) ended c.loop-e.invariant in
    record {
      run = run;
      cut = run_ends c.args.unit c.requires.unit_nonzero c.args.self.rising.rising run (omega (arith, less_long c.args.self.base c.args.self.list.now));
    }
