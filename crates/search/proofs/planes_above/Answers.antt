-- `planes_above` meets its contract: each turn one plane upward, and its own pairs.
use mathlib.Core.Path.{◌∙◌, subst}
use mathlib.Core.List.{List, map}
use Prim.Native.Nat.{ℕ}
use native.Mathlib.Omega.{arith}
use Rattle.cells.specs.Cells.{Best, Rank, section_in, plane_unit, high, rest, Run, Cut}
use Rattle.cells.proofs.Axis.{turned_two}
use Rattle.squares.proofs.Runs.{run_of, high_in}
use Rattle.squares.proofs.Walk.{passed_on, passed_all, passed_codes, turned_above}
use Rattle.search.proofs.Outwards.{plane_rising, plane_pairs, run_on_list, from_rising}
use Rattle.search.proofs.planes_above.Goals as goal
use Rattle.search.proofs.planes_above.Goals.{After-run_end-e}

-- the plane at the place
ends : (r : After-run_end-e)
    → Run (high plane_unit) r.args.keys.now r.loop-i.i r.run_end-e.result × Cut (high plane_unit) r.args.keys.now r.run_end-e.result
ends r = run_on_list plane_unit r.args.keys.now r.loop-i.i r.run_end-e.result r.run_end-e.ensures

pub returns-then-number-ge-END : goal.returns-then-number-ge-END
returns-then-number-ge-END c =
    passed_codes (omega arith) c.requires.from c.loop-i.invariant.0 c.loop-i-test.true c.if-number-ge-END.true

pub returns-then-found-rank : goal.returns-then-found-rank
returns-then-found-rank c =
    let h = c.loop-i-test.true in
    turned_two c.loop-i.invariant.0.order (omega (arith, high_in (high plane_unit) c.args.keys.now c.loop-i.i h)) c.loop-i.invariant.0.seen
    (turned_above plane_unit c.args.scales.focus (section_in c.args.scales.first c.args.scales.second) c.args.keys.now 0 (omega arith) c.requires.from
    h (c.requires.edge.beyond c.loop-i.i c.loop-i.invariant.1 h) (omega (arith, c.value_behind-rank.ensures.is, c.if-found-rank.true)))

pub invariant_of-rising : goal.invariant_of-rising
invariant_of-rising c = record { rising = from_rising c.args.keys.now c.requires.from }

pub invariant_of-pairs : goal.invariant_of-pairs
invariant_of-pairs c = record {
  rising = plane_rising plane_unit c.args.keys.now c.loop-i.i c.run_end-e.result c.requires.from (ends (goal.at.invariant_of-pairs c).After-run_end-e).0;
}

pub loop-i-preserved : goal.loop-i-preserved
loop-i-preserved c =
    let D = section_in c.args.scales.first c.args.scales.second in
    let run = (ends (goal.at.loop-i-preserved c).After-run_end-e).0 in (
      passed_on (omega arith) c.requires.from c.loop-i.invariant.0 run (ends (goal.at.loop-i-preserved c).After-run_end-e).1 c.if-number-ge-END.false
          (subst (λ (k : ℕ). Best (Rank D (map (rest plane_unit) (run_of c.args.keys.now c.loop-i.i c.run_end-e.result)) k) c.loop-i.found c.squares-found.result)
          (c.value_behind-rank.ensures.is ∙ omega arith)
          (subst (λ (m : List ℕ). Best (Rank D m c.value_behind-rank.result) c.loop-i.found c.squares-found.result)
          (plane_pairs plane_unit c.args.keys.now c.loop-i.i c.run_end-e.result c.requires.from run) c.squares-found.ensures)),
      omega (arith, c.loop-i.invariant.1, run.some),
    )

pub returns : goal.returns
returns c = passed_all (omega arith) c.requires.from c.loop-i.invariant.0 c.loop-i-test.false
