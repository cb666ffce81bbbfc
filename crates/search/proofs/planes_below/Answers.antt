-- `planes_below` meets its contract: each turn one plane downward, and its own pairs.
use mathlib.Core.Path.{◌≡◌, sym, ◌∙◌, ap, subst}
use mathlib.Core.List.{List, map}
use Prim.Native.Nat.{ℕ, ◌-◌, ◌*◌, ◌≤◌, ◌<◌}
use native.Mathlib.Omega.{arith}
use lib.ListN.{get_or}
use Rattle.rising.specs.Merged.{less_base}
use Rattle.ranks.specs.Values.{value, behind}
use Rattle.cells.specs.Cells.{Best, Rank, Turned, section_in, plane_unit, high, rest, high_at}
use Rattle.cells.proofs.Axis.{turned_down}
use Rattle.squares.specs.Rising.{Rising}
use Rattle.squares.proofs.Runs.{run_of}
use Rattle.squares.proofs.Walk.{turned_first, turned_below}
use Rattle.search.proofs.Outwards.{plane_rising, plane_pairs, sunk_on}
use Rattle.search.proofs.planes_below.Goals as goal
use Rattle.search.proofs.planes_below.Goals.{After-run_start-j, At-loop-i}

-- the plane below the place lies at or below the wish
low : (l : At-loop-i) → 0 < l.loop-i.i → high plane_unit (get_or l.args.keys.now (l.loop-i.i - 1) 0) ≤ l.args.scales.focus.wish
low l h = l.requires.edge.upto (l.loop-i.i - 1) (omega (arith, l.loop-i.invariant.1))

-- its first key has the number of its last
same : (r : After-run_start-j)
    → high plane_unit (get_or r.args.keys.now r.run_start-j.result 0) ≡ high plane_unit (get_or r.args.keys.now (r.loop-i.i - 1) 0)
same r = let run = r.run_start-j.ensures.0 in
    sym (run.same (r.loop-i.i - 1) (omega (arith, run.some)) (omega (arith, run.some)))

pub returns-then-found-rank : goal.returns-then-found-rank
returns-then-found-rank c =
    let h = c.loop-i-test.true in
    turned_down (omega arith) c.loop-i.invariant.0.order c.loop-i.invariant.0.seen
    (turned_below plane_unit c.args.scales.focus (section_in c.args.scales.first c.args.scales.second) c.args.keys.now 0 (omega arith) c.requires.from
    h c.loop-i.invariant.0.cut.within (low (goal.at.returns-then-found-rank c).At-loop-i h) (omega (arith, c.value_behind-rank.ensures.is, c.if-found-rank.true)))

pub invariant_of-pairs : goal.invariant_of-pairs
invariant_of-pairs c = record {
  rising = subst (λ (n : ℕ). Rising (n * plane_unit) (run_of c.args.keys.now c.run_start-j.result c.loop-i.i)) (same (goal.at.invariant_of-pairs c).After-run_start-j)
      (plane_rising plane_unit c.args.keys.now c.run_start-j.result c.loop-i.i c.requires.from c.run_start-j.ensures.0);
}

pub loop-i-preserved : goal.loop-i-preserved
loop-i-preserved c =
    let j = c.run_start-j.result in
    let D = section_in c.args.scales.first c.args.scales.second in
    let run = c.run_start-j.ensures.0 in
    let n = same (goal.at.loop-i-preserved c).After-run_start-j in
    let b = ap (λ m. value c.args.scales.focus (behind c.args.scales.focus.wish m)) n in (
      sunk_on (omega arith) c.requires.from c.loop-i.invariant.0 run c.run_start-j.ensures.1
          (omega (arith, n, low (goal.at.loop-i-preserved c).At-loop-i c.loop-i-test.true, c.args.scales.focus.sound.0))
          (subst (λ (k : ℕ). Best (Rank D (map (rest plane_unit) (run_of c.args.keys.now j c.loop-i.i)) k) c.loop-i.found c.squares-found.result)
          (c.value_behind-rank.ensures.is ∙ sym b ∙ omega arith)
          (subst (λ (m : List ℕ). Best (Rank D m c.value_behind-rank.result) c.loop-i.found c.squares-found.result)
          (sym (ap (λ k. less_base (k * plane_unit) (run_of c.args.keys.now j c.loop-i.i)) n) ∙
          plane_pairs plane_unit c.args.keys.now j c.loop-i.i c.requires.from run) c.squares-found.ensures)),
      omega (arith, c.loop-i.invariant.1, run.some),
    )

pub returns : goal.returns
returns c =
    let z : c.loop-i.i ≡ 0 = omega (arith, c.loop-i-test.false) in
    turned_down (omega arith) c.loop-i.invariant.0.order c.loop-i.invariant.0.seen
    (subst (λ (n : ℕ). Best (Turned plane_unit c.args.scales.focus (section_in c.args.scales.first c.args.scales.second) c.args.keys.now 0 (high_at (high plane_unit) c.args.keys.now n) 0) c.loop-i.found c.loop-i.found)
    (sym z) (turned_first plane_unit c.args.scales.focus (section_in c.args.scales.first c.args.scales.second) c.args.keys.now 0 (omega arith) c.requires.from))
