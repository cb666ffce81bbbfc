-- `RisingList::own_lines` meets its contract: each turn one line, and its own numbers.
use mathlib.Core.Path.{◌≡◌, sym, ◌∙◌, ap, subst}
use mathlib.Core.List.{List, map}
use Prim.Native.Nat.{ℕ, ◌+◌, ◌-◌, ◌<◌}
use native.Mathlib.Omega.{arith}
use lib.ListN.{length, get_or}
use Rattle.rising.specs.Merged.{less_base}
use Rattle.ranks.specs.Values.{value, behind}
use Rattle.cells.specs.Cells.{Best, Rank, line_in, line_unit, high, rest}
use Rattle.cells.specs.Line.{Once}
use Rattle.cells.proofs.Line.{less_at, less_long}
use Rattle.squares.proofs.Runs.{run_of, less_run, once, cut_none}
use Rattle.squares.proofs.Walk.{turned_first, passed_on, passed_all, passed_codes}
use Rattle.squares.proofs.RisingList.own_lines.Goals as goal
use Rattle.squares.proofs.RisingList.own_lines.Goals.{At-loop-i}

inside : (l : At-loop-i) → l.loop-i.i < length l.args.self.list.now → l.loop-i.i < length (less_base l.args.self.base l.args.self.list.now)
inside l h = omega (arith, less_long l.args.self.base l.args.self.list.now)

-- the number of the line at the place
number : (l : At-loop-i) → l.loop-i.i < length l.args.self.list.now
    → high line_unit (get_or (less_base l.args.self.base l.args.self.list.now) l.loop-i.i 0) ≡ high line_unit (get_or l.args.self.list.now l.loop-i.i 0 - l.args.self.base)
number l h = ap (high line_unit) (less_at l.args.self.base l.args.self.list.now l.loop-i.i h)

pub loop-i-init : goal.loop-i-init
loop-i-init c =
    record {
      cut = cut_none (high line_unit) (less_base c.args.self.base c.args.self.list.now) 0 (omega arith);
      order = omega arith;
      seen = turned_first line_unit c.args.scales.first (line_in c.args.scales.second) (less_base c.args.self.base c.args.self.list.now) c.args.rank (omega arith) c.args.self.rising.rising;
    }

pub returns-then-line-ge-END : goal.returns-then-line-ge-END
returns-then-line-ge-END c =
    let h = c.loop-i-test.true in
    passed_codes (omega arith) c.args.self.rising.rising c.loop-i.invariant (inside (goal.at.returns-then-line-ge-END c).At-loop-i h) (omega (arith, number (goal.at.returns-then-line-ge-END c).At-loop-i h, c.if-line-ge-END.true))

pub own_line-found-requires-clause-once : goal.own_line-found-requires-clause-once
own_line-found-requires-clause-once c =
    subst (λ (m : List ℕ). Once (map (rest line_unit) m)) (sym (less_run c.args.self.base c.args.self.list.now c.loop-i.i c.run_end-e.result))
    (once line_unit (less_base c.args.self.base c.args.self.list.now) c.loop-i.i c.run_end-e.result c.args.self.rising.rising c.run_end-e.ensures.run)

pub loop-i-preserved : goal.loop-i-preserved
loop-i-preserved c =
    let h = c.loop-i-test.true in
    let n = number (goal.at.loop-i-preserved c).At-loop-i h in
    let b = ap (λ m. c.args.rank + value c.args.scales.first (behind c.args.scales.first.wish m)) (sym n) in
    passed_on (omega arith) c.args.self.rising.rising c.loop-i.invariant c.run_end-e.ensures.run c.run_end-e.ensures.cut (omega (arith, n, c.if-line-ge-END.false))
    (subst (λ (k : ℕ). Best (Rank (line_in c.args.scales.second) (map (rest line_unit) (run_of (less_base c.args.self.base c.args.self.list.now) c.loop-i.i c.run_end-e.result)) k) c.loop-i.found c.own_line-found.result)
    (ap (c.args.rank +◌) c.value_behind.ensures.is ∙ b)
    (subst (λ (m : List ℕ). Best (Rank (line_in c.args.scales.second) (map (rest line_unit) m) (c.args.rank + c.value_behind.result)) c.loop-i.found c.own_line-found.result)
    (less_run c.args.self.base c.args.self.list.now c.loop-i.i c.run_end-e.result) c.own_line-found.ensures))

pub returns : goal.returns
returns c =
    passed_all (omega arith) c.args.self.rising.rising c.loop-i.invariant (omega (arith, less_long c.args.self.base c.args.self.list.now, c.loop-i-test.false))
