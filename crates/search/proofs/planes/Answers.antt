-- `planes` meets its contract: the section at the wish's focus, the planes above it, and the planes below.
use mathlib.Core.Path.{◌∙◌, subst}
use mathlib.Core.List.{List}
use Prim.Native.Nat.{ℕ}
use native.Mathlib.Omega.{arith}
use lib.ListN.{take}
use Rattle.rising.proofs.Order.{less_none}
use Rattle.cells.specs.Cells.{Best, Rank, Edge, section_in, plane_unit, high}
use Rattle.cells.proofs.Axis.{axis_least, turned_down}
use Rattle.squares.proofs.Runs.{high_end}
use Rattle.search.proofs.Outwards.{from_rising, edge_on_list, section_cells, section_rising}
use Rattle.search.proofs.planes.Goals as goal
use Rattle.search.proofs.planes.Goals.{After-upto-place}

edge : (u : After-upto-place) → Edge (high plane_unit) u.args.keys.now u.args.scales.focus.wish u.upto-place.result
edge u = edge_on_list plane_unit u.args.scales.focus.wish u.args.keys.now u.upto-place.result u.upto-place.ensures

pub invariant_of-rising : goal.invariant_of-rising
invariant_of-rising c = record { rising = from_rising c.args.keys.now c.requires.from }

pub invariant_of-pairs : goal.invariant_of-pairs
invariant_of-pairs c = record { rising = section_rising c.args.keys.now c.upto-place.result c.section-n.new.room c.section-n.result c.section-n.ensures }

pub planes_above-above-requires : goal.planes_above-above-requires
planes_above-above-requires c = record {
  from = c.requires.from;
  edge = edge (goal.at.planes_above-above-requires c).After-upto-place;
}

pub planes_below-requires : goal.planes_below-requires
planes_below-requires c = record {
  from = c.requires.from;
  edge = edge (goal.at.planes_below-requires c).After-upto-place;
}

pub returns : goal.returns
returns c =
    let D = section_in c.args.scales.first c.args.scales.second in
    axis_least {scale = c.args.scales.focus}
    (section_cells c.args.scales.focus D c.args.keys.now c.upto-place.result (edge (goal.at.returns c).After-upto-place) c.requires.even c.section-n.new.room c.section-n.result c.section-n.ensures 0
    (subst (λ (n : ℕ). Best (Rank D (take c.section-n.result c.section-n.new.room) n) c.args.best c.squares-at_wish.result) (c.value_at-rank.ensures.is ∙ omega arith)
    (subst (λ (m : List ℕ). Best (Rank D m c.value_at-rank.result) c.args.best c.squares-at_wish.result) (less_none (take c.section-n.result c.section-n.new.room)) c.squares-at_wish.ensures)))
    (turned_down (omega arith) (high_end (high plane_unit) c.args.keys.now c.upto-place.result) c.planes_above-above.ensures c.planes_below.ensures)
