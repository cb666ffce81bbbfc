-- `rank_of` meets its contract: the search over the keys, and what the ways to the scales' codes count.
use mathlib.Core.Path.{◌≡◌, sym, ap₂, subst}
use mathlib.Core.List.{List, map}
use Prim.Native.Nat.{ℕ, ◌+◌, ◌*◌, ◌<◌}
use native.Mathlib.Omega.{arith}
use Rattle.meaning.specs.Numbers.{cell}
use Rattle.meaning.specs.declared.Cell.{Cell}
use Rattle.meaning.specs.declared.Corner.{Corner}
use Rattle.meaning.specs.Nearest.{weight}
use Rattle.codes.specs.Keys.{of_key}
use Rattle.codes.specs.Lift.{lowered}
use Rattle.ranks.specs.declared.Scale.{Scale}
use Rattle.ranks.specs.Values.{way}
use Rattle.ranks.proofs.Costs.{beyond_fits}
use Rattle.cells.specs.Cells.{map_in}
use Rattle.nearest.specs.Ranks.{Ranked}
use Rattle.nearest.proofs.Reach.{located_wide, located_inside, keyed_rise, keyed_even}
use Rattle.nearest.proofs.Ranks.{some_cell, of_keys, ranked}
use Rattle.nearest.proofs.rank_of.Goals as goal
use Rattle.nearest.proofs.rank_of.Goals.{After-beyond, After-beyond-2, After-beyond-3}

-- what the ways to the scales' codes count
on_the_way : (wish : ℕ) (scale : Scale) (r : ℕ) → wish < 65536 → r ≡ way wish scale → r < 1048577
on_the_way wish scale r h e = omega (arith, e, beyond_fits scale wish h)

on_focus : (c : After-beyond) → c.beyond.result < 1048577
on_focus c = on_the_way c.args.focus c.bring-a.result _ c.requires.wished.0 c.beyond.ensures

on_first : (c : After-beyond-2) → c.beyond-2.result < 1048577
on_first c = on_the_way c.args.first c.bring-b.result _ c.requires.wished.1 c.beyond-2.ensures

on_second : (c : After-beyond-3) → c.beyond-3.result < 1048577
on_second c = on_the_way c.args.second c.bring-d.result _ c.requires.wished.2 c.beyond-3.ensures

pub bring-a-requires : goal.bring-a-requires
bring-a-requires c = let h = c.requires.located in record {
  low_lt_high = ((located_wide h).0, h.on_focus.end);
  weight_nonzero = (omega arith, omega arith, omega arith);
}

pub bring-b-requires : goal.bring-b-requires
bring-b-requires c = let h = c.requires.located in record {
  low_lt_high = ((located_wide h).1, h.on_first.end);
  weight_nonzero = (omega arith, omega arith, omega arith);
}

pub bring-d-requires : goal.bring-d-requires
bring-d-requires c = let h = c.requires.located in record {
  low_lt_high = ((located_wide h).2, h.on_second.end);
  weight_nonzero = (omega arith, omega arith, omega arith);
}

pub planes-rank-requires : goal.planes-rank-requires
planes-rank-requires c =
    let k = c.requires.located.keyed in record {
      from = keyed_rise c.args.keys.now k;
      even = keyed_even c.bring-b.result c.bring-d.result c.args.keys.now k;
      keys_in_bounds = c.requires.keys_in_bounds;
    }

pub returns : goal.returns
unfolding weight
returns c =
    let k = c.requires.located.keyed in
    let corners : List Corner = map of_key c.args.keys.now in
    let wish : Cell = cell (lowered c.args.focus) (lowered c.args.first) (lowered c.args.second) in
    let t = some_cell corners k.valid k.some in
    let best = of_keys {D = map_in c.bring-a.result c.bring-b.result c.bring-d.result} k.back c.planes-rank.ensures in
    let h = c.planes-rank.ensures.low in
    let p = on_focus (goal.at.returns c).After-beyond in
    let q = on_first (goal.at.returns c).After-beyond-2 in
    let r = on_second (goal.at.returns c).After-beyond-3 in
    let whole = ap₂ ◌+◌ (ap₂ ◌+◌ c.beyond.ensures c.beyond-2.ensures) c.beyond-3.ensures in (
      subst (λ (n : ℕ). Ranked corners wish (c.planes-rank.result + n * 1073741824)) (sym whole)
          (ranked corners k.valid c.bring-a.ensures c.bring-b.ensures c.bring-d.ensures (located_inside c.requires.located)
          c.planes-rank.result best (omega arith) t.0 t.1),
      omega arith,
    )
