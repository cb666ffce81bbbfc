-- `chains::Linkage::turn` meets its contract. The loop's invariant: what was turned, with what is left of the chain, is the whole. Assumes nothing.
use mathlib.Core.Path.{◌≡◌, ◌∙◌, ap}
use Prim.Native.Nat.{◌-◌, ◌<◌}
use native.Mathlib.Omega.{arith}
use lib.ListN.{length, get_or}
use Rattle.chains.specs.Chains.{low}
use Rattle.chains.proofs.Walks.{read, next_less, walked_first, walked_down, walked_up, walked_last}
use Rattle.chains.proofs.Flags.{ups_down, ups_le}
use Rattle.chains.proofs.Linkage.turn.Goals as goal
use Rattle.chains.proofs.Linkage.turn.Goals.{then-flags-low, else-flags-low}

pub loop-place-init : goal.loop-place-init
loop-place-init c = let p = c.requires in walked_first _ _ _ p.flags_len.1 p.chain.here p.chain.within

pub overflow_sub-count : goal.overflow_sub-count
overflow_sub-count c =
    let walk = c.loop-place.invariant in
    let fits : c.low_at-low.result < length c.loop-place.flags = omega (arith, c.low_at-low.ensures.1, walk.long, c.requires.flags_len.0) in
    omega (arith, walk.counted, ups_down c.loop-place.flags c.low_at-low.result fits c.if-flags-low.true)

pub overflow_add-count : goal.overflow_add-count
overflow_add-count c =
    omega (arith, c.loop-place.invariant.counted, c.loop-place.invariant.long, c.requires.flags_len.0, ups_le c.loop-place.flags)

pub loop-place-smaller : goal.loop-place-smaller
loop-place-smaller c =
    let walk = c.loop-place.invariant in
    next_less _ _ walk.stands c.in-Some.ensures.0 (read _ _ c.requires.chain walk.stands c.in-Some.ensures)

pub loop-place-preserved : goal.loop-place-preserved
loop-place-preserved c =
    let walk = c.loop-place.invariant in
    let onward : 0 < c.loop-place.at = c.in-Some.ensures.0 in
    let linked = read _ _ c.requires.chain walk.stands c.in-Some.ensures in
    let met : c.low_at-low.result ≡ low (get_or c.args.self.now.keys.now (c.loop-place.at - 1) 0) =
    c.low_at-low.ensures.0 ∙ ap (λ n. low (get_or c.args.self.now.keys.now n 0)) c.in-Some.ensures.1 in
    let fits : c.low_at-low.result < length c.loop-place.flags = omega (arith, c.low_at-low.ensures.1, walk.long, c.requires.flags_len.0) in
    elim c.if-flags-low.branch [
      | then-flags-low w ↦ walked_down _ _ walk onward linked met fits w.if-flags-low.true w.flags-is w.count-is
      | else-flags-low w ↦ walked_up _ _ walk onward linked met fits w.if-flags-low.false w.flags-is w.count-is
    ]

pub returns-clause-turned : goal.returns-clause-turned
returns-clause-turned c = walked_last _ _ c.loop-place.invariant (omega (arith, c.in_default.ensures))
