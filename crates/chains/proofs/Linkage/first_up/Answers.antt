-- `chains::Linkage::first_up` meets its contract. The loop's invariant: the places of the chain from here on have been looked at. Assumes nothing.
use mathlib.Core.Path.{◌≡◌, sym, ◌∙◌, ap, subst}
use mathlib.Core.Bool.{false}
use Prim.Native.Nat.{ℕ, ◌-◌, ◌<◌}
use lib.ListN.{get_or}
use Rattle.chains.specs.Chains.{low, flagged}
use Rattle.chains.proofs.Walks.{read, next_less, Searched, searched_first, searched_hit, searched_miss}
use Rattle.chains.proofs.Linkage.first_up.Goals as goal
use Rattle.chains.proofs.Linkage.first_up.Goals.{then-flags-low_at, else-flags-low_at}

pub loop-place-init : goal.loop-place-init
loop-place-init c = let p = c.requires.chain in searched_first _ _ _ p.here p.within

pub loop-place-smaller : goal.loop-place-smaller
loop-place-smaller c =
    let walk = c.loop-place.invariant in
    next_less _ _ walk.stands c.in-Some.ensures.0 (read _ _ c.requires.chain walk.stands c.in-Some.ensures)

pub loop-place-preserved : goal.loop-place-preserved
loop-place-preserved c =
    let keys = c.args.self.now.keys.now in
    let flags = c.args.flags.now in
    let walk = c.loop-place.invariant in
    let onward : 0 < c.loop-place.at = c.in-Some.ensures.0 in
    let is : c.in-Some.place ≡ c.loop-place.at - 1 = c.in-Some.ensures.1 in
    let linked = read _ _ c.requires.chain walk.stands c.in-Some.ensures in
    let met : flagged keys flags (c.loop-place.at - 1) ≡ get_or flags c.low_at.result false =
    sym (ap (λ l. get_or flags l false) (c.low_at.ensures.0 ∙ ap (λ n. low (get_or keys n 0)) is)) in
    let At : ℕ → Type 0 = λ n. Searched keys c.args.last (flagged keys flags) n (get_or c.args.self.now.links.now c.in-Some.place 0) in
    elim c.if-flags-low_at.branch [
      | then-flags-low_at w ↦ subst At (sym (w.found-is ∙ is)) (searched_hit _ _ _ walk onward linked (met ∙ w.if-flags-low_at.true))
      | else-flags-low_at w ↦ subst At (sym w.found-is) (searched_miss _ _ _ walk onward linked (met ∙ w.if-flags-low_at.false))
    ]
