-- `each_with_room` meets its contract: the keys of the list are those of its map, and each turn puts the cell of the next wish.
use mathlib.Core.Path.{◌≡◌, sym, ◌∙◌, ap, subst}
use mathlib.Core.List.{List, map, ◌++◌}
use Prim.Native.Nat.{ℕ, ◌+◌, ◌*◌}
use native.Mathlib.Omega.{arith}
use lib.IntN.{ℤ}
use lib.ListN.{take}
use Rattle.meaning.specs.declared.Cell.{Cell}
use Rattle.meaning.specs.Lists.{vertices, Valid}
use Rattle.codes.specs.Keys.{of_key}
use Rattle.nearest.proofs.Answers.{valid_list}
use Rattle.nearest.proofs.Reach.{keys_front, keyed, keyed_corners}
use Rattle.wishes.specs.Each.{wish_from, NearestPut}
use Rattle.wishes.proofs.Putting.{Putting, putting_begins, puts, putting_ends}
use Rattle.wishes.proofs.each_with_room.Goals as goal
use Rattle.wishes.proofs.each_with_room.Goals.{After-read-n}

-- ---- the keys

valid : (c : After-read-n) → Valid (vertices c.args.map.list.now)
valid c = valid_list _ c.args.map.passes

pub read-n-requires-clause-all : goal.read-n-requires-clause-all
read-n-requires-clause-all c = (valid_list _ c.args.map.passes).corners

pub extents_of-extents-requires : goal.extents_of-extents-requires
extents_of-extents-requires c =
    let r = (goal.at.extents_of-extents-requires c).After-read-n in
    keyed (vertices c.args.map.list.now) _ (keys_front _ _ _ _ r.read-n.ensures) (valid r) c.requires.wishable.some

-- ---- the wishes

pub loop-i-init : goal.loop-i-init
loop-i-init c =
    let e : c.into_iter-i-iterator.result.iter.rest.now ≡ c.args.wishes.now = cc in
    let n : 3 * c.into_iter-i-iterator.result.count ≡ 0 = omega (arith, ap (λ i. i.count) c.into_iter-i-iterator.ensures.into_iter_gives) in
    let ns = c.args.map.list.now in
    let ws = c.args.wishes.now in
    let before = c.args.cells.now in (
      cc,
      subst (λ (l : List ℤ). Putting ns ws before l before (3 * c.into_iter-i-iterator.result.count)) (sym e)
          (subst (λ (at : ℕ). Putting ns ws before ws before at) (sym n) (putting_begins ns ws before)),
    )

pub loop-i-preserved : goal.loop-i-preserved
loop-i-preserved c =
    let r = (goal.at.loop-i-preserved c).After-read-n in
    let (size, so_far) = c.loop-i.invariant in
    let (chunk, place, next, small) = c.in-Some.ensures.steps in
    let ns = c.args.map.list.now in
    let ws = c.args.wishes.now in
    let before = c.args.cells.now in
    let now = c.loop-i.cells in
    let wish = c.in-Some.numbers.now in
    let left = c.next.new.self.iter.rest.now in
    let at = 3 * c.loop-i.i-iterator.count in
    let m : Putting ns ws before (wish ++ left) now at = subst (λ (l : List ℤ). Putting ns ws before l now at) chunk.1.0 so_far in
    let e = keyed_corners (vertices ns) _ (keys_front _ _ _ _ r.read-n.ensures) (valid r) in
    let after = c.put_nearest.new.cells in
    let one =
    subst (λ (i : ℕ). NearestPut (map of_key (take c.read-n.result c.read-n.new.out)) (wish_from wish 0) (3 * i) now after) place
    (subst (λ (w : Cell). NearestPut (map of_key (take c.read-n.result c.read-n.new.out)) w (3 * c.in-Some.i) now after) c.wish_of-wish.ensures c.put_nearest.ensures) in
    let more : at + 3 ≡ 3 * c.next.new.self.count = omega (arith, next) in (
      chunk.0 ∙ size,
      subst (λ (n : ℕ). Putting ns ws before left after n) more (puts ns ws before c.requires.wishable wish left now at m (chunk.1.1 ∙ size) c.args.map.passes _ e after one),
    )

pub returns : goal.returns
returns c =
    let (size, so_far) = c.loop-i.invariant in
    let (chunk, count) = c.in-None.ensures.steps in
    putting_ends _ _ _ _ _ _ so_far (omega (arith, chunk.1.0, size))
