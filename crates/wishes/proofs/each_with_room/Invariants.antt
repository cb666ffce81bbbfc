-- `each_with_room` meets its contract: the keys of the list are those of its map, and each turn puts the cell of the next wish.
use mathlib.Core.Path.{◌≡◌}
use Prim.Native.Nat.{◌*◌}
use Rattle.wishes.proofs.Putting.{Putting}
use Rattle.wishes.proofs.each_with_room.Given as goal

abbrev pub invariant-loop-i : goal.invariant-loop-i
invariant-loop-i l =
    let chunks = l.i-iterator.iter in
    (chunks.size ≡ 3) × Putting l.map.list.now l.wishes l.initial.cells chunks.rest.now l.cells (3 * l.i-iterator.count)
