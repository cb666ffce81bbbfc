-- `parts::split_keys` meets its contract: the whole is read, the upper half is made of it, and the lower half is what is left.
use mathlib.Core.Path.{◌≡◌, sym, subst}
use mathlib.Core.List.{List, map}
use Prim.Native.Nat.{ℕ}
use native.Mathlib.Omega.{arith}
use lib.ListN.{take}
use Rattle.meaning.specs.Counting.{All}
use Rattle.meaning.specs.declared.Corner.{Corner}
use Rattle.meaning.specs.Lists.{vertices}
use Rattle.lists.proofs.Verdicts.{sound_of}
use Rattle.codes.specs.Keys.{key_of}
use Rattle.rising.proofs.Sums.{none_below}
use Rattle.rising.proofs.Order.{merged_placed}
use Rattle.keys.specs.Parts.{KeyOk, axis_at}
use Rattle.keys.proofs.Corners.{keys_ok}
use Rattle.parts.proofs.Made.{read_front, upper_made, lower_made, halves_room}
use Rattle.parts.proofs.split_keys.Goals as goal
use Rattle.parts.proofs.split_keys.Goals.{After-read-n}

abbrev corners : After-read-n → List Corner
corners r = vertices r.args.map.list.now

-- the keys of the whole map, in front of its slice
abbrev whole : After-read-n → List ℕ
whole r = take r.read-n.result r.read-n.new.out

held : (r : After-read-n) → whole r ≡ map key_of (corners r)
held r = read_front (corners r) r.args.whole.now r.read-n.ensures.0 r.read-n.ensures.1

pub read-n-requires-clause-all : goal.read-n-requires-clause-all
read-n-requires-clause-all c = (sound_of _ c.args.map.passes).valid.corners

pub upper_keys-above-requires-clause-all : goal.upper_keys-above-requires-clause-all
upper_keys-above-requires-clause-all c =
    let r = (goal.at.upper_keys-above-requires-clause-all c).After-read-n in
    subst (All KeyOk) (sym (held r)) (keys_ok (corners r) (sound_of _ c.args.map.passes).valid.corners)

pub merge-below-requires-clause-b_in_bounds : goal.merge-below-requires-clause-b_in_bounds
merge-below-requires-clause-b_in_bounds c =
    let r = (goal.at.merge-below-requires-clause-b_in_bounds c).After-read-n in
    halves_room (axis_at c.args.axis) (corners r) (sound_of _ c.args.map.passes).valid c.args.at c.requires.at_bound (held r) c.upper_keys-above.ensures _ (omega arith)

pub merge-below-requires-clause-all : goal.merge-below-requires-clause-all
merge-below-requires-clause-all c = none_below _

pub returns-clause-lower_keys : goal.returns-clause-lower_keys
returns-clause-lower_keys c =
    let r = (goal.at.returns-clause-lower_keys c).After-read-n in
    lower_made (axis_at c.args.axis) (corners r) (sound_of _ c.args.map.passes).valid c.args.at c.requires.at_bound (held r) c.upper_keys-above.ensures
    (merged_placed (whole r) _ c.upper_keys-above.new.work c.merge-below.ensures.0 c.merge-below.ensures.1)

pub returns-clause-upper_keys : goal.returns-clause-upper_keys
returns-clause-upper_keys c =
    let r = (goal.at.returns-clause-upper_keys c).After-read-n in
    upper_made (axis_at c.args.axis) (corners r) (sound_of _ c.args.map.passes).valid c.args.at c.requires.at_bound (held r) c.upper_keys-above.ensures
