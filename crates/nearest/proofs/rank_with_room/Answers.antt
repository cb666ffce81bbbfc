-- `rank_with_room` meets its contract: the keys of the list are those of its map.
use mathlib.Core.Path.{subst}
use mathlib.Core.List.{List}
use Rattle.meaning.specs.declared.Corner.{Corner}
use Rattle.meaning.specs.Lists.{vertices, Valid}
use Rattle.nearest.specs.Ranks.{LeastRank}
use Rattle.nearest.proofs.Answers.{valid_list}
use Rattle.nearest.proofs.Reach.{keys_front, keyed, keyed_corners}
use Rattle.nearest.proofs.rank_with_room.Goals as goal
use Rattle.nearest.proofs.rank_with_room.Goals.{After-read-n}

pub read-n-requires-clause-all : goal.read-n-requires-clause-all
read-n-requires-clause-all c = (valid_list _ c.args.map.passes).corners

valid : (c : After-read-n) → Valid (vertices c.args.map.list.now)
valid c = valid_list _ c.args.map.passes

pub extents_of-extents-requires : goal.extents_of-extents-requires
extents_of-extents-requires c =
    let r = (goal.at.extents_of-extents-requires c).After-read-n in
    keyed (vertices c.args.map.list.now) _ (keys_front _ _ _ _ r.read-n.ensures) (valid r) c.requires.some

pub returns : goal.returns
returns c =
    let r = (goal.at.returns c).After-read-n in
    subst (λ (l : List Corner). LeastRank l c.args.wish c.rank_of_wish.result)
    (keyed_corners (vertices c.args.map.list.now) _ (keys_front _ _ _ _ r.read-n.ensures) (valid r)) c.rank_of_wish.ensures
