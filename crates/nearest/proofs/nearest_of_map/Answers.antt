-- `nearest_of_map` meets its contract: the empty list, and then the least rank, found with small rooms or with large ones.
use mathlib.Core.Path.{sym, ap, subst}
use native.Mathlib.Omega.{arith}
use borrow.Author.Tests.{eqb-true}
use Rattle.std.specs.Prelude.{Ok}
use Rattle.meaning.specs.declared.Reached.{Reached}
use Rattle.meaning.specs.Lists.{most_vertices}
use Rattle.meaning.specs.Verdicts.{passes}
use Rattle.lists.proofs.Vertices.{length_vertices}
use Rattle.nearest.specs.Answer.{Answered}
use Rattle.nearest.proofs.Answers.{valid_list, not_empty, answered}
use Rattle.nearest.proofs.Promise.{answered_empty}
use Rattle.nearest.proofs.nearest_of_map.Goals as goal

pub returns-then-is_empty : goal.returns-then-is_empty
returns-then-is_empty c = answered_empty c.args.map.list.now _ (ap passes c.args.map.passes) (eqb-true _ 0 (sym c.if-is_empty.ensures))

pub rank_in_room-requires-clause-some : goal.rank_in_room-requires-clause-some
rank_in_room-requires-clause-some c = not_empty _ c.args.map.passes c.if-is_empty.ensures

pub rank_in_room-requires-clause-list_len_bound : goal.rank_in_room-requires-clause-list_len_bound
rank_in_room-requires-clause-list_len_bound c = omega (arith, length_vertices c.args.map.list.now, c.if-map.true)

pub returns-then-map : goal.returns-then-map
returns-then-map c =
    subst (λ (r : Reached). Answered c.args.map.list.now c.args.wish (Ok r)) (sym c.answer.ensures)
    (answered _ _ _ c.args.map.passes c.rank_in_room.ensures.0)

-- the list has no more vertices than a list may have
pub rank_in_room-requires-2-clause-list_len_bound : goal.rank_in_room-requires-2-clause-list_len_bound
unfolding most_vertices
rank_in_room-requires-2-clause-list_len_bound c = (valid_list _ c.args.map.passes).few

pub returns : goal.returns
returns c =
    subst (λ (r : Reached). Answered c.args.map.list.now c.args.wish (Ok r)) (sym c.answer-2.ensures)
    (answered _ _ _ c.args.map.passes c.rank_in_room-2.ensures.0)
