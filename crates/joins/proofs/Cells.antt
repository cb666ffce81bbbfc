-- What a join comes to, cell by cell: from its promise to what stands in the result, and to when there is no room.
--   Asked          the number names an operation, and both lists pass
--   Made           done with n vertices: the first 3n numbers are n vertices, a map of the cells of which the operation holds; everything behind is
--                  untouched
--   join_cells     that is so wherever the promise allows "done with n vertices"
--   NotMade        the one list does not fit, and the result is untouched
--   join_short     that is so wherever the promise allows "no room"
--   join_answer    of an operation and two lists that pass, the answer is "done" exactly when the one list fits, and "no room" else
-- Assumes nothing.
use mathlib.Core.Path.{◌≡◌, refl, sym, ◌∙◌, ap}
use mathlib.Core.Bool.{Bool, true, false, cond}
use mathlib.Core.List.{List}
use mathlib.Core.Option.{Option, none, some}
use Prim.Native.Nat.{ℕ, ◌*◌}
use native.Mathlib.Omega.{arith}
use lib.IntN.{ℤ}
use lib.ListN.{length, take, drop}
use Rattle.std.specs.Prelude.{Ok, Err}
use Rattle.meaning.specs.declared.Cell.{Cell}
use Rattle.meaning.specs.declared.Corner.{Corner}
use Rattle.meaning.specs.Lists.{vertices, numbers, permitted}
use Rattle.meaning.specs.OneList.{WithinCodes}
use Rattle.meaning.specs.Made.{MapOf}
use Rattle.meaning.specs.Operations.{Operation, operation, join, joined_list}
use Rattle.meaning.specs.Verdicts.{verdict, passes}
use Rattle.meaning.specs.Outcomes.{Outcome, Nothing, nothing, bad_operation, kept, named, per_vertex, fits, front, placed}
use Rattle.meaning.proofs.Maps.{valid_within}
use Rattle.meaning.proofs.Making.{join_within}
use Rattle.meaning.proofs.Checked.{passes_valid}
use Rattle.meaning.proofs.Outcomes.{placed_fits, placed_short}
use Rattle.meaning.proofs.Made.{length_numbers, Stands, placed_stands, stands_behind, front_map, front_count}
use Rattle.joins.specs.Join.{Joining, join_values, join_says, joined_by, join_outcome, JoinMade}
use Rattle.joins.specs.declared.JoinError.TheVariants.{NoRoom}
use Rattle.joins.proofs.Answers.{by_first, by_second, by_list, join_settled}

-- ---- what is said

pub record Asked (op : ℕ) (a b : List ℤ) : Type 0 where
  pub by : Operation
  pub is : operation op ≡ some by
  pub first : passes (verdict a) ≡ true
  pub second : passes (verdict b) ≡ true

pub record Made (op : ℕ) (a b before : List ℤ) (n : ℕ) (after : List ℤ) : Type 0 where
  pub asked : Asked op a b
  pub map : MapOf (join asked.by (permitted (vertices a)) (permitted (vertices b))) (vertices (take (per_vertex * n) after))
  pub count : length (vertices (take (per_vertex * n) after)) ≡ n
  pub behind : drop (per_vertex * n) after ≡ drop (per_vertex * n) before

pub record NotMade (op : ℕ) (a b before after : List ℤ) : Type 0 where
  pub asked : Asked op a b
  pub short : fits per_vertex (joined_list asked.by a b) (length before) ≡ false
  pub untouched : after ≡ before

module _ (op : ℕ) (a b before : List ℤ) where
  -- an answer other than 8 that names no list
  asked_by : (r : Joining) (after : List ℤ) → (join_values r).operand ≡ 0 → ((join_values r).number ≡ 8 → ⊥) → JoinMade op a b before r after → Asked op a b
  unfolding JoinMade
  asked_by r after no-list named-one h = by_name (operation op) refl
    where
      operand_is : {o : Outcome Nothing (List ℤ)} → join_outcome op a b before ≡ o → o.values.operand ≡ 0
      operand_is e = sym (ap (λ o. o.values.operand) (h ∙ e)) ∙ no-list

      by_lists : (o : Operation) → operation op ≡ some o → (s t : Bool) → passes (verdict a) ≡ s → passes (verdict b) ≡ t → Asked op a b
      by_lists o is true true e f = record { by = o; is = is; first = e; second = f }
      by_lists o is true false e f = absurd (omega (arith, operand_is (by_second op a b before o is e f)))
      by_lists o is false t e f = absurd (omega (arith, operand_is (by_first op a b before o is e)))

      by_name : (x : Option Operation) → operation op ≡ x → Asked op a b
      by_name none e =
          absurd (named-one (ap (λ o. o.values.number) (h ∙ ap (λ y. named y (kept nothing before bad_operation) (joined_by a b before)) e)))
      by_name (some o) e = by_lists o e (passes (verdict a)) (passes (verdict b)) refl refl

  -- then the one list is placed
  module _ (q : Asked op a b) where
    abbrev made : List Corner
    made = joined_list q.by a b

    abbrev cells : Cell → Bool
    cells = join q.by (permitted (vertices a)) (permitted (vertices b))

    is_placed : join_outcome op a b before ≡ placed per_vertex numbers made before
    is_placed = by_list op a b before q.by q.is q.first q.second

    pub made_within : WithinCodes cells
    made_within =
        join_within q.by (permitted (vertices a)) (permitted (vertices b)) (valid_within (vertices a) (passes_valid a q.first))
        (valid_within (vertices b) (passes_valid b q.second))

    join_fits : fits per_vertex made (length before) ≡ true → join_outcome op a b before ≡ join_says (Ok (length made)) (front (numbers made) before)
    join_fits e = is_placed ∙ placed_fits per_vertex numbers made before e

    join_unfit : fits per_vertex made (length before) ≡ false → join_outcome op a b before ≡ join_says (Err NoRoom) before
    join_unfit e = is_placed ∙ placed_short per_vertex numbers made before e

    pub join_answer : (r : Joining) (after : List ℤ) → JoinMade op a b before r after
        → r ≡ cond (fits per_vertex made (length before)) (Ok (length made)) (Err NoRoom)
    unfolding JoinMade
    join_answer r after h = go (fits per_vertex made (length before)) refl
      where
        go : (t : Bool) → fits per_vertex made (length before) ≡ t → r ≡ cond t (Ok (length made)) (Err NoRoom)
        go true e = (join_settled op a b before r (Ok (length made)) after (front (numbers made) before) h (sym (join_fits e))).0
        go false e = (join_settled op a b before r (Err NoRoom) after before h (sym (join_unfit e))).0

    -- from where the one list stands to what it means
    made_cells : (n : ℕ) (after : List ℤ) → Stands per_vertex numbers made before n after → Made op a b before n after
    made_cells n after s =
        record {
          asked = q;
          map = front_map cells made_within before n after s;
          count = front_count cells made_within before n after s;
          behind = stands_behind per_vertex numbers length_numbers made before n after s;
        }

  pub join_cells : (n : ℕ) (after : List ℤ) → JoinMade op a b before (Ok n) after → Made op a b before n after
  unfolding JoinMade
  join_cells n after h =
      let q = asked_by (Ok n) after refl (λ e. omega arith) h in
      made_cells q n after (placed_stands per_vertex numbers (joined_list q.by a b) before n after (h ∙ is_placed q))

  pub join_short : (after : List ℤ) → JoinMade op a b before (Err NoRoom) after → NotMade op a b before after
  unfolding JoinMade
  join_short after h = go (fits per_vertex (joined_list q.by a b) (length before)) refl
    where
      q : Asked op a b
      q = asked_by (Err NoRoom) after refl (λ e. omega arith) h

      go : (t : Bool) → fits per_vertex (joined_list q.by a b) (length before) ≡ t → NotMade op a b before after
      go true e = absurd (omega (arith, ap (λ o. o.values.number) (h ∙ join_fits q e)))
      go false e = record { asked = q; short = e; untouched = ap (λ o. o.left) (h ∙ join_unfit q e) }
