-- The promise of many wishes: its cases, and that it is settled.
--   many_refused, many_not, many_empty, many_short, many_done    the promise, from what is known
--   many_once        whatever nearest cells are taken, the call comes to the same
--   many_settled     two outcomes that the promise allows are equal, answer and contents
-- Assumes nothing.
use mathlib.Core.Path.{◌≡◌, refl, sym, ◌∙◌, ap, subst}
use mathlib.Core.Bool.{Bool, true, false, cond}
use mathlib.Core.List.{List, [], ◌∷◌, map}
use Prim.Native.Nat.{◌*◌, ◌%◌, ◌≤◌, ◌<◌}
use native.Mathlib.Omega.{arith}
use borrow.Author.Tests.{eq-eqb, ne_eqb, le-leb, lt-leb}
use lib.Dec.{leb, eqb}
use lib.IntN.{ℤ}
use lib.ListN.{length}
use Rattle.meaning.specs.declared.Cell.{Cell}
use Rattle.meaning.specs.declared.Corner.{Corner}
use Rattle.meaning.specs.Lists.{vertices}
use Rattle.meaning.specs.Verdicts.{Verdict, verdict, passes}
use Rattle.meaning.specs.Outcomes.{Values, Outcome, outcome, Nothing, nothing, done, refused, no_room, kept, checked, per_vertex, front}
use Rattle.meaning.specs.declared.Refusal.{Refusal}
use Rattle.meaning.specs.declared.Refusal.TheVariants.{NotTriples}
use Rattle.std.specs.Prelude.{Ok, Err}
use Rattle.meaning.proofs.Outcomes.{verdict_by, verdict_back, checked_next}
use Rattle.wishes.specs.declared.WishError.TheVariants.{Refused, NotWishes, Empty, NoRoom}
use Rattle.wishes.specs.Many.{Wished, wishes, cell_numbers, EachNearest, many_values, many_says, many_of, many_outcome, ManyAnswered}
use Rattle.wishes.specs.Each.{EachPut}
use Rattle.wishes.proofs.Each.{nearest_to, each_nearest, each_long, each_once, length_wishes}

-- ---- the promise, from what is known

module _ (ns ws before : List ℤ) where
  -- what follows the check, and what follows where the wishes come in threes
  abbrev after_check : List Cell → Outcome Nothing (List ℤ)
  after_check cs = cond (eqb (length ws % per_vertex) 0) (many_of (vertices ns) cs before) (kept nothing before (refused 2 (Err NotTriples)))

  -- cells that are the nearest to the wishes, where none is asked for
  abbrev some_cells : List Cell
  some_cells = map (nearest_to ns) (wishes ws)

  pub many_refused : (r : Refusal) → verdict ns ≡ Err r → ManyAnswered ns ws before (Err (Refused r)) before
  many_refused r e =
      record {
        cells = some_cells;
        nearest = each_nearest ns (wishes ws);
        is = ap (λ v. checked 1 v (kept nothing before) (after_check some_cells)) (sym e);
      }

  module _ (p : passes (verdict ns) ≡ true) where
    passed : (cs : List Cell) → many_outcome ns ws cs before ≡ after_check cs
    passed cs = checked_next 1 (verdict ns) (kept nothing before) (after_check cs) p

    pub many_not : (length ws % 3 ≡ 0 → ⊥) → ManyAnswered ns ws before (Err NotWishes) before
    many_not h =
        record {
          cells = some_cells;
          nearest = each_nearest ns (wishes ws);
          is =
              sym (passed some_cells ∙
              ap (λ t. cond t (many_of (vertices ns) some_cells before) (kept nothing before (refused 2 (Err NotTriples)))) (ne_eqb (length ws % 3) 0 h));
        }

    module _ (threes : length ws % 3 ≡ 0) where
      in_threes : (cs : List Cell) → many_outcome ns ws cs before ≡ many_of (vertices ns) cs before
      in_threes cs =
          passed cs ∙ ap (λ t. cond t (many_of (vertices ns) cs before) (kept nothing before (refused 2 (Err NotTriples)))) (eq-eqb (length ws % 3) 0 threes)

      pub many_empty : length (vertices ns) ≡ 0 → ManyAnswered ns ws before (Err Empty) before
      many_empty h =
          record { cells = some_cells; nearest = each_nearest ns (wishes ws); is = sym (in_threes some_cells ∙ by (vertices ns) h) }
        where
          by : (l : List Corner) → length l ≡ 0 → many_of l some_cells before ≡ many_says (Err Empty) before
          by [] k = refl
          by (v ∷ l) k = absurd (omega arith)

      module _ (some : 0 < length (vertices ns)) (cs : List Cell) (h : EachNearest ns (wishes ws) cs) where
        -- the cells have as many numbers as the wishes
        long : 3 * length cs ≡ length ws
        long = omega (arith, each_long ns (wishes ws) cs h, length_wishes ws, threes)

        of_some : (t : Bool) → leb (3 * length cs) (length before) ≡ t
            → many_outcome ns ws cs before ≡ cond t (outcome (done 0) nothing (front (cell_numbers cs) before)) (kept nothing before no_room)
        of_some t e = in_threes cs ∙ by (vertices ns) some
          where
            by : (l : List Corner) → 0 < length l
                → many_of l cs before ≡ cond t (outcome (done 0) nothing (front (cell_numbers cs) before)) (kept nothing before no_room)
            by [] k = absurd (omega arith)
            by (v ∷ l) k = ap (λ u. cond u (outcome (done 0) nothing (front (cell_numbers cs) before)) (kept nothing before no_room)) e

        short : length before < length ws → ManyAnswered ns ws before (Err NoRoom) before
        short k = record { cells = cs; nearest = h; is = sym (of_some false (lt-leb (3 * length cs) (length before) (omega (arith, long)))) }

        put : length ws ≤ length before → (after : List ℤ) → after ≡ front (cell_numbers cs) before → ManyAnswered ns ws before (Ok tt) after
        put k after e =
            record {
              cells = cs;
              nearest = h;
              is = ap (λ o. outcome (done 0) nothing o) e ∙ sym (of_some true (le-leb (3 * length cs) (length before) (omega (arith, long))));
            }

      module _ (some : 0 < length (vertices ns)) where
        pub many_short : length before < length ws → ManyAnswered ns ws before (Err NoRoom) before
        many_short k = short some some_cells (each_nearest ns (wishes ws)) k

        pub many_done : length ws ≤ length before → (after : List ℤ) → EachPut ns ws before after → ManyAnswered ns ws before (Ok tt) after
        many_done k after e = put some e.cells e.nearest k after e.is

-- ---- the promise is settled

-- the answer of a list that is refused so
abbrev refused_by : Verdict → Wished
refused_by (Ok u) = Ok tt
refused_by (Err r) = Err (Refused r)

-- the answer with these values
wished_by : Values → Wished
wished_by s =
    cond (eqb s.operand 1) (refused_by (verdict_by s.number s.place))
    (cond (eqb s.operand 2) (Err NotWishes) (cond (eqb s.number 7) (Err Empty) (cond (eqb s.number 6) (Err NoRoom) (Ok tt))))

wished_back : (r : Wished) → wished_by (many_values r) ≡ r
unfolding wished_by
wished_back (Ok tt) = refl
wished_back (Err (Refused r)) = ap refused_by (verdict_back (Err r))
wished_back (Err NotWishes) = refl
wished_back (Err Empty) = refl
wished_back (Err NoRoom) = refl

module _ (ns ws before : List ℤ) where
  -- what the call comes to, by what the check says and whether there is a vertex
  abbrev comes : Bool → List Corner → List Cell → Outcome Nothing (List ℤ)
  comes t l cs =
      cond t (cond (eqb (length ws % per_vertex) 0) (many_of l cs before) (kept nothing before (refused 2 (Err NotTriples))))
      (kept nothing before (refused 1 (verdict ns)))

  pub many_once : (cs ds : List Cell) → EachNearest ns (wishes ws) cs → EachNearest ns (wishes ws) ds
      → many_outcome ns ws cs before ≡ many_outcome ns ws ds before
  many_once cs ds h k = by (passes (verdict ns)) refl (vertices ns) refl
    where
      by : (t : Bool) → passes (verdict ns) ≡ t → (l : List Corner) → vertices ns ≡ l → comes t l cs ≡ comes t l ds
      by false p l q = refl
      by true p [] q = refl
      by true p (v ∷ l) q = ap (comes true (v ∷ l)) (each_once ns p (subst (λ (j : List Corner). 0 < length j) (sym q) (omega arith)) (wishes ws) cs ds h k)

  pub many_settled : (r s : Wished) (x y : List ℤ) → ManyAnswered ns ws before r x → ManyAnswered ns ws before s y → (r ≡ s) × (x ≡ y)
  many_settled r s x y h k =
      let e : many_says r x ≡ many_says s y = h.is ∙ many_once h.cells k.cells h.nearest k.nearest ∙ sym k.is in
      (sym (wished_back r) ∙ ap (λ o. wished_by o.values) e ∙ wished_back s, ap (λ o. o.left) e)
