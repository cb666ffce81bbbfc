-- The promise of nearest: its cases, what it says of each answer, and that it is settled.
--   answered_cell, answered_empty, answered_refused    the promise, from what is known
--   found_cell, found_empty, found_refused             what the promise says of each answer
--   outcome_once, settled                              nearest comes to one thing, and two answers that the promise allows are equal
-- Assumes nothing.
use mathlib.Core.Path.{◌≡◌, refl, sym, ◌∙◌, ap, subst}
use mathlib.Core.Bool.{Bool, true, false, cond, true≢false, false≢true}
use mathlib.Core.List.{List, [], ◌∷◌}
use native.Mathlib.Omega.{arith}
use lib.Dec.{eqb}
use lib.IntN.{ℤ, pos}
use lib.ListN.{length}
use Rattle.std.specs.Prelude.{Ok, Err}
use Rattle.meaning.specs.Numbers.{cell}
use Rattle.meaning.specs.declared.Cell.{Cell}
use Rattle.meaning.specs.declared.Corner.{Corner}
use Rattle.meaning.specs.Lists.{vertices, permitted, Rising}
use Rattle.meaning.specs.Verdicts.{Verdict, verdict, passes}
use Rattle.meaning.specs.Outcomes.{Outcome, outcome, Nothing, nothing, done, refused, kept, checked}
use Rattle.meaning.specs.Nearest.{distance, Nearest, reached, nowhere, nearest_of, IsNearest, nearest_outcome}
use Rattle.meaning.specs.declared.Reached.{Reached}
use Rattle.meaning.specs.declared.Refusal.{Refusal}
use Rattle.meaning.proofs.Checked.{passes_valid}
use Rattle.meaning.proofs.Closest.{nearest_unique}
use Rattle.meaning.proofs.Maps.{some_permitted}
use Rattle.meaning.proofs.Outcomes.{verdict_by, verdict_back, checked_next}
use Rattle.nearest.specs.declared.NearestError.TheVariants.{Empty, Refused}
use Rattle.nearest.specs.Answer.{Found, found_says, Answered}

-- ---- the promise, from what is known

-- a list that permits a cell is not empty
nearest_of_lem : (l : List Corner) (w c d : Cell) → permitted l d ≡ true → nearest_of l w c ≡ outcome (done 0) (reached c (distance w c)) nothing
nearest_of_lem [] w c d e = absurd (false≢true e)
nearest_of_lem (v ∷ l) w c d e = refl

module _ (ns : List ℤ) (w : Cell) where
  pub answered_cell : passes (verdict ns) ≡ true → (r : Reached) → Nearest (permitted (vertices ns)) w r.at → r.far ≡ distance w r.at
      → Answered ns w (Ok r)
  answered_cell p r h e =
      record {
        at = r.at;
        nearest = λ q x y. h;
        is =
            ap (λ m. outcome (done 0) (reached r.at m) nothing) e ∙
            sym (checked_next 1 (verdict ns) (kept nowhere nothing) (nearest_of (vertices ns) w r.at) p ∙ nearest_of_lem (vertices ns) w r.at r.at h.member);
      }

  pub answered_refused : (r : Refusal) → verdict ns ≡ Err r → Answered ns w (Err (Refused r))
  answered_refused r e =
      let c = cell (pos 0) (pos 0) (pos 0) in
      record {
        at = c;
        nearest = λ q. absurd (true≢false (sym q ∙ ap passes e));
        is = ap (λ v. checked 1 v (kept nowhere nothing) (nearest_of (vertices ns) w c)) (sym e);
      }

pub answered_empty : (ns : List ℤ) (w : Cell) → passes (verdict ns) ≡ true → length ns ≡ 0 → Answered ns w (Err Empty)
answered_empty [] w p e =
    let c = cell (pos 0) (pos 0) (pos 0) in
    record {
      at = c;
      nearest = λ q d y. absurd (false≢true y);
      is = sym (checked_next 1 (verdict []) (kept nowhere nothing) (nearest_of [] w c) p);
    }
answered_empty (x ∷ l) w p e = absurd (omega arith)

-- ---- what the promise says of each answer

module _ (ns : List ℤ) (w : Cell) where
  -- what nearest comes to, by what the check says and whether there is a vertex
  abbrev comes : Bool → List Corner → Cell → Outcome Reached Nothing
  comes t l c = cond t (nearest_of l w c) (kept nowhere nothing (refused 1 (verdict ns)))

  pub found_cell : (r : Reached) → Answered ns w (Ok r) →
      (passes (verdict ns) ≡ true) × Nearest (permitted (vertices ns)) w r.at × (r.far ≡ distance w r.at)
  found_cell r h = by (passes (verdict ns)) refl (vertices ns) refl h.is
    where
      by : (t : Bool) → passes (verdict ns) ≡ t → (l : List Corner) → vertices ns ≡ l → found_says (Ok r) ≡ comes t l h.at
          → (passes (verdict ns) ≡ true) × Nearest (permitted (vertices ns)) w r.at × (r.far ≡ distance w r.at)
      by false p l q e = absurd (omega (arith, ap (λ o. o.values.operand) e))
      by true p [] q e = absurd (omega (arith, ap (λ o. o.values.number) e))
      by true p (v ∷ l) q e =
          let is : r.at ≡ h.at = ap (λ o. o.given.at) e in
          let (c, m) = some_permitted v l (subst Rising q (passes_valid ns p).rising) in (
            p,
            subst (Nearest (permitted (vertices ns)) w) (sym is) (h.nearest p c (ap (λ k. permitted k c) q ∙ m)),
            ap (λ o. o.given.far) e ∙ ap (distance w) (sym is),
          )

  pub found_empty : Answered ns w (Err Empty) → (passes (verdict ns) ≡ true) × (vertices ns ≡ [])
  found_empty h = by (passes (verdict ns)) refl (vertices ns) refl h.is
    where
      by : (t : Bool) → passes (verdict ns) ≡ t → (l : List Corner) → vertices ns ≡ l → found_says (Err Empty) ≡ comes t l h.at
          → (passes (verdict ns) ≡ true) × (vertices ns ≡ [])
      by false p l q e = absurd (omega (arith, ap (λ o. o.values.operand) e))
      by true p [] q e = (p, q)
      by true p (v ∷ l) q e = absurd (omega (arith, ap (λ o. o.values.number) e))

  pub found_refused : (r : Refusal) → Answered ns w (Err (Refused r)) → (Err r ≡ verdict ns) × (passes (verdict ns) ≡ false)
  found_refused r h = by (passes (verdict ns)) refl (vertices ns) refl h.is
    where
      by : (t : Bool) → passes (verdict ns) ≡ t → (l : List Corner) → vertices ns ≡ l → found_says (Err (Refused r)) ≡ comes t l h.at
          → (Err r ≡ verdict ns) × (passes (verdict ns) ≡ false)
      by false p l q e = (sym (verdict_back (Err r)) ∙ ap (λ o. verdict_by o.values.number o.values.place) e ∙ verdict_back (verdict ns), p)
      by true p [] q e = absurd (omega (arith, ap (λ o. o.values.operand) e))
      by true p (x ∷ l) q e = absurd (omega (arith, ap (λ o. o.values.operand) e))

-- ---- the promise is settled

-- the answer of a list that is refused so
abbrev refused_by : Verdict → Found
refused_by (Ok u) = Err Empty
refused_by (Err r) = Err (Refused r)

-- the answer that comes to an outcome
found_by : Outcome Reached Nothing → Found
found_by o =
    cond (eqb o.values.operand 1) (refused_by (verdict_by o.values.number o.values.place)) (cond (eqb o.values.number 7) (Err Empty) (Ok o.given))

found_back : (r : Found) → found_by (found_says r) ≡ r
unfolding found_by
found_back (Ok r) = refl
found_back (Err Empty) = refl
found_back (Err (Refused r)) = ap refused_by (verdict_back (Err r))

module _ (ns : List ℤ) (w : Cell) where
  -- whatever nearest cell is taken, nearest comes to the same
  pub outcome_once : (a b : Cell) → IsNearest ns w a → IsNearest ns w b → nearest_outcome ns w a ≡ nearest_outcome ns w b
  outcome_once a b h k = by (passes (verdict ns)) refl (vertices ns) refl
    where
      by : (t : Bool) → passes (verdict ns) ≡ t → (l : List Corner) → vertices ns ≡ l → comes ns w t l a ≡ comes ns w t l b
      by false p l q = refl
      by true p [] q = refl
      by true p (v ∷ l) q =
          let (c, m) = some_permitted v l (subst Rising q (passes_valid ns p).rising) in
          let y = ap (λ j. permitted j c) q ∙ m in
          ap (λ c. outcome (done 0) (reached c (distance w c)) nothing) (nearest_unique (permitted (vertices ns)) w a b (h p c y) (k p c y))

  pub settled : (r s : Found) → Answered ns w r → Answered ns w s → r ≡ s
  settled r s h k = sym (found_back r) ∙ ap found_by (h.is ∙ outcome_once h.at k.at h.nearest k.nearest ∙ sym k.is) ∙ found_back s
