-- Laws of the exported functions: what is passed on comes back, and what a function comes to is what is packed.
--   back_one, back_three, back_ends      a signed number that is passed on comes back from its bits
--   exported                             an answer that gives nothing beside its values, packed
--   check_place, check_packed, cell_fits, cell_packed, corner_fits, corner_packed, ends_fit, ends_of, plane_packed    the check and the questions
--   box_packed, join_fits, join_packed, section_fits, section_packed, split_fits, split_packed               what makes lists
--   found_fits, found_packed             nearest
--   many_fits, many_packed               nearest for many wishes
use mathlib.Core.Path.{◌≡◌, refl, sym, ◌∙◌, ap, subst}
use mathlib.Core.Bool.{Bool, true, false, cond}
use mathlib.Core.List.{List}
use Prim.Native.Nat.{ℕ, ◌*◌, ◌≤◌}
use native.Mathlib.Omega.{arith}
use lib.IntN.{ℤ}
use mir.Syntax.{w16}
use mir.Val.{SFits, to_z, of_z}
use mir.ValLaws.{to_z-of_z}
use Rattle.meaning.specs.Numbers.{cell, corner}
use Rattle.meaning.specs.declared.Cell.{Cell}
use Rattle.meaning.specs.declared.Corner.{Corner}
use Rattle.meaning.specs.Counting.{count}
use Rattle.meaning.specs.Lists.{vertices, permitted, surrounding, most_vertices}
use Rattle.meaning.specs.Verdicts.{Verdict, verdict, passes, refusal_place}
use Rattle.meaning.specs.Outcomes.{Values, Outcome, outcome, Nothing, nothing, done, kept, checked, verdict_values}
use Rattle.meaning.specs.declared.Reached.{Reached}
use Rattle.std.specs.Prelude.{Result, Ok, Err}
use Rattle.meaning.specs.declared.Refusal.{Refusal}
use Rattle.lists.specs.Check.{Checked}
use Rattle.lists.proofs.Verdicts.{checked_verdict}
use Rattle.boxes.specs.Box.{Boxed, box_values, BoxMade}
use Rattle.asks.specs.Asks.{cell_values, cell_says, cell_outcome, CellPromise, report, report_on, corner_says, corner_outcome, CornerPromise, plane_ends, EndsPromise, through_plane}
use Rattle.asks.specs.declared.Report.{Report}
use Rattle.asks.specs.declared.Ends.{Ends}
use Rattle.asks.proofs.Planes.{count_le}
use Rattle.asks.proofs.Answers.{passes_map, ends_within}
use Rattle.joins.specs.Join.{Joining, join_values, JoinMade}
use Rattle.cuts.specs.Answers.{Sectioned, section_values, SectionPromise, Halved, split_values, SplitPromise}
use Rattle.nearest.specs.Answer.{Found, found_values, found_says, Answered}
use Rattle.wishes.specs.Many.{Wished, many_values, ManyAnswered}
use Rattle.packing.specs.Packed.{packed_values, packed_cell, packed_corner, packed_part, Few}
use Rattle.packing.proofs.Bounds.{place_few, cell_few, corner_few, join_few, section_few, split_few, nearest_few, many_few}
use Rattle.travelmap.specs.Exports.{Exported, three_axes, CheckPacked, CellPacked, CornerPacked, PlanePacked, BoxPacked, JoinPacked, SectionPacked, SplitPacked, NearestBy, ManyPacked}

-- ---- a signed number that is passed on comes back from its bits

abbrev back : ℤ → ℤ
back z = to_z w16 (of_z w16 z)

pub back_one : {A : Type 0} (f : ℤ → A) (z : ℤ) → SFits w16 z → f (back z) ≡ f z
back_one f z h = ap f (to_z-of_z w16 z h)

pub back_three : {A : Type 0} (f : ℤ → ℤ → ℤ → A) (x y z : ℤ) → SFits w16 x → SFits w16 y → SFits w16 z → f (back x) (back y) (back z) ≡ f x y z
back_three f x y z p q r i = f (to_z-of_z w16 x p i) (to_z-of_z w16 y q i) (to_z-of_z w16 z r i)

-- ---- what a function comes to

module _ {Given Left : Type 0} {v : Values} {given : Given} {left : Left} {o : Outcome Given Left} (h : outcome v given left ≡ o) where
  fits_by : Few o.values → Few v
  fits_by f = subst Few (sym (ap (λ p. p.values) h)) f

exported : {Left : Type 0} {v : Values} {after : Left} {o : Outcome Nothing Left} {r : ℕ} → outcome v nothing after ≡ o → r ≡ packed_values v
    → Exported o r after
exported h e = record { answer = e ∙ ap (λ p. packed_values p.values) h; contents = ap (λ p. p.left) h }

-- ---- the check and the questions

module _ (ns : List ℤ) where
  pub check_place : (v : Verdict) → Checked ns v → refusal_place v ≤ most_vertices
  check_place v h = subst (λ u. refusal_place u ≤ most_vertices) (sym (checked_verdict ns v h)) (place_few ns)

  pub check_packed : (v : Verdict) (r : ℕ) → Checked ns v → r ≡ packed_values (verdict_values v) → CheckPacked ns r
  unfolding Checked
  check_packed v r h e = e ∙ ap (λ o. packed_values o.values) h

  pub cell_fits : (c : Cell) (a : Result Bool Refusal) → CellPromise ns c a → Few (cell_values a)
  unfolding CellPromise
  cell_fits c a h = fits_by h (cell_few ns c)

  module _ (x y z : ℤ) (fx : SFits w16 x) (fy : SFits w16 y) (fz : SFits w16 z) where
    pub cell_packed : (a : Result Bool Refusal) (r : ℕ) → CellPromise ns (cell (back x) (back y) (back z)) a → r ≡ packed_cell (cell_says a)
        → CellPacked ns (cell x y z) r
    unfolding CellPromise
    cell_packed a r h e = e ∙ ap packed_cell h ∙ back_three (λ x y z. packed_cell (cell_outcome ns (cell x y z))) x y z fx fy fz

    pub corner_packed : (a : Result Report Refusal) (r : ℕ) → CornerPromise ns (corner (back x) (back y) (back z)) a → r ≡ packed_corner (corner_says a)
        → CornerPacked ns (corner x y z) r
    unfolding CornerPromise
    corner_packed a r h e = e ∙ ap packed_corner h ∙ back_three (λ x y z. packed_corner (corner_outcome ns (corner x y z))) x y z fx fy fz

  -- there are eight cells round a corner
  pub corner_fits : (v : Corner) (a : Result Report Refusal) → CornerPromise ns v a → Few (corner_says a).values × ((corner_says a).given.how_many ≤ 8)
  unfolding CornerPromise
  corner_fits v a h = (
    fits_by h (corner_few ns v),
    subst (λ (n : ℕ). n ≤ 8) (sym (ap (λ o. o.given.how_many) h)) (eight (verdict ns)),
  )
    where
      eight : (u : Verdict) → (checked 1 u (kept (report 0 0 0) nothing) (outcome (done 0) (report_on (permitted (vertices ns)) v) nothing)).given.how_many ≤ 8
      eight (Ok u) = count_le (permitted (vertices ns)) (surrounding v)
      eight (Err r) = omega arith

  pub ends_fit : (x : ℤ) (r : Ends) → EndsPromise ns x r → (r.start ≤ r.end) × (r.end ≤ 3 * most_vertices)
  ends_fit x r h =
      ((ends_within ns x r h).0, subst (λ (n : ℕ). n ≤ 3 * most_vertices) (sym (ap (λ q. q.end) h.answer)) (go (passes (verdict ns)) refl))
    where
      go : (t : Bool) → passes (verdict ns) ≡ t → cond t (3 * count (through_plane x) (vertices ns)) 0 ≤ 3 * most_vertices
      go true e = omega (arith, count_le (through_plane x) (vertices ns), (passes_map ns e).few)
      go false e = omega arith

  pub ends_of : (x : ℤ) → ((plane_ends ns x).start ≤ (plane_ends ns x).end) × ((plane_ends ns x).end ≤ 3 * most_vertices)
  ends_of x = ends_fit x (plane_ends ns x) (record { answer = refl })

  pub plane_packed : (x : ℤ) → SFits w16 x → (a : Ends) (r : ℕ) → EndsPromise ns (back x) a → r ≡ packed_part a → PlanePacked ns x r
  plane_packed x f a r h e = e ∙ ap packed_part h.answer ∙ back_one (λ x. packed_part (plane_ends ns x)) x f

-- ---- what makes lists

-- the six ends of a box
module _ (a a' b b' d d' : ℤ) (p : SFits w16 a) (p' : SFits w16 a') (q : SFits w16 b) (q' : SFits w16 b') (s : SFits w16 d) (s' : SFits w16 d') where
  back_ends : three_axes (back a) (back a') (back b) (back b') (back d) (back d') ≡ three_axes a a' b b' d d'
  back_ends i = three_axes (to_z-of_z w16 a p i) (to_z-of_z w16 a' p' i) (to_z-of_z w16 b q i) (to_z-of_z w16 b' q' i) (to_z-of_z w16 d s i) (to_z-of_z w16 d' s' i)

  pub box_packed : (out after : List ℤ) (made : Boxed) (r : ℕ) → BoxMade (three_axes (back a) (back a') (back b) (back b') (back d) (back d')) out made after
      → r ≡ packed_values (box_values made) → BoxPacked (three_axes a a' b b' d d') out r after
  unfolding BoxMade
  box_packed out after made r m e = subst (λ ends. BoxPacked ends out r after) back_ends (exported m e)

module _ (op : ℕ) (a b before : List ℤ) (made : Joining) (after : List ℤ) (h : JoinMade op a b before made after) where
  pub join_fits : Few (join_values made)
  unfolding JoinMade
  join_fits = fits_by h (join_few op a b before)

  pub join_packed : (r : ℕ) → r ≡ packed_values (join_values made) → JoinPacked op a b before r after
  unfolding JoinMade
  join_packed r e = exported h e

module _ (ns : List ℤ) (n : ℕ) where
  module _ (k : ℤ) (before : List ℤ) (made : Sectioned) (after : List ℤ) where
    pub section_fits : SectionPromise ns n k before made after → Few (section_values made)
    unfolding SectionPromise
    section_fits h = fits_by h (section_few ns n k before)

    pub section_packed : (r : ℕ) → SFits w16 k → SectionPromise ns n (back k) before made after → r ≡ packed_values (section_values made)
        → SectionPacked ns n k before r after
    unfolding SectionPromise
    section_packed r f h e = subst (λ z. SectionPacked ns n z before r after) (to_z-of_z w16 k f) (exported h e)

  module _ (p : ℤ) (low high : List ℤ) (made : Halved) (low' high' : List ℤ) where
    pub split_fits : SplitPromise ns n p low high made low' high' → Few (split_values made)
    unfolding SplitPromise
    split_fits h = fits_by h (split_few ns n p low high)

    pub split_packed : (r : ℕ) → SFits w16 p → SplitPromise ns n (back p) low high made low' high' → r ≡ packed_values (split_values made)
        → SplitPacked ns n p low high r low' high'
    unfolding SplitPromise
    split_packed r f h e = subst (λ z. SplitPacked ns n z low high r low' high') (to_z-of_z w16 p f) (exported h e)

-- ---- nearest

module _ (ns : List ℤ) (f : Found) where
  pub found_fits : (w : Cell) → Answered ns w f → Few (found_values f)
  found_fits w h = fits_by h.is (nearest_few ns w h.at)

  pub found_packed : (pack : Outcome Reached Nothing → ℕ) (x y z : ℤ) → SFits w16 x → SFits w16 y → SFits w16 z → (r : ℕ)
      → Answered ns (cell (back x) (back y) (back z)) f → r ≡ pack (found_says f) → NearestBy pack ns (cell x y z) r
  found_packed pack x y z p q s r h e =
      subst (λ (w : Cell). NearestBy pack ns w r) (back_three cell x y z p q s)
      (record { at = h.at; nearest = h.nearest; answer = e ∙ ap pack h.is })

module _ (ns ws before : List ℤ) (made : Wished) (after : List ℤ) (h : ManyAnswered ns ws before made after) where
  pub many_fits : Few (many_values made)
  many_fits = fits_by h.is (many_few ns ws h.cells before)

  pub many_packed : (r : ℕ) → r ≡ packed_values (many_values made) → ManyPacked ns ws before r after
  many_packed r e =
      let x = exported h.is e in record { cells = h.cells; nearest = h.nearest; answer = x.answer; contents = x.contents }
