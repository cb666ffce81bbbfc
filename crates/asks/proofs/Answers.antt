-- Laws of the answers: what a verdict makes of each, and that each promise settles its answer.
--   cell_refused, cell_said    the promise of the cell query, from the promise of the check and whether the cell is permitted
--   corner_refused, corner_said    the promise of the corner report, from the promise of the check, the mask, its ones and its kind
--   passes_map, outside_no    where the check passes, the list is valid; outside the codes the query of a valid list is done, with no
--   ends_refused, ends_said, ends_within    where the plane stands, from the promise of the check and where the passes stop; within the list
--   plane_cut, plane_said    what stands there in the list is the plane's; the promise of the plane query, from that place
--   cell_settled, corner_settled, ends_settled, plane_settled    any two outcomes that a promise allows are equal
use mathlib.Core.Path.{◌≡◌, refl, sym, ◌∙◌, ap, ap₂}
use mathlib.Core.Bool.{Bool, true, false, cond, true≢false}
use mathlib.Core.List.{List, []}
use Prim.Native.Nat.{ℕ, zero, suc, ◌+◌, ◌*◌, ◌-◌, ◌≤◌}
use native.Mathlib.Nat.{add_comm}
use native.Mathlib.Omega.{arith}
use lib.Count.{ones}
use lib.IntN.{ℤ}
use lib.ListN.{length, take, drop}
use mir.Syntax.{w16}
use mir.Val.{SFits}
use Rattle.meaning.specs.Numbers.{is_cell}
use Rattle.meaning.specs.declared.Cell.{Cell}
use Rattle.meaning.specs.declared.Corner.{Corner}
use Rattle.meaning.specs.Lists.{vertices, numbers, permitted, mask, Valid as Map}
use Rattle.meaning.specs.Verdicts.{Verdict, verdict, passes}
use Rattle.std.specs.Prelude.{Result, Ok, Err, is_err}
use Rattle.meaning.specs.declared.Refusal.{Refusal}
use Rattle.meaning.specs.Counting.{count, keep}
use Rattle.meaning.specs.Kinds.{kind}
use Rattle.meaning.specs.Outcomes.{Outcome, outcome, Nothing, nothing, done, kept, checked}
use Rattle.meaning.proofs.Integers.{not_yes}
use Rattle.meaning.proofs.Maps.{valid_within}
use Rattle.meaning.proofs.Checked.{passes_valid}
use Rattle.meaning.proofs.Outcomes.{verdict_by, verdict_back, checked_next}
use Rattle.kinds.proofs.Masks.{ones_mask}
use Rattle.codes.specs.Lift.{lifted}
use Rattle.lists.specs.Check.{Checked}
use Rattle.lists.proofs.Verdicts.{checked_verdict}
use Rattle.asks.specs.declared.Report.{Report}
use Rattle.asks.specs.declared.Ends.{Ends}
use Rattle.asks.specs.Asks.{cell_says, cell_outcome, CellPromise, report, corner_says, report_on, CornerPromise}
use Rattle.asks.specs.Asks.{on_plane, plane_numbers, before_plane, through_plane, plane_ends, EndsPromise, Pointer, number_bytes, behind, plane_says, PlanePromise}
use Rattle.asks.specs.Passes.{under, leading}
use Rattle.asks.proofs.Planes.{before_through, count_le, vertices_length, plane_start, plane_end, plane_part}

-- ---- is this cell permitted

module _ (ns : List ℤ) (c : Cell) where
  abbrev said : Outcome Bool Nothing
  said = outcome (done 0) (permitted (vertices ns) c) nothing

  pub cell_refused : (r : Refusal) → Checked ns (Err r) → CellPromise ns c (Err r)
  unfolding CellPromise
  cell_refused r h = ap (λ w. checked 1 w (kept false nothing) said) (checked_verdict ns (Err r) h)

  pub cell_said : (b : Bool) → Checked ns (Ok tt) → b ≡ permitted (vertices ns) c → CellPromise ns c (Ok b)
  unfolding CellPromise
  cell_said b h f =
      ap (λ t. outcome (done 0) t nothing) f
      ∙ ap (λ w. checked 1 w (kept false nothing) said) (checked_verdict ns (Ok tt) h)

-- ---- the corner report

module _ (ns : List ℤ) (x : Corner) where
  abbrev S : Cell → Bool
  S = permitted (vertices ns)

  abbrev reported : Outcome Report Nothing
  reported = outcome (done 0) (report_on S x) nothing

  pub corner_refused : (r : Refusal) → Checked ns (Err r) → CornerPromise ns x (Err r)
  unfolding CornerPromise
  corner_refused r h = ap (λ w. checked 1 w (kept (report 0 0 0) nothing) reported) (checked_verdict ns (Err r) h)

  pub corner_said : (m n k : ℕ) → Checked ns (Ok tt) → m ≡ mask S x → n ≡ ones m → k ≡ kind m → CornerPromise ns x (Ok (report m n k))
  unfolding CornerPromise
  corner_said m n k h e f g =
      (λ i. outcome (done 0) (report (e i) ((f ∙ ap ones e ∙ ones_mask S x) i) ((g ∙ ap kind e) i)) nothing)
      ∙ ap (λ w. checked 1 w (kept (report 0 0 0) nothing) reported) (checked_verdict ns (Ok tt) h)

-- ---- valid lists

module _ (ns : List ℤ) where
  pub passes_map : passes (verdict ns) ≡ true → Map (vertices ns)
  passes_map p = passes_valid ns p

  -- outside the codes the answer is no
  pub outside_no : (c : Cell) → passes (verdict ns) ≡ true → is_cell c ≡ false → cell_outcome ns c ≡ outcome (done 0) false nothing
  outside_no c p out =
      let never : permitted (vertices ns) c ≡ false =
      not_yes (permitted (vertices ns) c) (λ e. true≢false (sym (valid_within (vertices ns) (passes_map p) c e) ∙ out)) in
      checked_next 1 (verdict ns) (kept false nothing) (said ns c) p ∙ ap (λ t. outcome (done 0) t nothing) never

-- ---- planes

-- a verdict that is an error passes not; one that is none passes
pub refused_by : (v : Verdict) → is_err v ≡ true → passes v ≡ false
refused_by (Ok u) e = sym e
refused_by (Err r) e = refl

pub passed_by : (v : Verdict) → is_err v ≡ false → passes v ≡ true
passed_by (Ok u) e = refl
passed_by (Err r) e = sym e

abbrev ends_by : Bool → ℕ → ℕ → Ends
ends_by t s e = record { start = cond t s 0; end = cond t e 0 }

module _ (ns : List ℤ) (x : ℤ) where
  abbrev low : ℕ
  low = 3 * count (before_plane x) (vertices ns)

  abbrev high : ℕ
  high = 3 * count (through_plane x) (vertices ns)

  pub ends_refused : (v : Verdict) → Checked ns v → passes v ≡ false → EndsPromise ns x (record { start = 0; end = 0 })
  ends_refused v h p = record { answer = sym (ap (λ t. ends_by t low high) (ap passes (sym (checked_verdict ns v h)) ∙ p)) }

  pub ends_said : (v : Verdict) → Checked ns v → passes v ≡ true → SFits w16 x → (b s e : ℕ) → b ≡ lifted x
      → s ≡ 0 + 3 * leading (under b) (vertices (drop 0 ns)) → e ≡ s + 3 * leading (under (b + 1)) (vertices (drop s ns))
      → EndsPromise ns x (record { start = s; end = e })
  ends_said v q p f b s e h k m =
      let pass : passes (verdict ns) ≡ true = ap passes (sym (checked_verdict ns v q)) ∙ p in
      let map = passes_map ns pass in
      let start = plane_start ns x map f s (k ∙ ap (λ n. 0 + 3 * leading (under n) (vertices (drop 0 ns))) h) in
      let end = plane_end ns x map f s e start (m ∙ ap (λ n. s + 3 * leading (under (n + 1)) (vertices (drop s ns))) h) in
      record { answer = ap₂ (ends_by true) start end ∙ sym (ap (λ t. ends_by t low high) pass) }

  pub ends_within : (r : Ends) → EndsPromise ns x r → (r.start ≤ r.end) × (r.end ≤ length ns)
  ends_within r h = go (passes (verdict ns)) h.answer
    where
      go : (t : Bool) → r ≡ ends_by t low high → (r.start ≤ r.end) × (r.end ≤ length ns)
      go true a =
          let s : r.start ≡ low = ap (λ q. q.start) a in
          let e : r.end ≡ high = ap (λ q. q.end) a in
          omega (arith, before_through x (vertices ns), count_le (through_plane x) (vertices ns), vertices_length ns)
      go false a =
          let s : r.start ≡ 0 = ap (λ q. q.start) a in
          let e : r.end ≡ 0 = ap (λ q. q.end) a in
          omega arith

  -- the numbers of the plane are those that stand there in the list
  pub plane_cut : take ((plane_ends ns x).end - (plane_ends ns x).start) (drop (plane_ends ns x).start ns) ≡ plane_numbers ns x
  plane_cut = go (passes (verdict ns)) refl
    where
      go : (t : Bool) → passes (verdict ns) ≡ t
          → take (cond t high 0 - cond t low 0) (drop (cond t low 0) ns) ≡ cond t (numbers (keep (on_plane x) (vertices ns))) []
      go true p = plane_part ns x (passes_map ns p)
      go false p = refl

  -- of a list that lies at p, the part from where the plane starts to where it ends; its offset as a machine adds it up
  pub plane_said : (p : Pointer) (r : Ends) → EndsPromise ns x r
      → PlanePromise ns p x (take (r.end - r.start) (drop r.start ns)) (p.0, r.start * number_bytes + p.1)
  unfolding PlanePromise
  plane_said p r h =
      ap (λ n. plane_says (take (r.end - r.start) (drop r.start ns)) (p.0, n)) (add_comm (r.start * number_bytes) p.1)
      ∙ ap (λ q. plane_says (take (q.end - q.start) (drop q.start ns)) (behind p q.start)) h.answer
      ∙ ap (λ l. plane_says l (behind p (plane_ends ns x).start)) plane_cut

-- ---- each promise settles its answer

-- the answer with this operand and verdict, and what it gives
abbrev answer_by : {A : Type 0} → ℕ → Verdict → A → Result A Refusal
answer_by zero v a = Ok a
answer_by (suc n) (Ok u) a = Ok a
answer_by (suc n) (Err r) a = Err r

abbrev answer_in : {A : Type 0} → Outcome A Nothing → Result A Refusal
answer_in o = answer_by o.values.operand (verdict_by o.values.number o.values.place) o.given

cell_back : (r : Result Bool Refusal) → answer_in (cell_says r) ≡ r
cell_back (Ok b) = refl
cell_back (Err r) = ap (λ v. answer_by 1 v false) (verdict_back (Err r))

pub cell_settled : (ns : List ℤ) (c : Cell) (r s : Result Bool Refusal) → CellPromise ns c r → CellPromise ns c s → r ≡ s
unfolding CellPromise
cell_settled ns c r s p q = sym (cell_back r) ∙ ap answer_in (p ∙ sym q) ∙ cell_back s

corner_back : (r : Result Report Refusal) → answer_in (corner_says r) ≡ r
corner_back (Ok o) = refl
corner_back (Err r) = ap (λ v. answer_by 1 v (report 0 0 0)) (verdict_back (Err r))

pub corner_settled : (ns : List ℤ) (v : Corner) (r s : Result Report Refusal) → CornerPromise ns v r → CornerPromise ns v s → r ≡ s
unfolding CornerPromise
corner_settled ns v r s p q = sym (corner_back r) ∙ ap answer_in (p ∙ sym q) ∙ corner_back s

pub ends_settled : (ns : List ℤ) (x : ℤ) (r s : Ends) → EndsPromise ns x r → EndsPromise ns x s → r ≡ s
ends_settled ns x r s p q = p.answer ∙ sym q.answer

-- what the part holds, so its length too; the object that it lies in, and where in it
pub plane_settled : (ns : List ℤ) (p : Pointer) (x : ℤ) (r s : List ℤ) (at by : Pointer) → PlanePromise ns p x r at → PlanePromise ns p x s by
    → (r ≡ s) × (at ≡ by)
unfolding PlanePromise
plane_settled ns p x r s at by h k = (ap (λ o. o.contents) (h ∙ sym k), ap (λ o. o.pointer) (h ∙ sym k))
