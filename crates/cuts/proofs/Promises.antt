-- The promises of section and split, case by case, and that they are settled.
--   range_low, range_high                   what is asked is in range, after the crossing
--   number_back                             the steps of a number give it back
--   outcome_bad, outcome_refused, outcome_next     the order of refusals: a bad axis or number; then the check's; then what follows
--   outcome_done                            what is done was asked of an axis and a number in range, and of a list that passed the check
--   few_vertices_lem                        a list that the check calls valid has at most 1,024 vertices
--   section_bad, section_refused, section_made     the cases of section
--   split_bad, split_refused, split_made           the cases of split
--   section_once, split_once                the values tell the answers apart
--   section_settled, split_settled          two outcomes that a promise allows are equal, answer and contents
-- Assumes nothing.
use mathlib.Core.Path.{◌≡◌, refl, sym, ◌∙◌, ap, ap₂}
use mathlib.Core.Bool.{Bool, true, false, ◌&&◌, cond, false≢true}
use mathlib.Core.List.{List}
use mathlib.Core.Option.{Option, none, some}
use Prim.Native.Nat.{ℕ, zero, suc, ◌-◌, ◌≤◌}
use native.Mathlib.Omega.{arith}
use borrow.Author.Tests.{le-leb, lt-leb, leb-true, ne_eqb}
use lib.Dec.{leb, eqb}
use lib.IntN.{ℤ}
use lib.ListN.{length}
use mir.Syntax.{w16}
use mir.Val.{SFits, to_z, of_z}
use mir.ValLaws.{to_z-of_z}
use Rattle.meaning.specs.Numbers.{Axis, focus, first, second, number, steps, is_code, is_number}
use Rattle.meaning.specs.Lists.{vertices, most_vertices}
use Rattle.std.specs.Prelude.{Result, Ok, Err}
use Rattle.meaning.specs.Verdicts.{Verdict, verdict, passes, Valid as Passed}
use Rattle.meaning.specs.Operations.{axis_of, pair_numbers}
use Rattle.meaning.specs.Outcomes.{Values, Outcome, outcome, Nothing, nothing, refused, bad_number, kept, checked, per_pair, placed}
use Rattle.meaning.specs.declared.Refusal.{Refusal}
use Rattle.meaning.specs.declared.Refusal.TheVariants.{NotTriples, TooMany, OutOfRange, NotRising, OddLine}
use Rattle.meaning.proofs.Integers.{and_left, and_right}
use Rattle.meaning.proofs.Checked.{verdict_valid}
use Rattle.meaning.proofs.Outcomes.{verdict_by, verdict_back, checked_next, checked_refused}
use Rattle.codes.specs.Lift.{lifted}
use Rattle.codes.proofs.Laws.{is_code_lifted, is_number_lifted, lifted_number, number_steps}
use Rattle.keys.specs.Parts.{axis_at}
use Rattle.cuts.specs.declared.SectionError.TheVariants as section
use Rattle.cuts.specs.declared.SplitError.TheVariants as split
use Rattle.cuts.specs.Answers.{asked, Sectioned, section_values, section_says, section_pairs, SectionPromise}
use Rattle.cuts.specs.Answers.{Halves, halves, Halved, counts, split_values, split_says, lower_list, upper_list, placed_halves, SplitPromise}
use Rattle.cuts.specs.Steps.{in_range, section_by_steps, split_by_steps}

-- ---- ranges

module _ (n u last : ℕ) (good : in_range n u last ≡ true) where
  pub range_low : 32256 ≤ u
  range_low = leb-true 32256 u (and_left (leb 32256 u) _ (and_right (leb n 2) _ good))

  pub range_high : u ≤ last
  range_high = leb-true u last (and_right (leb 32256 u) _ (and_right (leb n 2) _ good))

-- of a number and its crossing
module _ (z : ℤ) (u : ℕ) (crossed : u ≡ lifted z) where
  is_code_lem : is_code z ≡ (leb 32256 u && leb u 33279)
  is_code_lem = is_code_lifted z ∙ ap (λ v. leb 32256 v && leb v 33279) (sym crossed)

  is_number_lem : is_number z ≡ (leb 32256 u && leb u 33280)
  is_number_lem = is_number_lifted z ∙ ap (λ v. leb 32256 v && leb v 33280) (sym crossed)

  -- its steps above the lowest give the number back
  number_back : 32256 ≤ u → u ≤ 33280 → number (u - 32256) ≡ z
  number_back h k =
      let in_range_lem = is_number_lem ∙ ap₂ ◌&&◌ (le-leb 32256 u h) (le-leb u 33280 k) in
      let is : u - 32256 ≡ steps z = omega (arith, lifted_number z in_range_lem) in
      ap number is ∙ number_steps z in_range_lem

-- ---- the order of refusals

axis_none : (n : ℕ) → axis_of (suc (suc (suc n))) ≡ none
axis_none n = let m = suc (suc (suc n)) in rw (ne_eqb m 0 (λ e. omega arith), ne_eqb m 1 (λ e. omega arith), ne_eqb m 2 (λ e. omega arith))

module _ {A : Type 0} (b : Bool) (bad : A) (next : Axis → A) where
  asked_bad : (n : ℕ) → (leb n 2 && b) ≡ false → asked (axis_of n) b bad next ≡ bad
  asked_bad zero e = ap (λ c. cond c (next focus) bad) e
  asked_bad (suc zero) e = ap (λ c. cond c (next first) bad) e
  asked_bad (suc (suc zero)) e = ap (λ c. cond c (next second) bad) e
  asked_bad (suc (suc (suc n))) e = ap (λ o. asked o b bad next) (axis_none n)

  asked_next : (n : ℕ) → (leb n 2 && b) ≡ true → asked (axis_of n) b bad next ≡ next (axis_at n)
  asked_next zero e = ap (λ c. cond c (next focus) bad) e
  asked_next (suc zero) e = ap (λ c. cond c (next first) bad) e
  asked_next (suc (suc zero)) e = ap (λ c. cond c (next second) bad) e
  asked_next (suc (suc (suc n))) e = absurd (false≢true (sym (ap (◌&& b) (lt-leb (suc (suc (suc n))) 2 (omega arith))) ∙ e))

-- what is done was not refused
module _ {Left : Type 0} (left : Left) where
  asked_done : (axis : Option Axis) (b : Bool) (next : Axis → Outcome Nothing Left) → (asked axis b (kept nothing left bad_number) next).values.number ≡ 0 →
      (a : Axis) × (axis ≡ some a) × (b ≡ true) × (asked axis b (kept nothing left bad_number) next ≡ next a)
  asked_done none b next e = absurd (omega arith)
  asked_done (some a) true next e = (a, refl, refl, refl)
  asked_done (some a) false next e = absurd (omega arith)

  checked_done : (v : Verdict) (next : Outcome Nothing Left) → (checked 1 v (kept nothing left) next).values.number ≡ 0 → passes v ≡ true
  checked_done (Ok u) next e = refl
  checked_done (Err NotTriples) next e = absurd (omega arith)
  checked_done (Err TooMany) next e = absurd (omega arith)
  checked_done (Err (OutOfRange i)) next e = absurd (omega arith)
  checked_done (Err (NotRising i)) next e = absurd (omega arith)
  checked_done (Err (OddLine i)) next e = absurd (omega arith)

-- both outcomes go by this order; b says that the number that is asked is in range, and left is what the results hold
module _ {Left : Type 0} (ns : List ℤ) (n : ℕ) (b : Bool) (left : Left) (next : Axis → Outcome Nothing Left) where
  abbrev pub in_order : Outcome Nothing Left
  in_order = asked (axis_of n) b (kept nothing left bad_number) (λ axis. checked 1 (verdict ns) (kept nothing left) (next axis))

  pub outcome_bad : (leb n 2 && b) ≡ false → in_order ≡ kept nothing left bad_number
  outcome_bad e = asked_bad _ _ _ n e

  module _ (good : (leb n 2 && b) ≡ true) where
    pub outcome_refused : passes (verdict ns) ≡ false → in_order ≡ kept nothing left (refused 1 (verdict ns))
    outcome_refused h = asked_next _ _ _ n good ∙ checked_refused 1 (verdict ns) (kept nothing left) (next (axis_at n)) h

    pub outcome_next : passes (verdict ns) ≡ true → in_order ≡ next (axis_at n)
    outcome_next h = asked_next _ _ _ n good ∙ checked_next 1 (verdict ns) (kept nothing left) (next (axis_at n)) h

  -- done: the axis and the number are good, and the list passed the check
  pub outcome_done : in_order.values.number ≡ 0 →
      (axis : Axis) × (axis_of n ≡ some axis) × (b ≡ true) × (passes (verdict ns) ≡ true) × (in_order ≡ next axis)
  outcome_done e =
      let (axis, is, good, at) = asked_done left (axis_of n) b _ e in
      let passed = checked_done left (verdict ns) (next axis) (ap (λ o. o.values.number) (sym at) ∙ e) in
      (axis, is, good, passed, at ∙ checked_next 1 (verdict ns) (kept nothing left) (next axis) passed)

-- ---- what is known of a call before anything is made

-- a number that was asked, as it was passed, and its crossing
pub crossed_lem : (z : ℤ) → SFits w16 z → {u : ℕ} → u ≡ lifted (to_z w16 (of_z w16 z)) → u ≡ lifted z
crossed_lem z fits e = e ∙ ap lifted (to_z-of_z w16 z fits)

-- a list that the check calls valid
pub few_vertices_lem : (ns : List ℤ) → verdict ns ≡ Passed → length (vertices ns) ≤ 1024
unfolding most_vertices
few_vertices_lem ns e = ((verdict_valid ns).0 e).1.few

-- ---- the promise of section, case by case

-- u is the code that was asked, after the crossing
module _ (ns : List ℤ) (n : ℕ) (k : ℤ) (before : List ℤ) {u : ℕ} (crossed : u ≡ lifted k)
    {good : Bool} (range : good ≡ in_range n u 33279) where
  abbrev made : Axis → Outcome Nothing (List ℤ)
  made axis = placed per_pair pair_numbers (section_pairs axis k ns) before

  in_range_lem : (leb n 2 && is_code k) ≡ good
  in_range_lem = ap (leb n 2 &&◌) (is_code_lem k u crossed) ∙ sym range

  pub section_bad : good ≡ false → SectionPromise ns n k before (Err section.BadRequest) before
  unfolding SectionPromise
  section_bad e = sym (outcome_bad ns n (is_code k) before made (in_range_lem ∙ e))

  module _ (is : good ≡ true) where
    pub section_refused : (r : Refusal) → verdict ns ≡ Err r → SectionPromise ns n k before (Err (section.Refused r)) before
    unfolding SectionPromise
    section_refused r e =
        ap (λ v. outcome (refused 1 v) nothing before) (sym e) ∙
        sym (outcome_refused ns n (is_code k) before made (in_range_lem ∙ is) (ap passes e))

    -- made of a travel map that holds this list
    pub section_made : {ms : List ℤ} → verdict ms ≡ Passed → ms ≡ ns → (r : Sectioned) (after : List ℤ)
        → section_says r after ≡ section_by_steps ms n (u - 32256) before → SectionPromise ns n k before r after
    unfolding SectionPromise
    section_made p same r after e =
        let at = sym range ∙ is in
        let back = number_back k u crossed (range_low n u 33279 at) (omega (arith, range_high n u 33279 at)) in
        e ∙
        ap₂ (λ z ls. placed per_pair pair_numbers (section_pairs (axis_at n) z ls) before) back same ∙
        sym (outcome_next ns n (is_code k) before made (in_range_lem ∙ is) (ap (λ ls. passes (verdict ls)) (sym same) ∙ ap passes p))

-- ---- the promise of split, case by case

-- u is the number that was asked, after the crossing
module _ (ns : List ℤ) (n : ℕ) (p : ℤ) (low high : List ℤ) {u : ℕ} (crossed : u ≡ lifted p)
    {good : Bool} (range : good ≡ in_range n u 33280) where
  abbrev made_both : Axis → Outcome Nothing Halves
  made_both axis = placed_halves (lower_list axis p ns) (upper_list axis p ns) low high

  in_range' : (leb n 2 && is_number p) ≡ good
  in_range' = ap (leb n 2 &&◌) (is_number_lem p u crossed) ∙ sym range

  pub split_bad : good ≡ false → SplitPromise ns n p low high (Err split.BadRequest) low high
  unfolding SplitPromise
  split_bad e = sym (outcome_bad ns n (is_number p) (halves low high) made_both (in_range' ∙ e))

  module _ (is : good ≡ true) where
    pub split_refused : (r : Refusal) → verdict ns ≡ Err r → SplitPromise ns n p low high (Err (split.Refused r)) low high
    unfolding SplitPromise
    split_refused r e =
        ap (λ v. outcome (refused 1 v) nothing (halves low high)) (sym e) ∙
        sym (outcome_refused ns n (is_number p) (halves low high) made_both (in_range' ∙ is) (ap passes e))

    -- made of a travel map that holds this list
    pub split_made : {ms : List ℤ} → verdict ms ≡ Passed → ms ≡ ns → (r : Halved) (low' high' : List ℤ)
        → split_says r low' high' ≡ split_by_steps ms n (u - 32256) low high → SplitPromise ns n p low high r low' high'
    unfolding SplitPromise
    split_made q same r low' high' e =
        let at = sym range ∙ is in
        let back = number_back p u crossed (range_low n u 33280 at) (range_high n u 33280 at) in
        e ∙
        ap₂ (λ z ls. placed_halves (lower_list (axis_at n) z ls) (upper_list (axis_at n) z ls) low high) back same ∙
        sym (outcome_next ns n (is_number p) (halves low high) made_both (in_range' ∙ is) (ap (λ ls. passes (verdict ls)) (sym same) ∙ ap passes q))

-- ---- the values tell the answers apart

-- the refusal that a verdict is, put as an answer
abbrev refused_by : {A E : Type 0} → (Refusal → E) → E → Verdict → Result A E
refused_by wrap other (Ok u) = Err other
refused_by wrap other (Err r) = Err (wrap r)

-- the answer of a section with these values: a refusal of the list has operand 1
abbrev section_by : Values → Sectioned
section_by v =
    cond (eqb v.operand 1) (refused_by section.Refused section.NoRoom (verdict_by v.number v.place))
    (cond (eqb v.number 0) (Ok v.count)
    (cond (eqb v.number 9) (Err section.BadRequest) (Err section.NoRoom)))

section_back : (r : Sectioned) → section_by (section_values r) ≡ r
section_back (Ok n) = refl
section_back (Err section.BadRequest) = refl
section_back (Err (section.Refused r)) = ap (refused_by section.Refused section.NoRoom) (verdict_back (Err r))
section_back (Err section.NoRoom) = refl

pub section_once : (r s : Sectioned) → section_values r ≡ section_values s → r ≡ s
section_once r s e = sym (section_back r) ∙ ap section_by e ∙ section_back s

-- the answer of a split with these values: 6 has the half as its operand
abbrev split_by : Values → Halved
split_by v =
    cond (eqb v.number 6) (cond (eqb v.operand 1) (Err split.LowNoRoom) (Err split.HighNoRoom))
    (cond (eqb v.operand 1) (refused_by split.Refused split.BadRequest (verdict_by v.number v.place))
    (cond (eqb v.number 0) (Ok (counts v.count v.second)) (Err split.BadRequest)))

split_back : (r : Halved) → split_by (split_values r) ≡ r
split_back (Ok c) = refl
split_back (Err split.BadRequest) = refl
split_back (Err (split.Refused NotTriples)) = refl
split_back (Err (split.Refused TooMany)) = refl
split_back (Err (split.Refused (OutOfRange i))) = refl
split_back (Err (split.Refused (NotRising i))) = refl
split_back (Err (split.Refused (OddLine i))) = refl
split_back (Err split.LowNoRoom) = refl
split_back (Err split.HighNoRoom) = refl

pub split_once : (r s : Halved) → split_values r ≡ split_values s → r ≡ s
split_once r s e = sym (split_back r) ∙ ap split_by e ∙ split_back s

-- ---- the promises are settled

pub section_settled : (ns : List ℤ) (n : ℕ) (k : ℤ) (before : List ℤ) (r s : Sectioned) (a b : List ℤ)
    → SectionPromise ns n k before r a → SectionPromise ns n k before s b → (r ≡ s) × (a ≡ b)
unfolding SectionPromise
section_settled ns n k before r s a b e f =
    let g = e ∙ sym f in (section_once r s (ap (λ o. o.values) g), ap (λ o. o.left) g)

pub split_settled : (ns : List ℤ) (n : ℕ) (p : ℤ) (low high : List ℤ) (r s : Halved) (a b a' b' : List ℤ)
    → SplitPromise ns n p low high r a b → SplitPromise ns n p low high s a' b' → (r ≡ s) × (a ≡ a') × (b ≡ b')
unfolding SplitPromise
split_settled ns n p low high r s a b a' b' e f =
    let g = e ∙ sym f in (split_once r s (ap (λ o. o.values) g), ap (λ o. o.left.low) g, ap (λ o. o.left.high) g)
