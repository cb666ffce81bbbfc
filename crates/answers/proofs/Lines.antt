-- The lines that are written.
--   four_then                          the four digits of a number, one by one, and what stands behind them
--   answer_at, answer_empty, answer_refused   what nearest answers of a travel map is the line of the wish
--   answer_long, answers_long          an 05 line has 17 bytes, and n of them 17n
use mathlib.Core.Path.{◌≡◌, sym, ◌∙◌, ap, subst}
use mathlib.Core.Bool.{true≢false, false≢true}
use mathlib.Core.List.{List, [], ◌∷◌, ◌++◌}
use Prim.Native.Nat.{ℕ, zero, suc, ◌*◌}
use native.Mathlib.Omega.{arith}
use lib.IntN.{ℤ}
use lib.ListN.{length, get_or, length-append}
use Rattle.std.specs.Prelude.{Ok, Err}
use Rattle.meaning.specs.declared.Cell.{Cell}
use Rattle.meaning.specs.declared.Corner.{Corner}
use Rattle.meaning.specs.declared.Reached.{Reached}
use Rattle.meaning.specs.Lists.{vertices, permitted}
use Rattle.meaning.specs.Verdicts.{Valid, verdict, passes}
use Rattle.meaning.specs.declared.Refusal.{Refusal}
use Rattle.meaning.specs.Nearest.{Nearest}
use Rattle.nearest.specs.Answer.{Answered}
use Rattle.nearest.specs.declared.NearestError.TheVariants.{Empty, Refused}
use Rattle.nearest.proofs.Promise.{found_cell, found_empty, found_refused}
use Rattle.frames.specs.Frames.{four_digits}
use Rattle.answers.specs.Answers.{cell_line, empty_line, wish_at, AnswerLine, Answers}

pub four_then : {m n : ℕ} {x r s : List ℕ} → n ≡ m → x ≡ four_digits n → r ≡ s → get_or x 0 0 ∷ get_or x 1 0 ∷ get_or x 2 0 ∷ get_or x 3 0 ∷ r ≡ four_digits m ++ s
four_then {m} {n} {x} {r} {s} e ex er =
    let is = ex ∙ ap four_digits e in λ i. get_or (is i) 0 0 ∷ get_or (is i) 1 0 ∷ get_or (is i) 2 0 ∷ get_or (is i) 3 0 ∷ er i

pub answer_long : (l : List Corner) (w : Cell) (line : List ℕ) → AnswerLine l w line → length line ≡ 17
answer_long [] w line e = ap length e
answer_long (v ∷ l) w line p = ap length p.is

pub answers_long : (l : List Corner) (ws : List ℤ) (n : ℕ) (out : List ℕ) → Answers l ws n out → length out ≡ 17 * n
answers_long l ws zero out e = ap length e
answers_long l ws (suc n) out p =
    ap length p.is ∙
    length-append p.front p.line ∙
    omega (arith, answers_long l ws n p.front p.before, answer_long l (wish_at ws n) p.line p.last)

-- ---- what nearest answers, as a line

module _ (ns : List ℤ) (w : Cell) (line : List ℕ) where
  pub answer_at : (r : Reached) → Answered ns w (Ok r) → line ≡ cell_line r.at → AnswerLine (vertices ns) w line
  answer_at r h e = by (vertices ns) (found_cell ns w r h).1
    where
      by : (l : List Corner) → Nearest (permitted l) w r.at → AnswerLine l w line
      by [] p = absurd (false≢true p.member)
      by (v ∷ l) p = record { at = r.at; nearest = p; is = e }

  pub answer_empty : Answered ns w (Err Empty) → line ≡ empty_line → AnswerLine (vertices ns) w line
  answer_empty h e = subst (λ l. AnswerLine l w line) (sym (found_empty ns w h).1) e

  pub answer_refused : (r : Refusal) → verdict ns ≡ Valid → Answered ns w (Err (Refused r)) → AnswerLine (vertices ns) w line
  answer_refused r valid h = absurd (true≢false (sym (ap passes valid) ∙ (found_refused ns w r h).1))
