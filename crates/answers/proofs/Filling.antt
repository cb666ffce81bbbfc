-- The answers, written one line after the other.
--   written_more    one line more
use mathlib.Core.Path.{◌≡◌, sym, ◌∙◌, ap, ap₂, subst}
use mathlib.Core.List.{List, ◌++◌}
use Prim.Native.Nat.{ℕ, ◌+◌, ◌*◌, ◌≤◌}
use native.Mathlib.Omega.{arith}
use native.Mathlib.Numerals.{add-one}
use lib.IntN.{ℤ}
use lib.ListN.{length, take, drop}
use lib.Seq.{paste, take-paste, drop-paste, length-paste, take-length, drop-drop}
use Rattle.meaning.specs.declared.Corner.{Corner}
use Rattle.answers.specs.Answers.{wish_at, AnswerLine, Answers, Written}
use Rattle.answers.proofs.Lines.{answer_long}

module _ (l : List Corner) (ws : List ℤ) (i : ℕ) (before now after line : List ℕ) (w : Written l ws i before now) (a : AnswerLine l (wish_at ws i) line)
    (room : 17 * i + 17 ≤ length before) (e : after ≡ paste now (17 * i) line (length line)) where
  -- where the next line begins
  next : 17 * (i + 1) ≡ 17 * i + length line
  next = omega (arith, answer_long l (wish_at ws i) line a)

  start : 17 * i ≤ length now
  start = omega (arith, w.long)

  fits : 17 * i + length line ≤ length now
  fits = omega (arith, w.long, answer_long l (wish_at ws i) line a)

  grown : take (17 * (i + 1)) after ≡ take (17 * i) now ++ line
  grown =
      ap₂ take next e ∙ take-paste now (17 * i) line (length line) start (omega arith) ∙ ap (take (17 * i) now ++◌) (take-length line)

  front : Answers l ws (i + 1) (take (17 * (i + 1)) after)
  front =
      subst (λ n. Answers l ws n (take (17 * (i + 1)) after)) (sym (add-one i))
      (record { front = take (17 * i) now; line = line; before = w.front; last = a; is = grown })

  untouched : drop (17 * (i + 1)) after ≡ drop (17 * (i + 1)) before
  untouched =
      ap₂ drop next e ∙
      drop-paste now (17 * i) line (length line) start (omega arith) ∙
      sym (drop-drop (length line) (17 * i) now) ∙
      ap (drop (length line)) w.behind ∙
      drop-drop (length line) (17 * i) before ∙
      ap (λ n. drop n before) (sym next)

  pub written_more : Written l ws (i + 1) before after
  written_more =
      record {
        front = front;
        behind = untouched;
        long = ap length e ∙ length-paste now (17 * i) line (length line) fits (omega arith) ∙ w.long;
      }
