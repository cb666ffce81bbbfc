-- Laws that docs/PORT.md names and that no proof cites.
--   written_none, written_all     the answers, written one line after the other: no line; all lines
--   copied_long                   a line copied to a place, byte by byte: the length stays
use mathlib.Core.Path.{◌≡◌, refl, ◌∙◌, ap, subst}
use mathlib.Core.List.{List}
use Prim.Native.Nat.{ℕ, ◌+◌, ◌≤◌}
use native.Mathlib.Omega.{arith}
use lib.IntN.{ℤ}
use lib.ListN.{length}
use lib.Seq.{paste, length-paste}
use Rattle.meaning.specs.declared.Corner.{Corner}
use Rattle.answers.specs.Answers.{Written}

pub written_none : (l : List Corner) (ws : List ℤ) (out : List ℕ) → Written l ws 0 out out
written_none l ws out = record { front = refl; behind = refl; long = refl }

pub written_all : (l : List Corner) (ws : List ℤ) {n i : ℕ} {before now : List ℕ} → Written l ws i before now → i ≤ n → n ≤ i → Written l ws n before now
written_all l ws {n} {i} {before} {now} w h k = let is : i ≡ n = omega arith in subst (λ m. Written l ws m before now) is w

module _ (out line : List ℕ) (at : ℕ) (fits : at + length line ≤ length out) where
  pub copied_long : {now : List ℕ} (i : ℕ) → i ≤ length line → now ≡ paste out at line i → length now ≡ length out
  copied_long i h e = ap length e ∙ length-paste out at line i (omega arith) h
