-- The ends of a box, after the crossing.
--   good_lifted    the test of one axis's ends, in shifted numbers
--   good_all       the tests of three axes, one after the other
use mathlib.Core.Path.{◌≡◌, refl, sym, ◌∙◌, ap, ap₂}
use mathlib.Core.Bool.{◌&&◌, and-true}
use mathlib.Core.List.{List, [], ◌∷◌}
use Prim.Native.Nat.{ℕ}
use native.Mathlib.Omega.{arith}
use lib.Dec.{leb, ltb}
use lib.IntN.{ℤ, pos}
use lib.ListN.{length, get_or}
use mir.Syntax.{w16}
use mir.Val.{SFits}
use Rattle.std.specs.List.{list_all}
use Rattle.meaning.specs.Numbers.{last_number}
use Rattle.codes.specs.Lift.{lifted}
use Rattle.codes.proofs.Laws.{is_code_lifted, lifted_le, lifted_lt, number_fits_lem}
use Rattle.boxes.specs.Box.{good_end, good_ends}

-- the test of one axis's ends, in shifted numbers
pub good_lifted : (low high : ℤ) → SFits w16 low → SFits w16 high → {from to : ℕ} → from ≡ lifted low → to ≡ lifted high →
    good_end low high ≡ (leb 32256 from && leb from 33279 && (ltb from to && leb to 33280))
good_lifted low high fl fh ef et =
    ap₂ ◌&&◌ (is_code_lifted low ∙ ap (λ u. leb 32256 u && leb u 33279) (sym ef))
    (ap₂ ◌&&◌ (lifted_lt low high fl fh ∙ ap₂ ltb (sym ef) (sym et))
    (lifted_le high last_number fh (number_fits_lem last_number refl) ∙ ap (λ u. leb u 33280) (sym et)))

-- the tests of three axes, one after the other
pub good_all : (ends : List (List ℤ)) → length ends ≡ 3 → list_all (λ e. good_end (get_or e 0 (pos 0)) (get_or e 1 (pos 0))) ends ≡ good_ends ends
good_all [] h = absurd (omega arith)
good_all (a ∷ []) h = absurd (omega arith)
good_all (a ∷ b ∷ []) h = absurd (omega arith)
good_all (a ∷ b ∷ d ∷ []) h = rw and-true
good_all (a ∷ b ∷ d ∷ e ∷ l) h = absurd (omega arith)
