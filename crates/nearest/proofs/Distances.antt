-- The distance, by what the code computes: of numbers that are shifted to count from 0, the differences, each weighed.
--   gap_lifted         a difference without sign is that of the shifted numbers
--   distance_apart     the distance of a cell from a wish
-- These and `Brought` are all that the search knows of the distance: its cost on each axis is a weight times a difference, and costs are added.
-- Assumes nothing.
use mathlib.Core.Path.{◌≡◌, refl, ◌∙◌, ap, ap₂}
use mathlib.Core.Bool.{Bool, true, false}
use Prim.Native.Nat.{ℕ, zero, suc, ◌+◌, ◌*◌}
use native.Mathlib.Omega.{arith}
use lib.Dec.{ltb}
use lib.IntN.{ℤ, pos, negsuc, sub_ℕ, nat_abs}
use borrow.Author.Tests.{ltb-true, ltb-false, le-leb}
use Rattle.meaning.specs.Numbers.{focus, first, second, cell, number}
use Rattle.meaning.specs.Nearest.{gap, weight, distance}
use Rattle.codes.specs.Lift.{lifted, lowered}
use Rattle.codes.proofs.Shift.{Above, down_above, down_below, down_not}
use Rattle.codes.proofs.Laws.{lifted_lowered, lifted_steps, number_le, steps_number}
use Rattle.ranks.specs.Values.{apart}

sub_apart : (a b : ℕ) → nat_abs (sub_ℕ a b) ≡ apart a b
sub_apart a b = go (ltb a b) refl
  where
    go : (t : Bool) → ltb a b ≡ t → nat_abs (sub_ℕ a b) ≡ apart a b
    go true e = ap nat_abs (down_below a b (ltb-true a b e)) ∙ omega (arith, ltb-true a b e)
    go false e = ap nat_abs (down_not a b (ltb-false a b e)) ∙ omega (arith, ltb-false a b e)

pub gap_lifted : (y z : ℤ) → Above 32768 y → Above 32768 z → gap y z ≡ apart (lifted y) (lifted z)
gap_lifted (pos a) (pos zero) p q = omega arith
gap_lifted (pos a) (pos (suc b)) p q = sub_apart a (suc b) ∙ omega arith
gap_lifted (pos a) (negsuc b) p q = omega arith
gap_lifted (negsuc a) (pos zero) p q = sub_apart zero (suc a) ∙ omega arith
gap_lifted (negsuc a) (pos (suc b)) p q = omega arith
gap_lifted (negsuc a) (negsuc b) p q = sub_apart (suc b) (suc a) ∙ omega arith

above_more : (z : ℤ) → Above 512 z → Above 32768 z
above_more (pos n) p = tt
above_more (negsuc n) p = omega arith

lifted_number : (c : ℕ) → lifted (number c) ≡ c + 32256
lifted_number c = lifted_steps (number c) (number_le 0 c ∙ le-leb 0 c (omega arith)) ∙ ap (λ n. n + 32256) (steps_number c)

gap_apart : (u c : ℕ) → gap (lowered u) (number c) ≡ apart u (c + 32256)
gap_apart u c =
    gap_lifted (lowered u) (number c) (down_above 32768 u) (above_more (number c) (down_above 512 c)) ∙
    ap₂ apart (lifted_lowered u) (lifted_number c)

pub distance_apart : (u v t a b d : ℕ) → distance (cell (lowered u) (lowered v) (lowered t)) (cell (number a) (number b) (number d))
    ≡ weight focus * apart u (a + 32256) + weight first * apart v (b + 32256) + weight second * apart t (d + 32256)
unfolding distance
distance_apart u v t a b d =
    ap₂ ◌+◌ (ap₂ ◌+◌ (ap (weight focus *◌) (gap_apart u a)) (ap (weight first *◌) (gap_apart v b))) (ap (weight second *◌) (gap_apart t d))
