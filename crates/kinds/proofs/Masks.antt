-- What a mask of eight cells counts: its ones are the cells that are in the set, and eight cells give a number below 256.
--   ones_weigh    the ones of some memberships, weighed, are as many as hold
--   ones_mask     the ones of a corner's mask are how many of the eight cells round it are in the set
--   odd_mask      so an odd number of ones means a listed vertex
--   mask_lt       a mask is below 256
use mathlib.Core.Path.{◌≡◌, refl, ap, ◌∙◌}
use mathlib.Core.Bool.{Bool, true, false, cond}
use mathlib.Core.List.{List, [], ◌∷◌, map}
use Prim.Native.Nat.{ℕ, suc, ◌+◌, ◌*◌, ◌/◌, ◌^◌, ◌<◌}
use native.Mathlib.Omega.{arith}
use lib.Count.{ones, ones_step}
use lib.ListN.{length}
use Rattle.meaning.specs.declared.Cell.{Cell}
use Rattle.meaning.specs.declared.Corner.{Corner}
use Rattle.meaning.specs.Counting.{count, odd}
use Rattle.meaning.specs.Lists.{surrounding, how_many, listed, weigh, mask}

-- one membership more, in front: the lowest digit
ones_digit : (b : Bool) (w : ℕ) → ones (cond b 1 0 + 2 * w) ≡ cond b (suc (ones w)) (ones w)
ones_digit true w =
    let half : (1 + 2 * w) / 2 ≡ w = omega arith in
    ones_step (1 + 2 * w) ∙ rw half (omega arith)
ones_digit false w =
    let half : (0 + 2 * w) / 2 ≡ w = omega arith in
    ones_step (0 + 2 * w) ∙ rw half (omega arith)

module _ {A : Type 0} (S : A → Bool) where
  pub ones_weigh : (l : List A) → ones (weigh (map S l)) ≡ count S l
  unfolding ones
  ones_weigh [] = refl
  ones_weigh (x ∷ l) = ones_digit (S x) (weigh (map S l)) ∙ ap (λ (n : ℕ). cond (S x) (suc n) n) (ones_weigh l)

  digit_lt : (b : Bool) (w k : ℕ) → w < 2 ^ k → cond b 1 0 + 2 * w < 2 ^ suc k
  digit_lt true w k h = omega arith
  digit_lt false w k h = omega arith

  pub weigh_lt : (l : List A) → weigh (map S l) < 2 ^ length l
  weigh_lt [] = omega arith
  weigh_lt (x ∷ l) = digit_lt (S x) (weigh (map S l)) (length l) (weigh_lt l)

module _ (S : Cell → Bool) (v : Corner) where
  pub ones_mask : ones (mask S v) ≡ how_many S v
  ones_mask = ones_weigh S (surrounding v)

  pub odd_mask : odd (ones (mask S v)) ≡ listed S v
  odd_mask = ap odd ones_mask

  pub mask_lt : mask S v < 256
  mask_lt = weigh_lt S (surrounding v)
