-- The mask of a corner, bit by bit (document 01, "Corner report").
--   mask_bit    bit 4i + 2j + k is the cell whose codes are the corner's numbers, less 1 on each axis where i, j, k is 0
-- Assumes nothing.
use mathlib.Core.Path.{◌≡◌, refl, sym, ◌∙◌, ap}
use mathlib.Core.Bool.{Bool, true, false, not, cond, not-not}
use mathlib.Core.List.{List, [], ◌∷◌, map}
use Prim.Native.Nat.{ℕ, zero, suc, ◌+◌, ◌*◌, ◌/◌, ◌^◌}
use native.Mathlib.Nat.{div-div-eq-div-mul, pow-suc, mul_comm, zero-div}
use native.Mathlib.Omega.{arith}
use lib.ListN.{get_or}
use Rattle.meaning.specs.Numbers.{cell}
use Rattle.meaning.specs.declared.Cell.{Cell}
use Rattle.meaning.specs.declared.Corner.{Corner}
use Rattle.meaning.specs.Counting.{odd}
use Rattle.meaning.specs.Lists.{beside, surrounding, weigh, mask}
use Rattle.meaning.specs.Kinds.{bit_of}

odd_double : (w : ℕ) → odd (2 * w) ≡ false
odd_double zero = refl
odd_double (suc w) = ap odd two ∙ not-not (odd (2 * w)) ∙ odd_double w
  where
    two : 2 * suc w ≡ suc (suc (2 * w))
    two = omega arith

odd_weigh : (b : Bool) (w : ℕ) → odd (cond b 1 0 + 2 * w) ≡ b
odd_weigh true w = ap odd one ∙ ap not (odd_double w)
  where
    one : 1 + 2 * w ≡ suc (2 * w)
    one = omega arith
odd_weigh false w = ap odd none ∙ odd_double w
  where
    none : 0 + 2 * w ≡ 2 * w
    none = omega arith

half : (b : Bool) (w : ℕ) → (cond b 1 0 + 2 * w) / 2 ≡ w
half true w = omega arith
half false w = omega arith

pub bit_weigh : (l : List Bool) (n : ℕ) → odd (weigh l / 2 ^ n) ≡ get_or l n false
bit_weigh [] zero = refl
bit_weigh [] (suc n) = ap odd (none (suc n))
  where
    none : (k : ℕ) → 0 / 2 ^ k ≡ 0
    none k = zero-div (2 ^ k)
bit_weigh (b ∷ l) zero = ap odd whole ∙ odd_weigh b (weigh l)
  where
    whole : (cond b 1 0 + 2 * weigh l) / 1 ≡ cond b 1 0 + 2 * weigh l
    whole = omega arith
bit_weigh (b ∷ l) (suc n) =
    ap odd (ap ((cond b 1 0 + 2 * weigh l) /◌) (pow-suc 2 n ∙ mul_comm (2 ^ n) 2) ∙ sym (div-div-eq-div-mul (cond b 1 0 + 2 * weigh l) 2 (2 ^ n)) ∙ ap (◌/ 2 ^ n) (half b (weigh l))) ∙
    bit_weigh l n

pub mask_bit : (S : Cell → Bool) (v : Corner) (i j k : Bool) → bit_of (mask S v) i j k ≡ S (cell (beside i v.focus) (beside j v.first) (beside k v.second))
mask_bit S v false false false = bit_weigh (map S (surrounding v)) 0
mask_bit S v false false true = bit_weigh (map S (surrounding v)) 1
mask_bit S v false true false = bit_weigh (map S (surrounding v)) 2
mask_bit S v false true true = bit_weigh (map S (surrounding v)) 3
mask_bit S v true false false = bit_weigh (map S (surrounding v)) 4
mask_bit S v true false true = bit_weigh (map S (surrounding v)) 5
mask_bit S v true true false = bit_weigh (map S (surrounding v)) 6
mask_bit S v true true true = bit_weigh (map S (surrounding v)) 7
