-- Laws of a list of flags.
--   ups_down, ups_up   how many are up after one was put down, or up
--   ups_le             at most all are up
--   ups_none           where none is up, each is down
--   ups_all, ups_new   where each is down, none is up; of new flags none is up
--   turned             a flag after one was turned
use mathlib.Core.Path.{◌≡◌, refl, sym, ◌∙◌, ap}
use mathlib.Core.Bool.{Bool, true, false, not, xor, false≢true, true≢false}
use mathlib.Core.List.{List, [], ◌∷◌}
use Prim.Native.Nat.{ℕ, zero, suc, ◌+◌, ◌≤◌, ◌<◌}
use native.Mathlib.Omega.{arith}
use borrow.Author.Tests.{eqb-true, eqb-false}
use lib.Dec.{eqb}
use lib.ListN.{length, get_or, set, replicate}
use lib.Seq.{get_or-set_same, get_or-set_other}
use Rattle.chains.specs.Chains.{ups}
use Rattle.chains.proofs.Parity.{xor_false}

pub ups_down : (flags : List Bool) (i : ℕ) → i < length flags → get_or flags i false ≡ true → ups (set flags i false) + 1 ≡ ups flags
unfolding ups
ups_down [] i h e = absurd (omega arith)
ups_down (true ∷ flags) zero h e = omega arith
ups_down (false ∷ flags) zero h e = absurd (false≢true e)
ups_down (true ∷ flags) (suc i) h e = omega (arith, ups_down flags i (omega arith) e)
ups_down (false ∷ flags) (suc i) h e = ups_down flags i (omega arith) e

pub ups_up : (flags : List Bool) (i : ℕ) → i < length flags → get_or flags i false ≡ false → ups (set flags i true) ≡ ups flags + 1
unfolding ups
ups_up [] i h e = absurd (omega arith)
ups_up (true ∷ flags) zero h e = absurd (true≢false e)
ups_up (false ∷ flags) zero h e = omega arith
ups_up (true ∷ flags) (suc i) h e = omega (arith, ups_up flags i (omega arith) e)
ups_up (false ∷ flags) (suc i) h e = ups_up flags i (omega arith) e

pub ups_le : (flags : List Bool) → ups flags ≤ length flags
unfolding ups
ups_le [] = omega arith
ups_le (true ∷ flags) = omega (arith, ups_le flags)
ups_le (false ∷ flags) = omega (arith, ups_le flags)

pub ups_none : (flags : List Bool) → ups flags ≡ 0 → (b : ℕ) → get_or flags b false ≡ false
unfolding ups
ups_none [] e b = refl
ups_none (true ∷ flags) e b = absurd (omega arith)
ups_none (false ∷ flags) e zero = refl
ups_none (false ∷ flags) e (suc b) = ups_none flags e b

pub ups_all : (flags : List Bool) → ((b : ℕ) → b < length flags → get_or flags b false ≡ false) → ups flags ≡ 0
unfolding ups
ups_all [] h = refl
ups_all (true ∷ flags) h = absurd (true≢false (h 0 (omega arith)))
ups_all (false ∷ flags) h = ups_all flags (λ b l. h (suc b) (omega arith))

pub ups_new : (n : ℕ) → ups (replicate n false) ≡ 0
unfolding ups
ups_new zero = refl
ups_new (suc n) = ups_new n

-- what a turn does to a flag, as exclusive or
turn_one : (v : Bool) → not v ≡ xor v true
unfolding xor
turn_one true = refl
turn_one false = refl

pub turned : (flags : List Bool) (i b : ℕ) {v w : Bool} → i < length flags → get_or flags i false ≡ v → w ≡ not v →
    get_or (set flags i w) b false ≡ xor (get_or flags b false) (eqb b i)
turned flags i b {v} {w} h e f = go (eqb b i) refl
  where
    go : (t : Bool) → eqb b i ≡ t → get_or (set flags i w) b false ≡ xor (get_or flags b false) t
    go true q =
        let is : i ≡ b = sym (eqb-true b i q) in
        ap (λ n. get_or (set flags i w) n false) (sym is) ∙
        get_or-set_same flags i w false h ∙
        f ∙
        turn_one v ∙
        ap (λ u. xor u true) (sym e ∙ ap (λ n. get_or flags n false) is)
    go false q = get_or-set_other flags i b w false (eqb-false b i q) ∙ sym (xor_false (get_or flags b false))
