-- The pass over neighbouring keys: its state after i vertices of a list in range, and what each step of the pass makes of it.
--   Risen                                the key of the last vertex passed, and, where the flag is up, no vertex so far that does not stand above the
--                                        one before it
--   risen_one, risen_more                the first vertex; one vertex more
--   first_rises                          there is none before the first vertex
use mathlib.Core.Path.{◌≡◌, refl, sym, ◌∙◌, ap, ap₂}
use mathlib.Core.Bool.{Bool, true, false, not, ◌&&◌}
use mathlib.Core.List.{List}
use Prim.Native.Nat.{ℕ, zero, suc, ◌+◌, ◌-◌, ◌≤◌, ◌<◌}
use native.Mathlib.Omega.{arith}
use lib.Dec.{ltb}
use lib.IntN.{ℤ}
use lib.ListN.{length}
use Rattle.meaning.specs.Lists.{vertices}
use Rattle.meaning.specs.Verdicts.{falls_at}
use Rattle.codes.specs.Keys.{key_of, corner_at}
use Rattle.lists.specs.Check.{InRange}
use Rattle.meaning.proofs.Flags.{flag_more}
use Rattle.lists.proofs.Vertices.{falls_key}

pub first_rises : (ns : List ℤ) (k : ℕ) → k < 1 → falls_at (vertices ns) k ≡ false
first_rises ns zero l = refl
first_rises ns (suc k) l = absurd (omega arith)

pub record Risen (ns : List ℤ) (good : Bool) (key i : ℕ) : Type 0 where
  pub some : 0 < i
  pub within : i ≤ length (vertices ns)
  pub last : key ≡ key_of (corner_at ns (i - 1))
  pub passed : good ≡ true → (k : ℕ) → k < i → falls_at (vertices ns) k ≡ false

pub risen_one : (ns : List ℤ) (key : ℕ) → 0 < length (vertices ns) → key ≡ key_of (corner_at ns 0) → Risen ns true key 1
risen_one ns key h e = record { some = omega arith; within = omega arith; last = e; passed = λ t. first_rises ns }

pub risen_more : (ns : List ℤ) → InRange ns → (good : Bool) (key i : ℕ) → Risen ns good key i → (new : ℕ) → i < length (vertices ns)
    → new ≡ key_of (corner_at ns i) → Risen ns (good && ltb key new) new (i + 1)
risen_more ns r good key i s new h e =
    record {
      some = omega arith;
      within = omega arith;
      last = e ∙ ap (λ k. key_of (corner_at ns k)) (omega arith);
      passed = flag_more (λ k. falls_at (vertices ns) k ≡ false) good (ltb key new) i s.passed (λ t. next ∙ ap not t);
    }
  where
    -- the test at the next vertex, by the two keys
    next : falls_at (vertices ns) i ≡ not (ltb key new)
    next = falls_key ns i r s.some h ∙ ap₂ (λ a b. not (ltb a b)) (sym s.last) (sym e)
