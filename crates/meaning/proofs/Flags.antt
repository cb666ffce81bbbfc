-- Flags: what a test of one flag says of a conjunction.
--   all_first, all_second, all_third    the value of `a && (b && d)` after the first, the second and the third flag
--   flag_more                           a flag that says that all so far pass, and one more
use mathlib.Core.Path.{◌≡◌, sym, ◌∙◌, ap, ap₂}
use mathlib.Core.Bool.{Bool, true, false, not, ◌&&◌}
use Prim.Native.Nat.{ℕ, ◌+◌, ◌<◌}
use borrow.Author.Count.{below_more}
use borrow.Author.Tests.{not-true, not-false}
use Rattle.meaning.proofs.Integers.{and_left, and_right}

module _ {r a : Bool} (e : r ≡ a) where
  pub said_no : not r ≡ true → a ≡ false
  said_no t = sym e ∙ not-true r t

  pub said_yes : not r ≡ false → a ≡ true
  said_yes t = sym e ∙ not-false r t

module _ (a b d : Bool) where
  pub all_first : a ≡ false → false ≡ (a && (b && d))
  all_first h = sym (ap (λ t. t && (b && d)) h)

  pub all_second : a ≡ true → b ≡ false → false ≡ (a && (b && d))
  all_second h k = sym (ap₂ (λ t u. t && (u && d)) h k)

  pub all_third : {r : Bool} → a ≡ true → b ≡ true → r ≡ d → r ≡ (a && (b && d))
  all_third h k e = e ∙ sym (ap₂ (λ t u. t && (u && d)) h k)

pub flag_more : (P : ℕ → Type 0) (good more : Bool) (i : ℕ) → (good ≡ true → (k : ℕ) → k < i → P k) → (more ≡ true → P i) → (good && more) ≡ true → (k : ℕ) → k < i + 1 → P k
flag_more P good more i h new e = below_more P i (h (and_left good more e)) (new (and_right good more e))
