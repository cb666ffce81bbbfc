-- The integers as the line of numbers on one axis: the order's tests, and the shift to counting from 0.
-- Assumes nothing.
use mathlib.Core.Path.{◌≡◌, refl, sym, ◌∙◌, ap, ap₂}
use mathlib.Core.Bool.{Bool, true, false, not, ◌&&◌, cond, true≢false, false≢true}
use Prim.Native.Nat.{ℕ, zero, suc, ◌+◌, ◌-◌, ◌≤◌, ◌<◌}
use native.Mathlib.Nat.{le_antisymm}
use native.Mathlib.Omega.{arith}
use lib.Dec.{leb, ltb}
use lib.IntN.{ℤ, pos, negsuc, pred_ℤ}
use lib.Signed.{le_z, lt_z}
use borrow.Author.Tests.{leb-true, leb-false, ltb-true, ltb-false, le-leb, lt-leb}
use Rattle.meaning.specs.Numbers.{lowest, last_code, last_number, is_code, is_number, number, steps}
use Rattle.meaning.specs.Lists.{same}
use Rattle.meaning.proofs.Parity.{◌⊕◌}

-- two tests with the same meaning are equal
pub leb_by : (a b c d : ℕ) → (a ≤ b → c ≤ d) → (c ≤ d → a ≤ b) → leb a b ≡ leb c d
leb_by a b c d f g = go (leb a b) refl
  where
    go : (t : Bool) → leb a b ≡ t → t ≡ leb c d
    go true e = sym (le-leb c d (f (leb-true a b e)))
    go false e = sym (no (leb c d) refl)
      where
        no : (t : Bool) → leb c d ≡ t → t ≡ false
        no true k = sym (le-leb a b (g (leb-true c d k))) ∙ e
        no false k = refl

pub and_left : (a b : Bool) → (a && b) ≡ true → a ≡ true
and_left true b e = refl
and_left false b e = e

pub and_right : (a b : Bool) → (a && b) ≡ true → b ≡ true
and_right true b e = e
and_right false b e = absurd (false≢true e)

pub and_both : (a b : Bool) → a ≡ true → b ≡ true → (a && b) ≡ true
and_both true b e k = k
and_both false b e k = e

-- a test that cannot pass has failed
pub not_yes : (b : Bool) → (b ≡ true → ⊥) → b ≡ false
not_yes true h = absurd (h refl)
not_yes false h = refl

-- ---- the order

pub le_z_refl : (a : ℤ) → le_z a a ≡ true
le_z_refl (pos a) = le-leb a a (omega arith)
le_z_refl (negsuc a) = le-leb a a (omega arith)

pub le_z_trans : (a b c : ℤ) → le_z a b ≡ true → le_z b c ≡ true → le_z a c ≡ true
le_z_trans (pos a) (pos b) (pos c) h k = le-leb a c (omega (arith, leb-true a b h, leb-true b c k))
le_z_trans (pos a) (pos b) (negsuc c) h k = k
le_z_trans (pos a) (negsuc b) c h k = absurd (false≢true h)
le_z_trans (negsuc a) (pos b) (pos c) h k = refl
le_z_trans (negsuc a) (pos b) (negsuc c) h k = absurd (false≢true k)
le_z_trans (negsuc a) (negsuc b) (pos c) h k = refl
le_z_trans (negsuc a) (negsuc b) (negsuc c) h k = le-leb c a (omega (arith, leb-true b a h, leb-true c b k))

pub le_z_antisym : (a b : ℤ) → le_z a b ≡ true → le_z b a ≡ true → a ≡ b
le_z_antisym (pos a) (pos b) h k = ap pos (le_antisymm (leb-true a b h) (leb-true b a k))
le_z_antisym (pos a) (negsuc b) h k = absurd (false≢true h)
le_z_antisym (negsuc a) (pos b) h k = absurd (false≢true k)
le_z_antisym (negsuc a) (negsuc b) h k = ap negsuc (le_antisymm (leb-true a b k) (leb-true b a h))

not_leb : (a b : ℕ) → leb (suc a) b ≡ not (leb b a)
not_leb a b = go (leb b a) refl
  where
    go : (t : Bool) → leb b a ≡ t → leb (suc a) b ≡ not t
    go true e = lt-leb (suc a) b (omega (arith, leb-true b a e))
    go false e = le-leb (suc a) b (leb-false b a e)

-- less is not at or above
pub lt_z_not : (a b : ℤ) → lt_z a b ≡ not (le_z b a)
lt_z_not (pos a) (pos b) = not_leb a b
lt_z_not (pos a) (negsuc b) = refl
lt_z_not (negsuc a) (pos b) = refl
lt_z_not (negsuc a) (negsuc b) = not_leb b a

pub same_refl : (a : ℤ) → same a a ≡ true
same_refl a = ap₂ ◌&&◌ (le_z_refl a) (le_z_refl a)

pub same_sound : (a b : ℤ) → same a b ≡ true → a ≡ b
same_sound a b e = le_z_antisym a b (and_left (le_z a b) (le_z b a) e) (and_right (le_z a b) (le_z b a) e)

pub lt_z_total : (a b : ℤ) → lt_z a b ≡ false → lt_z b a ≡ false → a ≡ b
lt_z_total a b h k = le_z_antisym a b (flip (le_z a b) (sym (lt_z_not b a) ∙ k)) (flip (le_z b a) (sym (lt_z_not a b) ∙ h))
  where
    flip : (t : Bool) → not t ≡ false → t ≡ true
    flip true e = refl
    flip false e = sym e

-- what is not at most is at least
pub le_z_total : (a b : ℤ) → le_z b a ≡ false → le_z a b ≡ true
le_z_total (pos a) (pos b) h = le-leb a b (omega (arith, leb-false b a h))
le_z_total (pos a) (negsuc b) h = absurd (true≢false h)
le_z_total (negsuc a) (pos b) h = refl
le_z_total (negsuc a) (negsuc b) h = le-leb b a (omega (arith, leb-false a b h))

pub lt_z_le : (a b : ℤ) → lt_z a b ≡ true → le_z b a ≡ false
lt_z_le a b h = go (le_z b a) (sym (lt_z_not a b) ∙ h)
  where
    go : (t : Bool) → not t ≡ true → t ≡ false
    go true e = sym e
    go false e = refl

pub lt_z_le_z : (a b : ℤ) → lt_z a b ≡ true → le_z a b ≡ true
lt_z_le_z (pos a) (pos b) h = le-leb a b (omega (arith, ltb-true a b h))
lt_z_le_z (pos a) (negsuc b) h = h
lt_z_le_z (negsuc a) (pos b) h = refl
lt_z_le_z (negsuc a) (negsuc b) h = le-leb b a (omega (arith, ltb-true b a h))

pub lt_z_trans : (a b c : ℤ) → lt_z a b ≡ true → le_z b c ≡ true → lt_z a c ≡ true
lt_z_trans a b c h k = lt_z_not a c ∙ ap not (not_yes (le_z c a) (λ e. true≢false (sym (le_z_trans b c a k e) ∙ lt_z_le a b h)))

-- one step up the line passes exactly the number that is stepped on
pub line_step : (w v : ℤ) → (le_z w (pred_ℤ v) ⊕ le_z w v) ≡ same v w
line_step (pos w) (pos zero) = go w
  where
    go : (n : ℕ) → leb n zero ≡ (leb zero n && leb n zero)
    go n = sym (ap (◌&& leb n zero) (le-leb zero n (omega arith)))
line_step (pos w) (pos (suc v)) = passes w v
  where
    passes : (a b : ℕ) → (leb a b ⊕ leb a (suc b)) ≡ (leb (suc b) a && leb a (suc b))
    passes a b = go (leb a b) refl
      where
        go : (t : Bool) → leb a b ≡ t → (t ⊕ leb a (suc b)) ≡ (leb (suc b) a && leb a (suc b))
        go true e = ap not (le-leb a (suc b) (omega (arith, leb-true a b e))) ∙ sym (ap (◌&& leb a (suc b)) (lt-leb (suc b) a (omega (arith, leb-true a b e))))
        go false e = sym (ap (◌&& leb a (suc b)) (le-leb (suc b) a (leb-false a b e)))
line_step (pos w) (negsuc v) = refl
line_step (negsuc w) (pos zero) = ap (◌⊕ true) (le-leb zero w (omega arith))
line_step (negsuc w) (pos (suc v)) = refl
line_step (negsuc w) (negsuc v) = passes w v
  where
    passes : (a b : ℕ) → (leb (suc b) a ⊕ leb b a) ≡ (leb a b && leb b a)
    passes a b = go (leb a b) refl
      where
        go : (t : Bool) → leb a b ≡ t → (leb (suc b) a ⊕ leb b a) ≡ (t && leb b a)
        go true e = ap (◌⊕ leb b a) (lt-leb (suc b) a (omega (arith, leb-true a b e)))
        go false e = ap₂ ◌⊕◌ (le-leb (suc b) a (leb-false a b e)) (le-leb b a (omega (arith, leb-false a b e)))

-- ---- the shift

-- a number by its steps: below 0 or not
data Seen (n : ℕ) : Type 0 where
  negative : n < 512 → number n ≡ negsuc (511 - n) → Seen n
  positive : 512 ≤ n → number n ≡ pos (n - 512) → Seen n

seen : (n : ℕ) → Seen n
seen n = go (ltb n 512) refl
  where
    go : (t : Bool) → ltb n 512 ≡ t → Seen n
    go true e =
        let h : n < 512 = ltb-true n 512 e in
        let k : 512 - suc n ≡ 511 - n = omega arith in
        negative h (ap (λ b. cond b (negsuc (512 - suc n)) (pos (n - 512))) e ∙ ap negsuc k)
    go false e = positive (ltb-false n 512 e) (ap (λ b. cond b (negsuc (512 - suc n)) (pos (n - 512))) e)

pub number_le : (a b : ℕ) → le_z (number a) (number b) ≡ leb a b
number_le a b = go (seen a) (seen b)
  where
    go : Seen a → Seen b → le_z (number a) (number b) ≡ leb a b
    go (negative h e) (negative k f) = ap₂ le_z e f ∙ leb_by (511 - b) (511 - a) a b (λ l. omega arith) (λ l. omega arith)
    go (negative h e) (positive k f) = ap₂ le_z e f ∙ sym (le-leb a b (omega arith))
    go (positive h e) (negative k f) = ap₂ le_z e f ∙ sym (lt-leb a b (omega arith))
    go (positive h e) (positive k f) = ap₂ le_z e f ∙ leb_by (a - 512) (b - 512) a b (λ l. omega arith) (λ l. omega arith)

pub number_lt : (a b : ℕ) → lt_z (number a) (number b) ≡ ltb a b
number_lt a b = lt_z_not (number a) (number b) ∙ ap not (number_le b a) ∙ sym (not_leb a b)

pub number_same : (a b : ℕ) → same (number a) (number b) ≡ (leb a b && leb b a)
number_same a b = ap₂ ◌&&◌ (number_le a b) (number_le b a)

pub steps_number : (n : ℕ) → steps (number n) ≡ n
steps_number n = go (seen n)
  where
    go : Seen n → steps (number n) ≡ n
    go (negative h e) = ap steps e ∙ omega arith
    go (positive h e) = ap steps e ∙ omega arith

-- from the lowest number up, every number is so many steps above it
pub number_steps : (z : ℤ) → le_z lowest z ≡ true → number (steps z) ≡ z
number_steps (pos n) h = go (seen (n + 512))
  where
    go : Seen (n + 512) → number (n + 512) ≡ pos n
    go (negative k e) = absurd (omega arith)
    go (positive k e) = e ∙ ap pos (omega arith)
number_steps (negsuc n) h = go (seen (511 - n)) (leb-true n 511 h)
  where
    go : Seen (511 - n) → n ≤ 511 → number (511 - n) ≡ negsuc n
    go (negative k e) l = e ∙ ap negsuc (omega arith)
    go (positive k e) l = absurd (omega arith)

pub number_pred : (n : ℕ) → pred_ℤ (number (suc n)) ≡ number n
number_pred n = go (seen n) (seen (suc n))
  where
    down : (m : ℕ) → m ≡ zero → pred_ℤ (pos m) ≡ negsuc zero
    down m e = ap (λ k. pred_ℤ (pos k)) e

    less : (m k : ℕ) → m ≡ suc k → pred_ℤ (pos m) ≡ pos k
    less m k e = ap (λ i. pred_ℤ (pos i)) e

    go : Seen n → Seen (suc n) → pred_ℤ (number (suc n)) ≡ number n
    go (negative h e) (negative k f) = ap pred_ℤ f ∙ ap negsuc (omega arith) ∙ sym e
    go (negative h e) (positive k f) = ap pred_ℤ f ∙ down (suc n - 512) (omega arith) ∙ ap negsuc (omega arith) ∙ sym e
    go (positive h e) (negative k f) = absurd (omega arith)
    go (positive h e) (positive k f) = ap pred_ℤ f ∙ less (suc n - 512) (n - 512) (omega arith) ∙ sym e

pub number_is_code : (n : ℕ) → is_code (number n) ≡ ltb n 1024
number_is_code n = ap₂ ◌&&◌ (number_le 0 n ∙ le-leb 0 n (omega arith)) (number_le n 1023 ∙ leb_by n 1023 (suc n) 1024 (λ h. omega arith) (λ h. omega arith))

pub number_is_number : (n : ℕ) → is_number (number n) ≡ leb n 1024
number_is_number n = ap₂ ◌&&◌ (number_le 0 n ∙ le-leb 0 n (omega arith)) (number_le n 1024)

-- nothing at or above the lowest number lies below a number that is itself below the lowest
pub under_lowest : (n : ℕ) (c : ℤ) → le_z lowest c ≡ false → le_z (number n) c ≡ false
under_lowest n c h = not_yes (le_z (number n) c) (λ e. true≢false (sym (le_z_trans lowest (number n) c (number_le 0 n ∙ le-leb 0 n (omega arith)) e) ∙ h))

-- below the last corner number is at most the last code
pub under_number : (z : ℤ) → le_z last_number z ≡ false → le_z z last_code ≡ true
under_number (pos n) h = le-leb n 511 (omega (arith, leb-false 512 n h))
under_number (negsuc n) h = refl
