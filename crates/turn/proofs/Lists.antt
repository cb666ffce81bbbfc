-- Lists of keys: parts of a list that rises or whose members have a bound, lists with a base, and sums over lists.
-- Assumes nothing.
use mathlib.Core.Path.{◌≡◌, refl, sym, ◌∙◌, ap, ap₂, subst}
use mathlib.Core.Bool.{Bool, false}
use mathlib.Core.List.{List, [], ◌∷◌, ◌++◌, map, map-append}
use Prim.Native.Nat.{ℕ, zero, suc, ◌+◌, ◌-◌, ◌≤◌, ◌<◌}
use native.Mathlib.Nat.{sub-zero, zero-add}
use native.Mathlib.Numerals.{add-one}
use native.Mathlib.Omega.{arith}
use lib.ListN.{length, take, drop, get_or}
use lib.Seq.{drop-cons, take_at, take-suc}
use Rattle.meaning.specs.Counting.{All}
use Rattle.meaning.proofs.Parity.{◌⊕◌, ⊕_self, ⊕_assoc, sum, sum_all, sum_false}
use Rattle.meaning.proofs.Space.{all_append}
use Rattle.rising.specs.Merged.{From, less_base, plus_base}
use Rattle.rising.proofs.Sums.{from_less}

pub all_take : (Q : ℕ → Type 0) (n : ℕ) (l : List ℕ) → All Q l → All Q (take n l)
all_take Q zero l h = tt
all_take Q (suc n) [] h = tt
all_take Q (suc n) (x ∷ l) h = (h.0, all_take Q n l h.1)

pub all_drop : (Q : ℕ → Type 0) (n : ℕ) (l : List ℕ) → All Q l → All Q (drop n l)
all_drop Q zero l h = h
all_drop Q (suc n) [] h = tt
all_drop Q (suc n) (x ∷ l) h = all_drop Q n l h.1

pub from_drop : (m n : ℕ) (l : List ℕ) → From m l → From m (drop n l)
from_drop m zero l h = h
from_drop m (suc n) [] h = tt
from_drop m (suc n) (x ∷ l) h = from_less m (suc x) (drop n l) (omega (arith, h.0)) (from_drop (suc x) n l h.1)

pub from_take : (m n : ℕ) (l : List ℕ) → From m l → From m (take n l)
from_take m zero l h = tt
from_take m (suc n) [] h = tt
from_take m (suc n) (x ∷ l) h = (h.0, from_take (suc x) n l h.1)

pub all_begins : (Q : ℕ → Type 0) (l : List ℕ) (i : ℕ) → All Q (drop i l) → i < length l → Q (get_or l i 0)
all_begins Q l i h u = (subst (All Q) (drop-cons l i 0 u) h).0

pub any : (l : List ℕ) → All (λ k. 0 ≤ k) l
any [] = tt
any (x ∷ l) = (omega arith, any l)

pub less_zero : (l : List ℕ) → less_base 0 l ≡ l
less_zero [] = refl
less_zero (x ∷ l) = ap₂ ◌∷◌ (sub-zero x) (less_zero l)

pub plus_zero : (l : List ℕ) → plus_base 0 l ≡ l
plus_zero [] = refl
plus_zero (x ∷ l) = ap₂ ◌∷◌ (zero-add x) (plus_zero l)

-- what a call that merged into a slice left at its front
pub front_of : (m : ℕ) (l before now : List ℕ) → m ≡ length l → now ≡ l ++ drop m before → take m now ≡ l
front_of m l before now e f = ap (take m) f ∙ take_at l (drop m before) m (sym e)

-- a list that rises below e, and then one that rises from e
pub from_append : (m e : ℕ) (l k : List ℕ) → From m l → All (λ x. x < e) l → m ≤ e → From e k → From m (l ++ k)
from_append m e [] k h u w t = from_less m e k w t
from_append m e (x ∷ l) k h u w t = (h.0, from_append (suc x) e l k h.1 u.1 u.0 t)

pub from_plus : (base m : ℕ) (l : List ℕ) → From m l → From (base + m) (plus_base base l)
from_plus base m [] h = tt
from_plus base m (x ∷ l) h = (omega (arith, h.0), subst (λ (n : ℕ). From n (plus_base base l)) (omega arith) (from_plus base (suc x) l h.1))

pub from_minus : (base m : ℕ) (l : List ℕ) → base ≤ m → From m l → From (m - base) (less_base base l)
from_minus base m [] b h = tt
from_minus base m (x ∷ l) b h = (
  omega (arith, h.0),
  subst (λ (n : ℕ). From n (less_base base l)) (omega (arith, h.0))
      (from_minus base (suc x) l (omega (arith, h.0)) h.1),
)

pub all_image : (Q : ℕ → Type 0) (f : ℕ → ℕ) (l : List ℕ) → All (λ k. Q (f k)) l → All Q (map f l)
all_image Q f [] h = tt
all_image Q f (x ∷ l) h = (h.0, all_image Q f l h.1)

pub all_both : (Q R : ℕ → Type 0) (l : List ℕ) → All Q l → All R l → All (λ k. Q k × R k) l
all_both Q R [] h k = tt
all_both Q R (x ∷ l) h k = ((h.0, k.0), all_both Q R l h.1 k.1)

pub sum_none : (f : ℕ → Bool) (l : List ℕ) → All (λ k. f k ≡ false) l → sum f l ≡ false
sum_none f l h = sum_all f (λ k. false) l h ∙ sum_false l

pub undo : (a b : Bool) → (a ⊕ (a ⊕ b)) ≡ b
undo a b = sym (⊕_assoc a a b) ∙ ap (◌⊕ b) (⊕_self a)

pub plus_append : (base : ℕ) (l m : List ℕ) → plus_base base (l ++ m) ≡ plus_base base l ++ plus_base base m
plus_append base l m = map-append (λ k. base + k) l m

pub plus_plus : (a b : ℕ) (l : List ℕ) → plus_base (a + b) l ≡ plus_base a (plus_base b l)
plus_plus a b [] = refl
plus_plus a b (x ∷ l) = let e : a + b + x ≡ a + (b + x) = omega arith in ap₂ ◌∷◌ e (plus_plus a b l)

-- a rising list has no more members than there are numbers in its range
pub rising_short : (m e : ℕ) (l : List ℕ) → m ≤ e → From m l → All (λ k. k < e) l → m + length l ≤ e
rising_short m e [] h r u = omega arith
rising_short m e (x ∷ l) h r u = omega (arith, r.0, rising_short (suc x) e l u.0 r.1 u.1)

-- ---- the ones of a word, put out one by one

pub all_more : (Q : ℕ → Type 0) (l : List ℕ) (i : ℕ) → All Q (take i l) → i < length l → Q (get_or l i 0) → All Q (take (i + 1) l)
all_more Q l i h u q = subst (All Q) (sym (ap (λ m. take m l) (add-one i) ∙ take-suc l i 0 u)) (all_append Q (take i l) (get_or l i 0 ∷ []) h (q, tt))
