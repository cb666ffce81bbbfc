-- A rule that holds at every entry of a table, from one test that is computed over the whole table.
--   every        a test of each entry with its place, counted from i
--   Follows      the whole table follows a rule: what is computed once
--   entry_rule   where the whole table follows the rule, each entry does
use mathlib.Core.Path.{◌≡◌, ◌∙◌, sym, subst}
use mathlib.Core.Bool.{Bool, true, false, ◌&&◌}
use mathlib.Core.List.{List, [], ◌∷◌}
use Prim.Native.Nat.{ℕ, zero, suc, ◌+◌, ◌<◌}
use native.Mathlib.Nat.{add-zero, zero-add, add-suc, suc-add}
use native.Mathlib.Omega.{arith}
use lib.Dec.{T, eqb, eqb→eq}
use lib.ListN.{length, get_or}

abbrev pub every : (ℕ → ℕ → Bool) → ℕ → List ℕ → Bool
every f i [] = true
every f i (x ∷ xs) = f i x && every f (suc i) xs

-- each entry is what the rule says of its place
abbrev pub Follows : (ℕ → ℕ) → List ℕ → Type 0
Follows rule xs = T (every (λ k x. eqb x (rule k)) 0 xs)

and_left : (a b : Bool) → T (a && b) → T a
and_left true b t = tt
and_left false b t = t

and_right : (a b : Bool) → T (a && b) → T b
and_right true b t = t
and_right false b t = absurd t

from : (f : ℕ → ℕ → Bool) (xs : List ℕ) (i : ℕ) → T (every f i xs) → (k : ℕ) → k < length xs → T (f (i + k) (get_or xs k 0))
from f [] i t k h = absurd (omega arith)
from f (x ∷ xs) i t zero h = subst (λ (m : ℕ). T (f m x)) (sym (add-zero i)) (and_left (f i x) (every f (suc i) xs) t)
from f (x ∷ xs) i t (suc k) h =
    subst (λ (m : ℕ). T (f m (get_or xs k 0))) (suc-add i k ∙ sym (add-suc i k))
    (from f xs (suc i) (and_right (f i x) (every f (suc i) xs) t) k (omega arith))

pub entry_rule : (rule : ℕ → ℕ) (xs : List ℕ) → Follows rule xs → (k : ℕ) → k < length xs → get_or xs k 0 ≡ rule k
entry_rule rule xs t k h =
    eqb→eq (get_or xs k 0) (rule k) (subst (λ (m : ℕ). T (eqb (get_or xs k 0) (rule m))) (zero-add k) (from (λ k x. eqb x (rule k)) xs 0 t k h))
