-- Counting, in the words that the documents use.
--   count, odd   how many of a list pass a test; an odd number
--   _⊕_, sum     exclusive or; the exclusive or of a test over a list, which is whether an odd number of its members pass
--   keep         the members of a list that pass a test, in their order
--   All          every member of a list
--   first        the least number below n that passes a test, or n where none does
--   upto         0, 1, .. n
use Rattle.std.specs.Prelude.{Bool, true, false, not, cond, List, [], ◌∷◌, ◌++◌, ℕ, zero, suc, ltb}

module _ {A : Type 0} where
  abbrev pub count : (A → Bool) → List A → ℕ
  count p [] = zero
  count p (x ∷ l) = cond (p x) (suc (count p l)) (count p l)

  abbrev pub keep : (A → Bool) → List A → List A
  keep p [] = []
  keep p (x ∷ l) = cond (p x) (x ∷ keep p l) (keep p l)

  abbrev pub All : (A → Type 0) → List A → Type 0
  All P [] = Unit {0}
  All P (x ∷ l) = P x × All P l

infixr 55 ◌⊕◌
abbrev pub ◌⊕◌ : Bool → Bool → Bool
true ⊕ b = not b
false ⊕ b = b

abbrev pub sum : {A : Type 0} → (A → Bool) → List A → Bool
sum f [] = false
sum f (x ∷ l) = f x ⊕ sum f l

abbrev pub odd : ℕ → Bool
odd zero = false
odd (suc n) = not (odd n)

abbrev pub first : (ℕ → Bool) → ℕ → ℕ
first p zero = zero
first p (suc n) = cond (ltb (first p n) n) (first p n) (cond (p n) n (suc n))

abbrev pub upto : ℕ → List ℕ
upto zero = zero ∷ []
upto (suc n) = upto n ++ (suc n ∷ [])
