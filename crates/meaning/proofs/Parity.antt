-- Parity: exclusive or of truth values, and the exclusive or of a test over a list, which is whether an odd number passes.
-- Assumes nothing.
use mathlib.Core.Path.{◌≡◌, refl, sym, ◌∙◌, ap, ap₂}
use mathlib.Core.Bool.{Bool, true, false, not, ◌&&◌, cond, not-not, false≢true}
use mathlib.Core.List.{List, [], ◌∷◌, ◌++◌, map}
use Prim.Native.Nat.{suc}
use Rattle.meaning.specs.Counting.{count, keep, All, odd}
pub use Rattle.meaning.specs.Counting.{◌⊕◌, sum}
use Rattle.meaning.specs.OneList.{each}

pub ⊕_false : (a : Bool) → (a ⊕ false) ≡ a
⊕_false true = refl
⊕_false false = refl

pub ⊕_self : (a : Bool) → (a ⊕ a) ≡ false
⊕_self true = refl
⊕_self false = refl

pub ⊕_assoc : (a b c : Bool) → ((a ⊕ b) ⊕ c) ≡ (a ⊕ (b ⊕ c))
⊕_assoc true true c = sym (not-not c)
⊕_assoc true false c = refl
⊕_assoc false b c = refl

pub ⊕_comm : (a b : Bool) → (a ⊕ b) ≡ (b ⊕ a)
⊕_comm true true = refl
⊕_comm true false = refl
⊕_comm false true = refl
⊕_comm false false = refl

pub ⊕_left : (a b c : Bool) → (a ⊕ (b ⊕ c)) ≡ (b ⊕ (a ⊕ c))
⊕_left a b c = sym (⊕_assoc a b c) ∙ ap (◌⊕ c) (⊕_comm a b) ∙ ⊕_assoc b a c

pub ⊕_swap : (a b c d : Bool) → ((a ⊕ b) ⊕ (c ⊕ d)) ≡ ((a ⊕ c) ⊕ (b ⊕ d))
⊕_swap a b c d = ⊕_assoc a b (c ⊕ d) ∙ ap (a ⊕◌) (sym (⊕_assoc b c d) ∙ ap (◌⊕ d) (⊕_comm b c) ∙ ⊕_assoc c b d) ∙ sym (⊕_assoc a c (b ⊕ d))

pub ⊕_cancel : (a b c : Bool) → (a ⊕ b) ≡ (a ⊕ c) → b ≡ c
⊕_cancel true b c e = sym (not-not b) ∙ ap not e ∙ not-not c
⊕_cancel false b c e = e

pub and_⊕ : (a b c : Bool) → (a && (b ⊕ c)) ≡ ((a && b) ⊕ (a && c))
and_⊕ true b c = refl
and_⊕ false b c = refl

pub ⊕_and : (a b c : Bool) → ((a ⊕ b) && c) ≡ ((a && c) ⊕ (b && c))
⊕_and true true true = refl
⊕_and true true false = refl
⊕_and true false true = refl
⊕_and true false false = refl
⊕_and false b c = refl

module _ {A : Type 0} where
  -- an odd number of a list pass a test exactly when the exclusive or of the test over the list is true
  pub odd_count : (p : A → Bool) (l : List A) → odd (count p l) ≡ sum p l
  odd_count p [] = refl
  odd_count p (x ∷ l) = go (p x) (odd_count p l)
    where
      go : (b : Bool) → odd (count p l) ≡ sum p l → odd (cond b (suc (count p l)) (count p l)) ≡ (b ⊕ sum p l)
      go true e = ap not e
      go false e = e

  pub sum_append : (f : A → Bool) (l m : List A) → sum f (l ++ m) ≡ (sum f l ⊕ sum f m)
  sum_append f [] m = refl
  sum_append f (x ∷ l) m = ap (f x ⊕◌) (sum_append f l m) ∙ sym (⊕_assoc (f x) (sum f l) (sum f m))

  pub sum_⊕ : (f g : A → Bool) (l : List A) → sum (λ x. f x ⊕ g x) l ≡ (sum f l ⊕ sum g l)
  sum_⊕ f g [] = refl
  sum_⊕ f g (x ∷ l) = ap ((f x ⊕ g x) ⊕◌) (sum_⊕ f g l) ∙ ⊕_swap (f x) (g x) (sum f l) (sum g l)

  pub sum_false : (l : List A) → sum (λ x. false) l ≡ false
  sum_false [] = refl
  sum_false (x ∷ l) = sum_false l

  pub sum_and : (b : Bool) (f : A → Bool) (l : List A) → sum (λ x. b && f x) l ≡ (b && sum f l)
  sum_and true f l = refl
  sum_and false f l = sum_false l

  -- tests that agree on the members of a list have the same sum
  pub sum_all : (f g : A → Bool) (l : List A) → All (λ x. f x ≡ g x) l → sum f l ≡ sum g l
  sum_all f g [] h = refl
  sum_all f g (x ∷ l) h = ap₂ ◌⊕◌ h.0 (sum_all f g l h.1)

  pub sum_ext : (f g : A → Bool) (l : List A) → ((x : A) → f x ≡ g x) → sum f l ≡ sum g l
  sum_ext f g [] h = refl
  sum_ext f g (x ∷ l) h = ap₂ ◌⊕◌ (h x) (sum_ext f g l h)

  pub sum_keep : (f p : A → Bool) (l : List A) → sum f (keep p l) ≡ sum (λ x. p x && f x) l
  sum_keep f p [] = refl
  sum_keep f p (x ∷ l) = go (p x) (sum_keep f p l)
    where
      go : (b : Bool) → sum f (keep p l) ≡ sum (λ y. p y && f y) l
          → sum f (cond b (x ∷ keep p l) (keep p l)) ≡ ((b && f x) ⊕ sum (λ y. p y && f y) l)
      go true e = ap (f x ⊕◌) e
      go false e = e

  -- an odd number of passing members is not none
  pub sum_some : (Q : A → Type 0) (f : A → Bool) (l : List A) → All Q l → sum f l ≡ true → (x : A) × Q x × (f x ≡ true)
  sum_some Q f [] h e = absurd (false≢true e)
  sum_some Q f (x ∷ l) h e = go (f x) refl e (sum_some Q f l h.1)
    where
      go : (b : Bool) → f x ≡ b → (b ⊕ sum f l) ≡ true → (sum f l ≡ true → (y : A) × Q y × (f y ≡ true)) → (y : A) × Q y × (f y ≡ true)
      go true p k r = (x, h.0, p)
      go false p k r = r k

module _ {A B : Type 0} where
  pub sum_map : (f : B → Bool) (g : A → B) (l : List A) → sum f (map g l) ≡ sum (λ x. f (g x)) l
  sum_map f g [] = refl
  sum_map f g (x ∷ l) = ap (f (g x) ⊕◌) (sum_map f g l)

  pub sum_swap : (f : A → B → Bool) (l : List A) (m : List B) → sum (λ x. sum (f x) m) l ≡ sum (λ y. sum (λ x. f x y) l) m
  sum_swap f [] m = sym (sum_false m)
  sum_swap f (x ∷ l) m = ap (sum (f x) m ⊕◌) (sum_swap f l m) ∙ sym (sum_⊕ (f x) (λ y. sum (λ x'. f x' y) l) m)

  pub sum_each : (f : B → Bool) (g : A → List B) (l : List A) → sum f (each g l) ≡ sum (λ x. sum f (g x)) l
  sum_each f g [] = refl
  sum_each f g (x ∷ l) = sum_append f (g x) (each g l) ∙ ap (sum f (g x) ⊕◌) (sum_each f g l)
