-- Laws of masks: operations on the bits of a mask are operations on the memberships that it weighs.
--   and_weigh, xor_weigh    both at once; one without the other
--   over_sides, over_handed    the cells that a vertex is at or below: on all three axes; by numbers as a machine hands them on
--   masked_by, masked_all   turned by the cells that each vertex of a list is at or below: the mask of the permitted ones
use mathlib.Core.Path.{◌≡◌, refl, sym, ◌∙◌, ap, ap₂}
use mathlib.Core.Bool.{Bool, true, false, ◌&&◌, cond, false≢true}
use mathlib.Core.List.{List, [], ◌∷◌, map}
use Prim.Native.Nat.{ℕ, ◌+◌, ◌*◌, ◌/◌, ◌%◌, ◌<◌, min}
use native.Mathlib.Omega.{arith}
use lib.Bits.{bit_and, bit_xor, and_step, xor_step, differ}
use lib.IntN.{ℤ, pred_ℤ}
use lib.Signed.{le_z}
use mir.Syntax.{w16}
use mir.Val.{SFits}
use mir.ValLaws.{to_z-of_z}
use Rattle.std.specs.List.{fold}
use Rattle.meaning.specs.declared.Cell.{Cell}
use Rattle.meaning.specs.declared.Corner.{Corner}
use Rattle.meaning.specs.Lists.{at_or_below, permitted, surrounding, weigh, mask}
use Rattle.meaning.proofs.Parity.{◌⊕◌, ⊕_false, ⊕_assoc}
use Rattle.meaning.proofs.Integers.{lt_z_le_z}
use Rattle.asks.specs.Passes.{side, over}
use Rattle.asks.proofs.Passes.{le_z_pred, handed, vertex_of, permitted_cons}

abbrev bit : Bool → ℕ
bit b = cond b 1 0

bit_lt : (b : Bool) → bit b < 2
bit_lt true = omega arith
bit_lt false = omega arith

lowest : (b : Bool) (w : ℕ) → (bit b + 2 * w) % 2 ≡ bit b
lowest b w = let h = bit_lt b in omega arith

others : (b : Bool) (w : ℕ) → (bit b + 2 * w) / 2 ≡ w
others b w = let h = bit_lt b in omega arith

-- an operation that works digit by digit, as f on two digits and as g on two truth values
module _ (op f : ℕ → ℕ → ℕ) (g : Bool → Bool → Bool) (none : op 0 0 ≡ 0)
    (step : (a b : ℕ) → op a b ≡ op (a / 2) (b / 2) * 2 + f (a % 2) (b % 2))
    (digit : (a b : Bool) → f (bit a) (bit b) ≡ bit (g a b)) where
  by_digits : {A : Type 0} (p q : A → Bool) (l : List A) → op (weigh (map p l)) (weigh (map q l)) ≡ weigh (map (λ x. g (p x) (q x)) l)
  by_digits p q [] = none
  by_digits p q (x ∷ l) =
      let u = weigh (map p l) in
      let w = weigh (map q l) in
      step (bit (p x) + 2 * u) (bit (q x) + 2 * w)
      ∙ ap₂ ◌+◌
      (ap (◌* 2) (ap₂ op (others (p x) u) (others (q x) w) ∙ by_digits p q l))
      (ap₂ f (lowest (p x) u) (lowest (q x) w) ∙ digit (p x) (q x))
      ∙ omega arith

module _ {A : Type 0} (p q : A → Bool) (l : List A) where
  pub and_weigh : bit_and (weigh (map p l)) (weigh (map q l)) ≡ weigh (map (λ x. p x && q x) l)
  and_weigh = by_digits bit_and min ◌&&◌ refl and_step digit p q l
    where
      digit : (a b : Bool) → min (bit a) (bit b) ≡ bit (a && b)
      digit true true = refl
      digit true false = refl
      digit false true = refl
      digit false false = refl

  pub xor_weigh : bit_xor (weigh (map p l)) (weigh (map q l)) ≡ weigh (map (λ x. p x ⊕ q x) l)
  xor_weigh = by_digits bit_xor differ ◌⊕◌ refl xor_step digit p q l
    where
      digit : (a b : Bool) → differ (bit a) (bit b) ≡ bit (a ⊕ b)
      digit true true = refl
      digit true false = refl
      digit false true = refl
      digit false false = refl

-- one axis: `pattern` says of each cell whether it lies on the high side; a is the test on the low side, b on the high side
by_side : (pattern : List Bool) (a b : Bool) → (a ≡ true → b ≡ true) →
    weigh (map (λ s. cond s b a) pattern)
    ≡ cond a (weigh (map (λ s. cond s true true) pattern))
    (cond b (weigh (map (λ s. cond s true false) pattern)) (weigh (map (λ s. cond s false false) pattern)))
by_side pattern true true h = refl
by_side pattern true false h = absurd (false≢true (h refl))
by_side pattern false true h = refl
by_side pattern false false h = refl

low_high : (u x : ℤ) → le_z u (pred_ℤ x) ≡ true → le_z u x ≡ true
low_high u x h = lt_z_le_z u x (sym (le_z_pred u x) ∙ h)

module _ (w v : Corner) where
  on_axis : (u x : ℤ) (pattern : List Bool) → weigh (map (λ s. cond s (le_z u x) (le_z u (pred_ℤ x))) pattern)
      ≡ cond (le_z u (pred_ℤ x)) (weigh (map (λ s. cond s true true) pattern))
      (cond (le_z u x) (weigh (map (λ s. cond s true false) pattern)) (weigh (map (λ s. cond s false false) pattern)))
  on_axis u x pattern = by_side pattern (le_z u (pred_ℤ x)) (le_z u x) (low_high u x)

  on_focus : weigh (map (λ c. le_z w.focus c.focus) (surrounding v)) ≡ side w.focus v.focus 240
  on_focus = on_axis w.focus v.focus (false ∷ false ∷ false ∷ false ∷ true ∷ true ∷ true ∷ true ∷ [])

  on_first : weigh (map (λ c. le_z w.first c.first) (surrounding v)) ≡ side w.first v.first 204
  on_first = on_axis w.first v.first (false ∷ false ∷ true ∷ true ∷ false ∷ false ∷ true ∷ true ∷ [])

  on_second : weigh (map (λ c. le_z w.second c.second) (surrounding v)) ≡ side w.second v.second 170
  on_second = on_axis w.second v.second (false ∷ true ∷ false ∷ true ∷ false ∷ true ∷ false ∷ true ∷ [])

  pub over_sides : bit_and (side w.focus v.focus 240) (bit_and (side w.first v.first 204) (side w.second v.second 170)) ≡ over w v
  over_sides =
      ap₂ bit_and (sym on_focus)
      (ap₂ bit_and (sym on_first) (sym on_second) ∙ and_weigh (λ c. le_z w.first c.first) (λ c. le_z w.second c.second) (surrounding v))
      ∙ and_weigh (λ c. le_z w.focus c.focus) (λ c. le_z w.first c.first && le_z w.second c.second) (surrounding v)

  -- the same by the numbers of both, as a machine hands them on
  pub over_handed : SFits w16 w.focus → SFits w16 w.first → SFits w16 w.second → SFits w16 v.focus → SFits w16 v.first → SFits w16 v.second
      → bit_and (side (handed w.focus) (handed v.focus) 240)
      (bit_and (side (handed w.first) (handed v.first) 204) (side (handed w.second) (handed v.second) 170))
      ≡ over w v
  over_handed f₁ f₂ f₃ g₁ g₂ g₃ =
      ap₂ bit_and (back w.focus v.focus 240 f₁ g₁)
      (ap₂ bit_and (back w.first v.first 204 f₂ g₂) (back w.second v.second 170 f₃ g₃))
      ∙ over_sides
    where
      back : (u x : ℤ) (high : ℕ) → SFits w16 u → SFits w16 x → side (handed u) (handed x) high ≡ side u x high
      back u x high f g = ap₂ (λ y z. side y z high) (to_z-of_z w16 u f) (to_z-of_z w16 x g)

-- a mask turned by the cells that each vertex is at or below
abbrev pub masked_by : Corner → ℕ → List ℤ → ℕ
masked_by v m numbers = bit_xor m (over (vertex_of numbers) v)

module _ (v : Corner) where
  abbrev weighed : (Cell → Bool) → ℕ
  weighed S = weigh (map S (surrounding v))

  -- from the mask of some memberships: of each cell, turned by the vertices it is at or above
  masked_from : (ls : List (List ℤ)) (so : Cell → Bool) → fold (masked_by v) (weighed so) ls ≡ weighed (λ c. so c ⊕ permitted (map vertex_of ls) c)
  masked_from [] so = ap weighed (λ j c. sym (⊕_false (so c)) j)
  masked_from (n ∷ ls) so =
      let w = vertex_of n in
      let more = λ (c : Cell). so c ⊕ at_or_below c w in
      ap (λ (m : ℕ). fold (masked_by v) m ls) (xor_weigh so (λ c. at_or_below c w) (surrounding v))
      ∙ masked_from ls more
      ∙ ap weighed (λ j c. (⊕_assoc (so c) (at_or_below c w) (permitted (map vertex_of ls) c) ∙ ap (so c ⊕◌) (sym (permitted_cons w (map vertex_of ls) c))) j)

  pub masked_all : (ls : List (List ℤ)) → fold (masked_by v) 0 ls ≡ mask (permitted (map vertex_of ls)) v
  masked_all ls = masked_from ls (λ c. false)
