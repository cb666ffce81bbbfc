-- The nearest cell (document 01, demand 3).
--   nearest_unique, nearest_distance   any two nearest cells are equal, and so are their distances
--   nearest_iff                        there is a nearest cell exactly when there is a cell at all
-- Assumes nothing.
use mathlib.Core.Path.{◌≡◌, refl, sym, ◌∙◌, ap, subst}
use mathlib.Core.Logic.{◌↔◌}
use mathlib.Core.Bool.{Bool, true, false, true≢false}
use mathlib.Core.List.{List, [], ◌∷◌, Memᴰ}
use Prim.Native.Nat.{ℕ}
use native.Mathlib.Nat.{le_antisymm}
use native.Mathlib.Omega.{arith}
use lib.Dec.{ltb, eqb}
use lib.IntN.{ℤ}
use lib.Signed.{le_z}
use borrow.Author.Tests.{ltb-true, ltb-false, lt-ltb, eq-eqb, ne_eqb, eqb-true}
use Rattle.meaning.specs.Numbers.{cell, corner, is_code, is_cell, is_number, lowest, last_code, last_number}
use Rattle.meaning.specs.declared.Cell.{Cell}
use Rattle.meaning.specs.declared.Corner.{Corner}
use Rattle.meaning.specs.Counting.{All}
use Rattle.meaning.specs.Lists.{below}
use Rattle.meaning.specs.OneList.{WithinCodes}
use Rattle.meaning.specs.Nearest.{distance, lower, Nearest}
use Rattle.meaning.proofs.Integers.{le_z_trans, and_left, and_right, and_both, not_yes}
use Rattle.meaning.proofs.Space.{Order, not_itself, occ_member}
use Rattle.meaning.proofs.Product.{Pairing, pair_order, first_lt, second_lt}
use Rattle.meaning.proofs.Solid.{solid, below_lt}

-- the corner with a cell's numbers, and back: the order of cells is the order of corners
abbrev pub foot : Cell → Corner
foot c = corner c.focus c.first c.second

abbrev pub head : Corner → Cell
head v = cell v.focus v.first v.second

pub lower_below : (c d : Cell) → lower c d ≡ below (foot c) (foot d)
lower_below c d = refl

pub lower_lt : (c d : Cell) → lower c d ≡ solid.order.lt (foot c) (foot d)
lower_lt c d = lower_below c d ∙ below_lt (foot c) (foot d)

lower_total : (c d : Cell) → lower c d ≡ false → lower d c ≡ false → c ≡ d
lower_total c d h k = ap head (solid.order.lt_total (foot c) (foot d) (sym (lower_lt c d) ∙ h) (sym (lower_lt d c) ∙ k))

module _ (S : Cell → Bool) (w : Cell) where
  pub nearest_distance : (c d : Cell) → Nearest S w c → Nearest S w d → distance w c ≡ distance w d
  nearest_distance c d h k = le_antisymm (h.least d k.member) (k.least c h.member)

  pub nearest_unique : (c d : Cell) → Nearest S w c → Nearest S w d → c ≡ d
  nearest_unique c d h k =
      let e = nearest_distance c d h k in
      lower_total c d (k.lowest c h.member e) (h.lowest d k.member (sym e))

-- ---- the least of a list

abbrev pub nat_order : Order ℕ
nat_order =
    record {
      eq = eqb;
      lt = ltb;
      eq_refl = λ n. eq-eqb n n refl;
      eq_sound = eqb-true;
      lt_trans = λ a b c h k. lt-ltb a c (omega (arith, ltb-true a b h, ltb-true b c k));
      lt_apart = λ a b h. ne_eqb a b (λ e. omega (arith, ltb-true a b h));
      lt_total = λ a b h k. le_antisymm (ltb-false b a k) (ltb-false a b h);
    }

data Least {X A : Type 0} (O : Order A) (rank : X → A) (S : X → Bool) (l : List X) : Type 0 where
  nothing : All (λ x. S x ≡ false) l → Least O rank S l
  found : (x : X) → S x ≡ true → All (λ y. S y ≡ true → O.lt (rank y) (rank x) ≡ false) l → Least O rank S l

module _ {X A : Type 0} (O : Order A) (rank : X → A) (S : X → Bool) where
  never : (x : X) → O.lt (rank x) (rank x) ≡ false
  never x = not_yes (O.lt (rank x) (rank x)) (λ e. not_itself O (rank x) (rank x) e refl)

  none_before : (x : X) (l : List X) → All (λ y. S y ≡ false) l → All (λ y. S y ≡ true → O.lt (rank y) (rank x) ≡ false) l
  none_before x [] h = tt
  none_before x (y ∷ l) h = (λ e. absurd (true≢false (sym e ∙ h.0)), none_before x l h.1)

  still : (x z : X) → O.lt (rank x) (rank z) ≡ true → (l : List X) → All (λ y. S y ≡ true → O.lt (rank y) (rank z) ≡ false) l → All (λ y. S y ≡ true → O.lt (rank y) (rank x) ≡ false) l
  still x z t [] h = tt
  still x z t (y ∷ l) h =
      (λ e. not_yes (O.lt (rank y) (rank x)) (λ k. true≢false (sym (O.lt_trans (rank y) (rank x) (rank z) k t) ∙ h.0 e)), still x z t l h.1)

  least_in : (l : List X) → Least O rank S l
  least_in [] = nothing tt
  least_in (x ∷ l) = go (S x) refl (least_in l)
    where
      versus : (z : X) → S x ≡ true → S z ≡ true → All (λ y. S y ≡ true → O.lt (rank y) (rank z) ≡ false) l → (t : Bool) → O.lt (rank x) (rank z) ≡ t → Least O rank S (x ∷ l)
      versus z p q h true e = found x p (λ _. never x, still x z e l h)
      versus z p q h false e = found z q (λ _. e, h)

      go : (b : Bool) → S x ≡ b → Least O rank S l → Least O rank S (x ∷ l)
      go true p (nothing h) = found x p (λ _. never x, none_before x l h)
      go true p (found z q h) = versus z p q h (O.lt (rank x) (rank z)) refl
      go false p (nothing h) = nothing (p, h)
      go false p (found z q h) = found z q (λ e. absurd (true≢false (sym e ∙ p)), h)

-- ---- there is a nearest cell

tuples : Pairing ℕ Corner (ℕ × Corner)
tuples = record { mk = λ n v. (n, v); left = λ t. t.0; right = λ t. t.1; left_mk = λ n v. refl; right_mk = λ n v. refl; mk_eta = λ t. refl }

-- every cell within the codes is among the corners of the grid
in_grid : (c : Cell) → is_cell c ≡ true → Memᴰ (foot c) solid.grid
unfolding solid
in_grid c h =
    occ_member solid.order (foot c) solid.grid
    (solid.grid_once (foot c)
    (and_both (is_number c.focus) _ (widen c.focus (and_left (is_code c.focus) _ h))
    (and_both (is_number c.first) _ (widen c.first (and_left (is_code c.first) _ (and_right (is_code c.focus) _ h)))
    (widen c.second (and_right (is_code c.first) _ (and_right (is_code c.focus) _ h))))))
  where
    widen : (z : ℤ) → is_code z ≡ true → is_number z ≡ true
    widen z k = and_both (le_z lowest z) _ (and_left (le_z lowest z) _ k) (le_z_trans z last_code last_number (and_right (le_z lowest z) _ k) refl)

all_at : (Q : Corner → Type 0) (v : Corner) (l : List Corner) → Memᴰ v l → All Q l → Q v
all_at Q v [] m h = elim m [ ]
all_at Q v (u ∷ l) (Memᴰ.head e) h = subst Q (sym e) h.0
all_at Q v (u ∷ l) (Memᴰ.tail m) h = all_at Q v l m h.1

module _ (S : Cell → Bool) (within : WithinCodes S) (w : Cell) where
  abbrev rank : Corner → ℕ × Corner
  rank v = (distance w (head v), v)

  nearest_of_lem : (v : Corner) → S (head v) ≡ true → ((d : Cell) → S d ≡ true → (pair_order nat_order solid.order tuples).lt (rank (foot d)) (rank v) ≡ false) → Nearest S w (head v)
  unfolding tuples
  nearest_of_lem v e h =
      record {
        member = e;
        least = λ d p. ltb-false (distance w d) (distance w (head v))
            (not_yes (ltb (distance w d) (distance w (head v)))
            (λ k. true≢false (sym (first_lt nat_order solid.order tuples (rank (foot d)) (rank v) k) ∙ h d p)));
        lowest = λ d p q.
            not_yes (lower d (head v))
            (λ k. true≢false (sym (second_lt nat_order solid.order tuples (rank (foot d)) (rank v) q (sym (lower_lt d (head v)) ∙ k)) ∙ h d p));
      }

  pub nearest_exists : (c : Cell) → S c ≡ true → (d : Cell) × Nearest S w d
  nearest_exists c e = go (least_in (pair_order nat_order solid.order tuples) rank (λ v. S (head v)) solid.grid)
    where
      go : Least (pair_order nat_order solid.order tuples) rank (λ v. S (head v)) solid.grid → (d : Cell) × Nearest S w d
      go (nothing h) = absurd (true≢false (sym e ∙ all_at (λ v. S (head v) ≡ false) (foot c) solid.grid (in_grid c (within c e)) h))
      go (found v p h) = (
        head v,
        nearest_of_lem v p
            (λ d q. all_at (λ u. S (head u) ≡ true → (pair_order nat_order solid.order tuples).lt (rank u) (rank v) ≡ false) (foot d) solid.grid (in_grid d (within d q)) h q),
      )

  pub nearest_iff : ((c : Cell) × (S c ≡ true)) ↔ ((d : Cell) × Nearest S w d)
  nearest_iff = (λ r. nearest_exists r.0 r.1, λ r. (r.0, r.1.member))
