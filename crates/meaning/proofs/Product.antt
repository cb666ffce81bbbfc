-- A space of one dimension more: two spaces side by side, their vertices paired and their cells paired.
--   Pairing    a type whose values are pairs, whatever they are called
--   product    the space of the pairs; `diff` goes along the first space over the parities along the second
-- Assumes nothing.
use mathlib.Core.Path.{◌≡◌, refl, sym, ◌∙◌, ap, ap₂, subst}
use mathlib.Core.Bool.{Bool, true, false, ◌&&◌, ◌||◌, true≢false, false≢true, and_comm}
use mathlib.Core.List.{List, [], ◌∷◌, ◌++◌, map}
use Rattle.meaning.specs.Counting.{All}
use Rattle.meaning.specs.OneList.{each}
use Rattle.meaning.proofs.Parity.{◌⊕◌, sum, sum_ext, sum_map, sum_each, sum_and}
use Rattle.meaning.proofs.Integers.{and_left, and_right, and_both, not_yes}
use Rattle.meaning.proofs.Space.{Order, Up, occ, Space, all_map, all_append, not_itself, diff_ext, diff_and, diff_and_right, diff_sum}

pub record Pairing (A B P : Type 0) : Type 0 where
  pub mk : A → B → P
  pub left : P → A
  pub right : P → B
  pub left_mk : (a : A) (b : B) → left (mk a b) ≡ a
  pub right_mk : (a : A) (b : B) → right (mk a b) ≡ b
  pub mk_eta : (p : P) → mk (left p) (right p) ≡ p

module _ {A B P : Type 0} (O : Order A) (O' : Order B) (π : Pairing A B P) where
  abbrev pub both_eq : P → P → Bool
  both_eq v w = O.eq (π.left v) (π.left w) && O'.eq (π.right v) (π.right w)

  -- the first decides, and where it is the same the second
  abbrev pub either_lt : P → P → Bool
  either_lt v w = O.lt (π.left v) (π.left w) || (O.eq (π.left v) (π.left w) && O'.lt (π.right v) (π.right w))

  pub paired : (v w : P) → π.left v ≡ π.left w → π.right v ≡ π.right w → v ≡ w
  paired v w e f = sym (π.mk_eta v) ∙ ap₂ π.mk e f ∙ π.mk_eta w

  or_cases : {R : Type 0} (a b : Bool) → (a || b) ≡ true → (a ≡ true → R) → (b ≡ true → R) → R
  or_cases true b e f g = f refl
  or_cases false b e f g = g e

  or_left : (a b : Bool) → a ≡ true → (a || b) ≡ true
  or_left true b e = refl
  or_left false b e = absurd (false≢true e)

  or_right : (a b : Bool) → b ≡ true → (a || b) ≡ true
  or_right true b e = refl
  or_right false b e = e

  or_neither : (a b : Bool) → (a || b) ≡ false → (a ≡ false) × (b ≡ false)
  or_neither true b e = absurd (true≢false e)
  or_neither false b e = (refl, e)

  pub first_lt : (v w : P) → O.lt (π.left v) (π.left w) ≡ true → either_lt v w ≡ true
  first_lt v w h = or_left (O.lt (π.left v) (π.left w)) _ h

  pub second_lt : (v w : P) → π.left v ≡ π.left w → O'.lt (π.right v) (π.right w) ≡ true → either_lt v w ≡ true
  second_lt v w e h =
      or_right (O.lt (π.left v) (π.left w)) _
      (and_both (O.eq (π.left v) (π.left w)) _ (ap (O.eq (π.left v)) (sym e) ∙ O.eq_refl (π.left v)) h)

  pub lt_cases : {R : Type 0} (v w : P) → either_lt v w ≡ true → (O.lt (π.left v) (π.left w) ≡ true → R) → (π.left v ≡ π.left w → O'.lt (π.right v) (π.right w) ≡ true → R) → R
  lt_cases v w h f g =
      or_cases (O.lt (π.left v) (π.left w)) _ h f
      (λ k. g (O.eq_sound (π.left v) (π.left w) (and_left (O.eq (π.left v) (π.left w)) _ k)) (and_right (O.eq (π.left v) (π.left w)) _ k))

  pub trans : (u v w : P) → either_lt u v ≡ true → either_lt v w ≡ true → either_lt u w ≡ true
  trans u v w h k =
      lt_cases u v h
      (λ a. lt_cases v w k
      (λ b. first_lt u w (O.lt_trans (π.left u) (π.left v) (π.left w) a b))
      (λ e b. first_lt u w (subst (λ (x : A). O.lt (π.left u) x ≡ true) e a)))
      (λ e a. lt_cases v w k
      (λ b. first_lt u w (subst (λ (x : A). O.lt x (π.left w) ≡ true) (sym e) b))
      (λ f b. second_lt u w (e ∙ f) (O'.lt_trans (π.right u) (π.right v) (π.right w) a b)))

  pub total : (v w : P) → either_lt v w ≡ false → either_lt w v ≡ false → v ≡ w
  total v w h k =
      let a = or_neither (O.lt (π.left v) (π.left w)) _ h in
      let b = or_neither (O.lt (π.left w) (π.left v)) _ k in
      let e = O.lt_total (π.left v) (π.left w) a.0 b.0 in
      let s = O.eq_refl (π.left v) in
      paired v w e
      (O'.lt_total (π.right v) (π.right w)
      (sym (ap (λ x. O.eq (π.left v) x && O'.lt (π.right v) (π.right w)) (sym e) ∙ ap (◌&& O'.lt (π.right v) (π.right w)) s) ∙ a.1)
      (sym (ap (λ x. O.eq x (π.left v) && O'.lt (π.right w) (π.right v)) (sym e) ∙ ap (◌&& O'.lt (π.right w) (π.right v)) s) ∙ b.1))

  abbrev pub pair_order : Order P
  pair_order =
      record {
        eq = both_eq;
        lt = either_lt;
        eq_refl = λ v. and_both (O.eq (π.left v) (π.left v)) _ (O.eq_refl (π.left v)) (O'.eq_refl (π.right v));
        eq_sound = λ v w h.
            paired v w (O.eq_sound (π.left v) (π.left w) (and_left (O.eq (π.left v) (π.left w)) _ h))
            (O'.eq_sound (π.right v) (π.right w) (and_right (O.eq (π.left v) (π.left w)) _ h));
        lt_trans = trans;
        lt_apart = λ v w h.
            not_yes (both_eq v w)
            (λ e. lt_cases v w h
            (λ a. not_itself O (π.left v) (π.left w) a (O.eq_sound (π.left v) (π.left w) (and_left (O.eq (π.left v) (π.left w)) _ e)))
            (λ _ a. not_itself O' (π.right v) (π.right w) a (O'.eq_sound (π.right v) (π.right w) (and_right (O.eq (π.left v) (π.left w)) _ e))));
        lt_total = total;
      }

  -- ---- rows: every pair of two lists, in order

  abbrev pub rows : List A → List B → List P
  rows l m = each (λ a. map (π.mk a) m) l

  all_row : (Q : P → Type 0) (a : A) (m : List B) → All (λ b. Q (π.mk a b)) m → All Q (map (π.mk a) m)
  all_row Q a [] h = tt
  all_row Q a (b ∷ m) h = (h.0, all_row Q a m h.1)

  all_same : (Q : B → Type 0) (m : List B) → ((b : B) → Q b) → All Q m
  all_same Q [] h = tt
  all_same Q (b ∷ m) h = (h b, all_same Q m h)

  pub all_rows : (Q : P → Type 0) (l : List A) (m : List B) → All (λ a. All (λ b. Q (π.mk a b)) m) l → All Q (rows l m)
  all_rows Q [] m h = tt
  all_rows Q (a ∷ l) m h = all_append Q (map (π.mk a) m) (rows l m) (all_row Q a m h.0) (all_rows Q l m h.1)

  up_row : (a : A) (m : List B) → Up O' m → Up pair_order (map (π.mk a) m)
  up_row a [] h = tt
  up_row a (b ∷ m) h = (
    all_row (λ w. either_lt (π.mk a b) w ≡ true) a m
        (all_map m
        (λ b' k. second_lt (π.mk a b) (π.mk a b') (π.left_mk a b ∙ sym (π.left_mk a b'))
        (ap₂ O'.lt (π.right_mk a b) (π.right_mk a b') ∙ k))
        h.0),
    up_row a m h.1,
  )

  up_append : (l m : List P) → Up pair_order l → Up pair_order m → All (λ v. All (λ w. either_lt v w ≡ true) m) l → Up pair_order (l ++ m)
  up_append [] m h k r = k
  up_append (v ∷ l) m h k r = (all_append (λ w. either_lt v w ≡ true) l m h.0 r.0, up_append l m h.1 k r.1)

  pub up_rows : (l : List A) (m : List B) → Up O l → Up O' m → Up pair_order (rows l m)
  up_rows [] m h k = tt
  up_rows (a ∷ l) m h k =
      up_append (map (π.mk a) m) (rows l m) (up_row a m k) (up_rows l m h.1 k)
      (all_row (λ v. All (λ w. either_lt v w ≡ true) (rows l m)) a m
      (all_same (λ b. All (λ w. either_lt (π.mk a b) w ≡ true) (rows l m)) m
      (λ b. all_rows (λ w. either_lt (π.mk a b) w ≡ true) l m
      (all_map l
      (λ a' t. all_same (λ b'. either_lt (π.mk a b) (π.mk a' b') ≡ true) m
      (λ b'. first_lt (π.mk a b) (π.mk a' b') (ap₂ O.lt (π.left_mk a b) (π.left_mk a' b') ∙ t)))
      h.0))))

  pub sum_rows : (f : P → Bool) (l : List A) (m : List B) → sum f (rows l m) ≡ sum (λ a. sum (λ b. f (π.mk a b)) m) l
  sum_rows f l m =
      sum_each f (λ a. map (π.mk a) m) l ∙
      sum_ext (λ a. sum f (map (π.mk a) m)) (λ a. sum (λ b. f (π.mk a b)) m) l (λ a. sum_map f (π.mk a) m)

-- a sum of products is the product of the sums
pub sum_product : {A B : Type 0} (f : A → Bool) (g : B → Bool) (l : List A) (m : List B) → sum (λ a. sum (λ b. f a && g b) m) l ≡ (sum f l && sum g m)
sum_product f g l m =
    sum_ext (λ a. sum (λ b. f a && g b) m) (λ a. sum g m && f a) l (λ a. sum_and (f a) g m ∙ and_comm (f a) (sum g m)) ∙
    sum_and (sum g m) f l ∙
    and_comm (sum g m) (sum f l)

module _ {A C A' C' P Q : Type 0} (X : Space A C) (Y : Space A' C') (π : Pairing A A' P) (κ : Pairing C C' Q) where
  abbrev pub pair_diff : (Q → Bool) → P → Bool
  pair_diff S v = X.diff (λ a. Y.diff (λ b. S (κ.mk a b)) (π.right v)) (π.left v)

  abbrev pub pair_fits : Q → P → Bool
  pair_fits c v = X.fits (κ.left c) (π.left v) && Y.fits (κ.right c) (π.right v)

  pub pair_diff_⊕ : (f g : Q → Bool) (v : P) → pair_diff (λ c. f c ⊕ g c) v ≡ (pair_diff f v ⊕ pair_diff g v)
  pair_diff_⊕ f g v =
      diff_ext X _ _ (π.left v) (λ a. Y.diff_⊕ (λ b. f (κ.mk a b)) (λ b. g (κ.mk a b)) (π.right v)) ∙
      X.diff_⊕ (λ a. Y.diff (λ b. f (κ.mk a b)) (π.right v)) (λ a. Y.diff (λ b. g (κ.mk a b)) (π.right v)) (π.left v)

  pub pair_diff_false : (v : P) → pair_diff (λ c. false) v ≡ false
  pair_diff_false v = diff_ext X _ _ (π.left v) (λ a. Y.diff_false (π.right v)) ∙ X.diff_false (π.left v)

  pub pair_diff_fits : (w v : P) → pair_diff (λ c. pair_fits c w) v ≡ both_eq X.order Y.order π v w
  pair_diff_fits w v =
      diff_ext X _ (λ a. X.fits a (π.left w) && Y.order.eq (π.right v) (π.right w)) (π.left v)
      (λ a.
      diff_ext Y _ (λ b. X.fits a (π.left w) && Y.fits b (π.right w)) (π.right v)
      (λ b. ap₂ (λ s t. X.fits s (π.left w) && Y.fits t (π.right w)) (κ.left_mk a b) (κ.right_mk a b)) ∙
      diff_and Y (X.fits a (π.left w)) (λ b. Y.fits b (π.right w)) (π.right v) ∙
      ap (X.fits a (π.left w) &&◌) (Y.diff_fits (π.right w) (π.right v))) ∙
      diff_and_right X (λ a. X.fits a (π.left w)) (Y.order.eq (π.right v) (π.right w)) (π.left v) ∙
      ap (◌&& Y.order.eq (π.right v) (π.right w)) (X.diff_fits (π.left w) (π.left v))

  abbrev pub pair_inside : Q → Bool
  pair_inside c = X.inside (κ.left c) && Y.inside (κ.right c)

  module _ (S : Q → Bool) (h : (c : Q) → S c ≡ true → pair_inside c ≡ true) where
    inside_left : (a : C) (b : C') → S (κ.mk a b) ≡ true → X.inside a ≡ true
    inside_left a b e = ap X.inside (sym (κ.left_mk a b)) ∙ and_left (X.inside (κ.left (κ.mk a b))) _ (h (κ.mk a b) e)

    inside_right : (a : C) (b : C') → S (κ.mk a b) ≡ true → Y.inside b ≡ true
    inside_right a b e = ap Y.inside (sym (κ.right_mk a b)) ∙ and_right (X.inside (κ.left (κ.mk a b))) _ (h (κ.mk a b) e)

    -- along one row of vertices the parities add up to the parity along the first space at the cell's second part
    row : (c : C) (d : C') (a : A) → sum (λ b. pair_diff S (π.mk a b) && (X.fits c a && Y.fits d b)) Y.grid ≡ (X.diff (λ s. S (κ.mk s d)) a && X.fits c a)
    row c d a =
        sum_ext _ (λ b. X.fits c a && X.diff (λ s. Y.diff (λ t. S (κ.mk s t)) b && Y.fits d b) a) Y.grid
        (λ b.
        ap (◌&& (X.fits c a && Y.fits d b)) (ap₂ (λ x y. X.diff (λ s. Y.diff (λ t. S (κ.mk s t)) y) x) (π.left_mk a b) (π.right_mk a b)) ∙
        shuffle (X.diff (λ s. Y.diff (λ t. S (κ.mk s t)) b) a) (X.fits c a) (Y.fits d b) ∙
        ap (X.fits c a &&◌) (sym (diff_and_right X (λ s. Y.diff (λ t. S (κ.mk s t)) b) (Y.fits d b) a))) ∙
        sum_and (X.fits c a) (λ b. X.diff (λ s. Y.diff (λ t. S (κ.mk s t)) b && Y.fits d b) a) Y.grid ∙
        ap (X.fits c a &&◌)
        (sym (diff_sum X (λ s b. Y.diff (λ t. S (κ.mk s t)) b && Y.fits d b) Y.grid a) ∙
        diff_ext X _ (λ s. S (κ.mk s d)) a (λ s. Y.recover (λ t. S (κ.mk s t)) (λ t. inside_right s t) d)) ∙
        and_comm (X.fits c a) (X.diff (λ s. S (κ.mk s d)) a)
      where
        shuffle : (x y z : Bool) → (x && (y && z)) ≡ (y && (x && z))
        shuffle true y z = refl
        shuffle false true z = refl
        shuffle false false z = refl

    pub pair_recover : (c : Q) → sum (λ v. pair_diff S v && pair_fits c v) (rows X.order Y.order π X.grid Y.grid) ≡ S c
    pair_recover c =
        sum_rows X.order Y.order π (λ v. pair_diff S v && pair_fits c v) X.grid Y.grid ∙
        sum_ext _ (λ a. X.diff (λ s. S (κ.mk s (κ.right c))) a && X.fits (κ.left c) a) X.grid
        (λ a.
        sum_ext _ (λ b. pair_diff S (π.mk a b) && (X.fits (κ.left c) a && Y.fits (κ.right c) b)) Y.grid
        (λ b. ap₂ (λ x y. pair_diff S (π.mk a b) && (X.fits (κ.left c) x && Y.fits (κ.right c) y)) (π.left_mk a b) (π.right_mk a b)) ∙
        row (κ.left c) (κ.right c) a) ∙
        X.recover (λ s. S (κ.mk s (κ.right c))) (λ s. inside_left s (κ.right c)) (κ.left c) ∙
        ap S (κ.mk_eta c)

  pub once : (v : P) → (X.proper (π.left v) && Y.proper (π.right v)) ≡ true → occ (pair_order X.order Y.order π) v (rows X.order Y.order π X.grid Y.grid) ≡ true
  once v h =
      sum_rows X.order Y.order π (both_eq X.order Y.order π v) X.grid Y.grid ∙
      sum_ext _ (λ a. sum (λ b. X.order.eq (π.left v) a && Y.order.eq (π.right v) b) Y.grid) X.grid
      (λ a. sum_ext _ (λ b. X.order.eq (π.left v) a && Y.order.eq (π.right v) b) Y.grid
      (λ b. ap₂ (λ x y. X.order.eq (π.left v) x && Y.order.eq (π.right v) y) (π.left_mk a b) (π.right_mk a b))) ∙
      sum_product (X.order.eq (π.left v)) (Y.order.eq (π.right v)) X.grid Y.grid ∙
      ap₂ ◌&&◌ (X.grid_once (π.left v) (and_left (X.proper (π.left v)) _ h)) (Y.grid_once (π.right v) (and_right (X.proper (π.left v)) _ h))

  abbrev pub product : Space P Q
  product =
      record {
        order = pair_order X.order Y.order π;
        fits = pair_fits;
        diff = pair_diff;
        grid = rows X.order Y.order π X.grid Y.grid;
        inside = pair_inside;
        proper = λ v. X.proper (π.left v) && Y.proper (π.right v);
        diff_⊕ = pair_diff_⊕;
        diff_false = pair_diff_false;
        diff_fits = pair_diff_fits;
        recover = pair_recover;
        grid_up = up_rows X.order Y.order π X.grid Y.grid X.grid_up Y.grid_up;
        grid_once = once;
        grid_proper =
            all_rows X.order Y.order π (λ v. (X.proper (π.left v) && Y.proper (π.right v)) ≡ true) X.grid Y.grid
            (all_map X.grid
            (λ a p. all_map Y.grid
            (λ b q. ap₂ (λ x y. X.proper x && Y.proper y) (π.left_mk a b) (π.right_mk a b) ∙ and_both (X.proper a) (Y.proper b) p q)
            Y.grid_proper)
            X.grid_proper);
      }
