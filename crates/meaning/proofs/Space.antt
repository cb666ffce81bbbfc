-- A space: vertices and cells of any dimension, with what the theory of lists needs of them. A vertex stands for the cells at or above it;
-- a list permits the cells that lie above an odd number of its vertices; `diff` is the parity of the cells round a vertex.
--   Order, Up              a strict order that is decided by tests; lists that rise strictly
--   Space                  order, fits (at or above), diff, the grid of all vertices, the cells inside, and their laws
--   permits, occ, one_of    what a list permits; the parity of a vertex's occurrences; the one list of a set
--   listed_iff             lemma 3.8 both ways, of a rising list
--   unique                 two rising lists that permit the same are equal
--   one_permits, one_up    the one list permits its set, and rises
--   vanish                 every vertex occurs evenly exactly when nothing is permitted
-- Assumes nothing.
use mathlib.Core.Path.{◌≡◌, refl, sym, ◌∙◌, ap, ap₂, subst, fun_ext}
use mathlib.Core.Logic.{◌↔◌}
use mathlib.Core.Bool.{Bool, true, false, ◌&&◌, cond, true≢false, false≢true, and_comm}
use mathlib.Core.List.{List, [], ◌∷◌, ◌++◌, Memᴰ}
use Rattle.meaning.specs.Counting.{keep, All}
use Rattle.meaning.proofs.Parity.{◌⊕◌, ⊕_cancel, sum, sum_all, sum_ext, sum_false, sum_keep, sum_swap, ⊕_and}
use Rattle.meaning.proofs.Integers.{not_yes}

pub record Order (Pt : Type 0) : Type 0 where
  pub eq : Pt → Pt → Bool
  pub lt : Pt → Pt → Bool
  pub eq_refl : (v : Pt) → eq v v ≡ true
  pub eq_sound : (v w : Pt) → eq v w ≡ true → v ≡ w
  pub lt_trans : (u v w : Pt) → lt u v ≡ true → lt v w ≡ true → lt u w ≡ true
  pub lt_apart : (v w : Pt) → lt v w ≡ true → eq v w ≡ false
  pub lt_total : (v w : Pt) → lt v w ≡ false → lt w v ≡ false → v ≡ w

module _ {A : Type 0} where
  pub all_map : {Q R : A → Type 0} (l : List A) → ((x : A) → Q x → R x) → All Q l → All R l
  all_map [] f h = tt
  all_map (x ∷ l) f h = (f x h.0, all_map l f h.1)

  pub all_keep : (Q : A → Type 0) (p : A → Bool) (l : List A) → All Q l → All Q (keep p l)
  all_keep Q p [] h = tt
  all_keep Q p (x ∷ l) h = go (p x) (all_keep Q p l h.1)
    where
      go : (b : Bool) → All Q (keep p l) → All Q (cond b (x ∷ keep p l) (keep p l))
      go true r = (h.0, r)
      go false r = r

  pub all_append : (Q : A → Type 0) (l m : List A) → All Q l → All Q m → All Q (l ++ m)
  all_append Q [] m h k = k
  all_append Q (x ∷ l) m h k = (h.0, all_append Q l m h.1 k)

module _ {Pt : Type 0} (O : Order Pt) where
  abbrev pub Up : List Pt → Type 0
  Up [] = Unit {0}
  Up (v ∷ l) = All (λ w. O.lt v w ≡ true) l × Up l

  -- whether a vertex occurs an odd number of times
  abbrev pub occ : Pt → List Pt → Bool
  occ v l = sum (O.eq v) l

  pub not_itself : (v w : Pt) → O.lt v w ≡ true → v ≡ w → ⊥
  not_itself v w h e = true≢false (sym (O.eq_refl w) ∙ O.lt_apart w w (subst (λ (x : Pt). O.lt x w ≡ true) e h))

  pub apart : (v w : Pt) → O.lt w v ≡ true → O.eq v w ≡ false
  apart v w h = not_yes (O.eq v w) (λ e. not_itself w v h (sym (O.eq_sound v w e)))

  -- a vertex below all of a list does not occur in it
  pub occ_below : (v : Pt) (l : List Pt) → All (λ w. O.lt v w ≡ true) l → occ v l ≡ false
  occ_below v [] h = refl
  occ_below v (w ∷ l) h = ap₂ ◌⊕◌ (O.lt_apart v w h.0) (occ_below v l h.1)

  occ_head : (v : Pt) (l : List Pt) → All (λ w. O.lt v w ≡ true) l → occ v (v ∷ l) ≡ true
  occ_head v l h = ap₂ ◌⊕◌ (O.eq_refl v) (occ_below v l h)

  lt_all : (v w : Pt) (l : List Pt) → O.lt v w ≡ true → All (λ u. O.lt w u ≡ true) l → All (λ u. O.lt v u ≡ true) l
  lt_all v w l h = all_map l (λ u k. O.lt_trans v w u h k)

  -- the lower of two heads occurs in one list and not in the other
  clash : (v w : Pt) (l m : List Pt) → All (λ u. O.lt v u ≡ true) l → All (λ u. O.lt w u ≡ true) m → O.lt v w ≡ true → occ v (v ∷ l) ≡ occ v (w ∷ m) → ⊥
  clash v w l m h k t e =
      true≢false (sym (occ_head v l h) ∙ e ∙ ap₂ ◌⊕◌ (O.lt_apart v w t) (occ_below v m (lt_all v w m t k)))

  -- two rising lists in which every vertex occurs alike are equal
  pub unique_occ : (l m : List Pt) → Up l → Up m → ((v : Pt) → occ v l ≡ occ v m) → l ≡ m
  unique_occ [] [] h k e = refl
  unique_occ [] (w ∷ m) h k e = absurd (false≢true (e w ∙ occ_head w m k.0))
  unique_occ (v ∷ l) [] h k e = absurd (true≢false (sym (occ_head v l h.0) ∙ e v))
  unique_occ (v ∷ l) (w ∷ m) h k e = go (O.lt v w) (O.lt w v) refl refl (λ q. unique_occ l m h.1 k.1 q)
    where
      tails : v ≡ w → (u : Pt) → occ u l ≡ occ u m
      tails p u = ⊕_cancel (O.eq u v) (occ u l) (occ u m) (e u ∙ ap (λ x. O.eq u x ⊕ occ u m) (sym p))

      go : (s t : Bool) → O.lt v w ≡ s → O.lt w v ≡ t → (((u : Pt) → occ u l ≡ occ u m) → l ≡ m) → v ∷ l ≡ w ∷ m
      go true t a b r = absurd (clash v w l m h.0 k.0 a (e v))
      go false true a b r = absurd (clash w v m l k.0 h.0 b (sym (e w)))
      go false false a b r = let p = O.lt_total v w a b in ap₂ ◌∷◌ p (r (tails p))

  pub up_keep : (p : Pt → Bool) (l : List Pt) → Up l → Up (keep p l)
  up_keep p [] h = tt
  up_keep p (v ∷ l) h = go (p v) (up_keep p l h.1)
    where
      go : (b : Bool) → Up (keep p l) → Up (cond b (v ∷ keep p l) (keep p l))
      go true r = (all_keep (λ w. O.lt v w ≡ true) p l h.0, r)
      go false r = r

  -- what occurs oddly is a member, and in a rising list every member occurs oddly
  pub occ_member : (v : Pt) (l : List Pt) → occ v l ≡ true → Memᴰ v l
  occ_member v [] e = absurd (false≢true e)
  occ_member v (w ∷ l) e = go (O.eq v w) refl e (occ_member v l)
    where
      go : (b : Bool) → O.eq v w ≡ b → (b ⊕ occ v l) ≡ true → (occ v l ≡ true → Memᴰ v l) → Memᴰ v (w ∷ l)
      go true h k r = Memᴰ.head (O.eq_sound v w h)
      go false h k r = Memᴰ.tail (r k)

  member_all : (Q : Pt → Type 0) (v : Pt) (l : List Pt) → Memᴰ v l → All Q l → Q v
  member_all Q v [] m h = elim m [ ]
  member_all Q v (w ∷ l) (Memᴰ.head e) h = subst Q (sym e) h.0
  member_all Q v (w ∷ l) (Memᴰ.tail m) h = member_all Q v l m h.1

  pub member_occ : (v : Pt) (l : List Pt) → Up l → Memᴰ v l → occ v l ≡ true
  member_occ v [] h m = elim m [ ]
  member_occ v (w ∷ l) h (Memᴰ.head e) = ap (λ x. occ x (w ∷ l)) e ∙ occ_head w l h.0
  member_occ v (w ∷ l) h (Memᴰ.tail m) = ap₂ ◌⊕◌ (apart v w (member_all (λ u. O.lt w u ≡ true) v l m h.0)) (member_occ v l h.1 m)

pub record Space (Pt C : Type 0) : Type 0 where
  pub order : Order Pt
  pub fits : C → Pt → Bool
  pub diff : (C → Bool) → Pt → Bool
  pub grid : List Pt
  pub inside : C → Bool
  pub proper : Pt → Bool
  pub diff_⊕ : (f g : C → Bool) (v : Pt) → diff (λ c. f c ⊕ g c) v ≡ (diff f v ⊕ diff g v)
  pub diff_false : (v : Pt) → diff (λ c. false) v ≡ false
  pub diff_fits : (w v : Pt) → diff (λ c. fits c w) v ≡ order.eq v w
  pub recover : (S : C → Bool) → ((c : C) → S c ≡ true → inside c ≡ true) → (c : C) → sum (λ v. diff S v && fits c v) grid ≡ S c
  pub grid_up : Up order grid
  pub grid_once : (v : Pt) → proper v ≡ true → occ order v grid ≡ true
  pub grid_proper : All (λ v. proper v ≡ true) grid

module _ {Pt C : Type 0} (X : Space Pt C) where
  abbrev pub permits : List Pt → C → Bool
  permits l c = sum (X.fits c) l

  abbrev pub Within : (C → Bool) → Type 0
  Within S = (c : C) → S c ≡ true → X.inside c ≡ true

  abbrev pub one_of : (C → Bool) → List Pt
  one_of S = keep (X.diff S) X.grid

  pub diff_ext : (f g : C → Bool) (v : Pt) → ((c : C) → f c ≡ g c) → X.diff f v ≡ X.diff g v
  diff_ext f g v h = ap (λ s. X.diff s v) (fun_ext h)

  pub diff_and : (b : Bool) (f : C → Bool) (v : Pt) → X.diff (λ c. b && f c) v ≡ (b && X.diff f v)
  diff_and true f v = refl
  diff_and false f v = X.diff_false v

  pub diff_and_right : (f : C → Bool) (b : Bool) (v : Pt) → X.diff (λ c. f c && b) v ≡ (X.diff f v && b)
  diff_and_right f b v = diff_ext (λ c. f c && b) (λ c. b && f c) v (λ c. and_comm (f c) b) ∙ diff_and b f v ∙ and_comm b (X.diff f v)

  pub diff_sum : {A : Type 0} (g : C → A → Bool) (l : List A) (v : Pt) → X.diff (λ c. sum (g c) l) v ≡ sum (λ w. X.diff (λ c. g c w) v) l
  diff_sum g [] v = X.diff_false v
  diff_sum g (w ∷ l) v = X.diff_⊕ (λ c. g c w) (λ c. sum (g c) l) v ∙ ap (X.diff (λ c. g c w) v ⊕◌) (diff_sum g l v)

  -- lemma 3.8: the parity of the cells round a vertex is the parity of its occurrences
  pub diff_permits : (l : List Pt) (v : Pt) → X.diff (permits l) v ≡ occ X.order v l
  diff_permits l v = diff_sum X.fits l v ∙ sum_ext (λ w. X.diff (λ c. X.fits c w) v) (X.order.eq v) l (λ w. X.diff_fits w v)

  pub listed_iff : (l : List Pt) → Up X.order l → (v : Pt) → (X.diff (permits l) v ≡ true) ↔ Memᴰ v l
  listed_iff l h v = (λ e. occ_member X.order v l (sym (diff_permits l v) ∙ e), λ m. diff_permits l v ∙ member_occ X.order v l h m)

  pub same_occ : (l m : List Pt) → ((c : C) → permits l c ≡ permits m c) → (v : Pt) → occ X.order v l ≡ occ X.order v m
  same_occ l m e v = sym (diff_permits l v) ∙ diff_ext (permits l) (permits m) v e ∙ diff_permits m v

  pub unique : (l m : List Pt) → Up X.order l → Up X.order m → ((c : C) → permits l c ≡ permits m c) → l ≡ m
  unique l m h k e = unique_occ X.order l m h k (same_occ l m e)

  pub one_up : (S : C → Bool) → Up X.order (one_of S)
  one_up S = up_keep X.order (X.diff S) X.grid X.grid_up

  pub one_proper : (S : C → Bool) → All (λ v. X.proper v ≡ true) (one_of S)
  one_proper S = all_keep (λ v. X.proper v ≡ true) (X.diff S) X.grid X.grid_proper

  pub one_permits : (S : C → Bool) → Within S → (c : C) → permits (one_of S) c ≡ S c
  one_permits S h c = sum_keep (X.fits c) (X.diff S) X.grid ∙ X.recover S h c

  -- a rising list that permits a set within is the one list of the set
  pub is_one : (S : C → Bool) → Within S → (l : List Pt) → Up X.order l → ((c : C) → permits l c ≡ S c) → l ≡ one_of S
  is_one S h l u e = unique l (one_of S) u (one_up S) (λ c. e c ∙ sym (one_permits S h c))

  -- a sum over a list is the sum over the grid of what occurs oddly in the list
  pub sum_grid : (f : Pt → Bool) (l : List Pt) → All (λ v. X.proper v ≡ true) l → sum f l ≡ sum (λ v. occ X.order v l && f v) X.grid
  sum_grid f l h =
      sum_all f (λ w. sum (λ v. X.order.eq v w && f v) X.grid) l (all_map l at_one h) ∙
      sum_swap (λ w v. X.order.eq v w && f v) l X.grid ∙
      sum_ext (λ v. sum (λ w. X.order.eq v w && f v) l) (λ v. occ X.order v l && f v) X.grid (λ v. pulled v l)
    where
      pulled : (v : Pt) (m : List Pt) → sum (λ w. X.order.eq v w && f v) m ≡ (occ X.order v m && f v)
      pulled v [] = refl
      pulled v (w ∷ m) = ap ((X.order.eq v w && f v) ⊕◌) (pulled v m) ∙ sym (⊕_and (X.order.eq v w) (occ X.order v m) (f v))

      meet : (w v : Pt) → (X.order.eq v w && f v) ≡ (X.order.eq w v && f w)
      meet w v = go (X.order.eq v w) (X.order.eq w v) refl refl
        where
          go : (s t : Bool) → X.order.eq v w ≡ s → X.order.eq w v ≡ t → (s && f v) ≡ (t && f w)
          go true true a b = ap f (X.order.eq_sound v w a)
          go true false a b = absurd (true≢false (sym (X.order.eq_refl w) ∙ ap (X.order.eq w) (sym (X.order.eq_sound v w a)) ∙ b))
          go false true a b = absurd (true≢false (sym (X.order.eq_refl v) ∙ ap (X.order.eq v) (sym (X.order.eq_sound w v b)) ∙ a))
          go false false a b = refl

      at_one : (w : Pt) → X.proper w ≡ true → f w ≡ sum (λ v. X.order.eq v w && f v) X.grid
      at_one w p =
          sym
          (sum_ext (λ v. X.order.eq v w && f v) (λ v. X.order.eq w v && f w) X.grid (meet w) ∙
          pulled w X.grid ∙
          ap (◌&& f w) (X.grid_once w p))

  -- every vertex occurs evenly exactly when nothing is permitted
  pub vanish : (l : List Pt) → All (λ v. X.proper v ≡ true) l → ((v : Pt) → occ X.order v l ≡ false) ↔ ((c : C) → permits l c ≡ false)
  vanish l h = (
    λ e c.
        sum_grid (X.fits c) l h ∙
        sum_ext (λ v. occ X.order v l && X.fits c v) (λ v. false) X.grid (λ v. ap (◌&& X.fits c v) (e v)) ∙
        sum_false X.grid,
    λ e v. sym (diff_permits l v) ∙ diff_ext (permits l) (λ c. false) v e ∙ X.diff_false v,
  )
