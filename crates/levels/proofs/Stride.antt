-- A stride: how a key falls apart into its plane and its place there, and what of that the sweep uses.
--   Stride        division by the stride, as facts on orders
--   Apart, apart_over        lists with the same sums have the same members, from one level to the next
--   Level         what the laws of a level ask; numbers, lines and planes are levels
-- Assumes nothing.
use mathlib.Core.Path.{◌≡◌, refl, sym, ◌∙◌, ap, ap₂}
use mathlib.Core.Bool.{Bool, true, false, not, ◌&&◌}
use mathlib.Core.List.{List, [], ◌∷◌, map}
use Prim.Native.Nat.{ℕ, zero, suc, ◌+◌, ◌-◌, ◌*◌, ◌/◌, ◌%◌, ◌≤◌, ◌<◌}
use native.Mathlib.Nat.{add-zero, div-add-mod', div-lt_iff_lt-mul, le-div_iff_mul-le, mod-lt, add-mod_right, le_of_suc-le-suc}
use native.Mathlib.Omega.{arith}
use lib.Arith.{digits_div, digits_mod}
use lib.Dec.{leb, eqb}
use borrow.Author.Tests.{leb-true, leb-false, eqb-true, eqb-false, le-leb, eq-eqb, ne_eqb}
use Rattle.meaning.specs.Counting.{All, keep}
use Rattle.meaning.proofs.Parity.{◌⊕◌, sum, sum_ext, sum_map, sum_keep, sum_⊕, ⊕_and}
use Rattle.levels.specs.Level.{over, OkOver, point_fits, number_fits, line_fits, PointOk, NumberOk, LineOk}

pub record Stride (s : ℕ) : Type 0 where
  pub positive : 0 < s
  -- a key of the plane that begins at a base
  pub plane : (base k : ℕ) → base % s ≡ 0 → base ≤ k → k < base + s → k / s ≡ base / s
  pub place : (base k : ℕ) → base % s ≡ 0 → base ≤ k → k < base + s → k % s ≡ k - base
  -- below the end of a plane, and at or above it
  pub within : (base k : ℕ) → base % s ≡ 0 → k < base + s → k / s ≤ base / s
  pub beyond : (base k : ℕ) → base % s ≡ 0 → base + s ≤ k → base / s < k / s
  pub rest : (k : ℕ) → k % s < s
  pub next : (base : ℕ) → base % s ≡ 0 → (base + s) % s ≡ 0
  -- plane and place determine the key
  pub whole : (k m : ℕ) → m / s ≡ k / s → k % s ≡ m % s → k ≡ m

module _ (s : ℕ) (pos : 0 < s) where
  based : (base : ℕ) → base % s ≡ 0 → base / s * s ≡ base
  based base e = sym (add-zero (base / s * s)) ∙ ap (base / s * s +◌) (sym e) ∙ div-add-mod' base s

  -- a key of the plane that begins at a base, as plane and place
  apart_at : (base k : ℕ) → base % s ≡ 0 → base ≤ k → base / s * s + (k - base) ≡ k
  apart_at base k e h = let b = based base e in omega arith

  pub stride_of : Stride s
  stride_of =
      record {
        positive = pos;
        plane = λ base k e h l. ap (◌/ s) (sym (apart_at base k e h)) ∙ digits_div (base / s) (omega arith);
        place = λ base k e h l. ap (◌% s) (sym (apart_at base k e h)) ∙ digits_mod (base / s) (omega arith);
        within = λ base k e l.
            let b = based base e in
            let t : k < suc (base / s) * s = omega arith in
            le_of_suc-le-suc ((div-lt_iff_lt-mul {x = k} {y = suc (base / s)} pos).1 t);
        beyond = λ base k e l.
            let b = based base e in
            let t : suc (base / s) * s ≤ k = omega arith in
            (le-div_iff_mul-le {x = suc (base / s)} {y = k} pos).1 t;
        rest = λ k. mod-lt k pos;
        next = λ base e. add-mod_right base s ∙ e;
        whole = λ k m e f. sym (div-add-mod' k s) ∙ ap₂ (λ x y. x * s + y) (sym e) f ∙ div-add-mod' m s;
      }

-- ---- lists with the same sums have the same members

-- of lists whose members lie below n
abbrev pub Apart : {Q : Type 0} → ℕ → (Q → ℕ → Bool) → Type 0
Apart {Q} n G = (a b : List ℕ) → All (λ k. k < n) a → All (λ k. k < n) b → ((p : Q) → sum (G p) a ≡ sum (G p) b) → (k : ℕ) → sum (eqb k) a ≡ sum (eqb k) b

pub apart_point : Apart 1 point_fits
apart_point a b h k e zero = zeros a h ∙ e tt ∙ sym (zeros b k)
  where
    zeros : (l : List ℕ) → All (λ m. m < 1) l → sum (eqb zero) l ≡ sum (point_fits tt) l
    zeros [] u = refl
    zeros (m ∷ l) u = ap₂ ◌⊕◌ (eq-eqb zero m (omega (arith, u.0))) (zeros l u.1)
apart_point a b h k e (suc n) = none a h ∙ sym (none b k)
  where
    none : (l : List ℕ) → All (λ m. m < 1) l → sum (eqb (suc n)) l ≡ false
    none [] u = refl
    none (m ∷ l) u = ap₂ ◌⊕◌ (ne_eqb (suc n) m (λ q. omega (arith, u.0))) (none l u.1)

module _ {Q : Type 0} (G : Q → ℕ → Bool) (s : ℕ) (S : Stride s) (sep : Apart s G) where
  -- the places of a list's keys in plane x
  abbrev in_plane : ℕ → List ℕ → List ℕ
  in_plane x l = map (λ m. m % s) (keep (λ m. eqb (m / s) x) l)

  in_plane_lem : (g : ℕ → Bool) (x : ℕ) (l : List ℕ) → sum g (in_plane x l) ≡ sum (λ m. eqb (m / s) x && g (m % s)) l
  in_plane_lem g x l = sum_map g (λ m. m % s) (keep (λ m. eqb (m / s) x) l) ∙ sum_keep (λ m. g (m % s)) (λ m. eqb (m / s) x) l

  under : (l : List ℕ) → All (λ k. k < s) (map (λ m. m % s) l)
  under [] = tt
  under (m ∷ l) = (S.rest m, under l)

  step : (h x : ℕ) → eqb h (suc x) ≡ (leb h x ⊕ leb h (suc x))
  step h x = go (leb h x) refl
    where
      go : (t : Bool) → leb h x ≡ t → eqb h (suc x) ≡ (t ⊕ leb h (suc x))
      go true e = ne_eqb h (suc x) (λ q. omega (arith, leb-true h x e)) ∙ sym (ap not (le-leb h (suc x) (omega (arith, leb-true h x e))))
      go false e = past (leb h (suc x)) refl
        where
          past : (t : Bool) → leb h (suc x) ≡ t → eqb h (suc x) ≡ t
          past true f = eq-eqb h (suc x) (omega (arith, leb-false h x e, leb-true h (suc x) f))
          past false f = ne_eqb h (suc x) (λ q. omega (arith, leb-false h (suc x) f))

  first_plane : (h : ℕ) → eqb h zero ≡ leb h zero
  first_plane h = go (leb h zero) refl
    where
      go : (t : Bool) → leb h zero ≡ t → eqb h zero ≡ t
      go true e = eq-eqb h zero (omega (arith, leb-true h zero e))
      go false e = ne_eqb h zero (λ q. omega (arith, leb-false h zero e))

  plane_sum : (x : ℕ) (q : Q) (l : List ℕ) → (m : ℕ) → x ≡ suc m → sum (G q) (in_plane x l) ≡ (sum (over s G (m, q)) l ⊕ sum (over s G (x, q)) l)
  plane_sum x q l m e =
      in_plane_lem (G q) x l ∙
      sum_ext (λ k. eqb (k / s) x && G q (k % s)) (λ k. over s G (m, q) k ⊕ over s G (x, q) k) l
      (λ k.
      ap (λ y. eqb (k / s) y && G q (k % s)) e ∙
      ap (◌&& G q (k % s)) (step (k / s) m) ∙
      ⊕_and (leb (k / s) m) (leb (k / s) (suc m)) (G q (k % s)) ∙
      ap (λ y. over s G (m, q) k ⊕ (leb (k / s) y && G q (k % s))) (sym e)) ∙
      sum_⊕ (over s G (m, q)) (over s G (x, q)) l

  plane_zero : (q : Q) (l : List ℕ) → sum (G q) (in_plane zero l) ≡ sum (over s G (zero, q)) l
  plane_zero q l =
      in_plane_lem (G q) zero l ∙
      sum_ext (λ k. eqb (k / s) zero && G q (k % s)) (over s G (zero, q)) l (λ k. ap (◌&& G q (k % s)) (first_plane (k / s)))

  same_plane : (a b : List ℕ) → ((p : ℕ × Q) → sum (over s G p) a ≡ sum (over s G p) b) → (x : ℕ) (q : Q) → sum (G q) (in_plane x a) ≡ sum (G q) (in_plane x b)
  same_plane a b e zero q = plane_zero q a ∙ e (zero, q) ∙ sym (plane_zero q b)
  same_plane a b e (suc x) q = plane_sum (suc x) q a x refl ∙ ap₂ ◌⊕◌ (e (x, q)) (e (suc x, q)) ∙ sym (plane_sum (suc x) q b x refl)

  same_key : (k m : ℕ) → eqb k m ≡ (eqb (m / s) (k / s) && eqb (k % s) (m % s))
  same_key k m = go (eqb k m) refl
    where
      both : (t : Bool) → eqb (m / s) (k / s) ≡ t → (u : Bool) → eqb (k % s) (m % s) ≡ u → eqb k m ≡ false → false ≡ (t && u)
      both true e true f n = absurd (eqb-false k m n (S.whole k m (eqb-true (m / s) (k / s) e) (eqb-true (k % s) (m % s) f)))
      both true e false f n = refl
      both false e u f n = refl

      go : (t : Bool) → eqb k m ≡ t → t ≡ (eqb (m / s) (k / s) && eqb (k % s) (m % s))
      go true e =
          let q = eqb-true k m e in
          sym (ap₂ ◌&&◌ (eq-eqb (m / s) (k / s) (ap (◌/ s) (sym q))) (eq-eqb (k % s) (m % s) (ap (◌% s) q)))
      go false e = both (eqb (m / s) (k / s)) refl (eqb (k % s) (m % s)) refl e

  pub apart_over : (a b : List ℕ) → ((p : ℕ × Q) → sum (over s G p) a ≡ sum (over s G p) b) → (k : ℕ) → sum (eqb k) a ≡ sum (eqb k) b
  apart_over a b e k = at a ∙ sep (in_plane (k / s) a) (in_plane (k / s) b) (under (keep (λ m. eqb (m / s) (k / s)) a))
      (under (keep (λ m. eqb (m / s) (k / s)) b)) (same_plane a b e (k / s)) (k % s) ∙ sym (at b)
    where
      at : (l : List ℕ) → sum (eqb k) l ≡ sum (eqb (k % s)) (in_plane (k / s) l)
      at l = sum_ext (eqb k) (λ m. eqb (m / s) (k / s) && eqb (k % s) (m % s)) l (same_key k) ∙ sym (in_plane_lem (eqb (k % s)) (k / s) l)

-- ---- the three levels

-- what lies below a level's stride, what fits the numbers of the code, and that sums tell lists apart
pub record Level {Q : Type 0} (G : Q → ℕ → Bool) (Ok : ℕ → Type 0) (s : ℕ) : Type 0 where
  pub stride : Stride s
  pub small : s ≤ 2099200
  pub fit : (k : ℕ) → Ok k → k < s
  pub bound : (k : ℕ) → OkOver s Ok k → k < 2151680000
  pub apart : (a b : List ℕ) → ((p : ℕ × Q) → sum (over s G p) a ≡ sum (over s G p) b) → (k : ℕ) → sum (eqb k) a ≡ sum (eqb k) b

pub numbers : Level point_fits PointOk 1
numbers =
    let S = stride_of 1 (omega arith) in
    record { stride = S; small = omega arith; fit = λ k h. h; bound = λ k h. omega (arith, h.0); apart = apart_over point_fits 1 S apart_point }

pub lines : Level number_fits NumberOk 2048
lines =
    let S = stride_of 2048 (omega arith) in
    record {
      stride = S;
      small = omega arith;
      fit = λ k h. omega (arith, h.0);
      bound = λ k h. omega (arith, h.0);
      apart = apart_over number_fits 2048 S (λ a b h k. numbers.apart a b);
    }

pub planes : Level line_fits LineOk 2099200
planes =
    let S = stride_of 2099200 (omega arith) in
    record {
      stride = S;
      small = omega arith;
      fit = λ k h. omega (arith, h.0);
      bound = λ k h. omega (arith, h.0);
      apart = apart_over line_fits 2099200 S (λ a b h k. lines.apart a b);
    }
