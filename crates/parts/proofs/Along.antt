-- Keys along an axis and the corners that they stand for, for any axis.
--   pair_pair_on, pair_on_ok               a key's pair key is that of its corner
--   raised_ok, raised_corner             a raised key is that of the raised corner
--   section_keys                         the pair keys at or below a cut permit the section
--   upper_keys, lower_keys               the raised keys permit the upper half; with the whole they permit the lower half
-- Assumes nothing.
use mathlib.Core.Path.{◌≡◌, refl, sym, ◌∙◌, ap, ap₂}
use mathlib.Core.Bool.{Bool, true, false, cond}
use mathlib.Core.List.{List, [], ◌∷◌, map}
use Prim.Native.Nat.{ℕ, ◌+◌, ◌-◌, ◌*◌, ◌≤◌, ◌<◌}
use native.Mathlib.Omega.{arith}
use borrow.Author.Tests.{leb-true, leb-false}
use lib.Dec.{leb}
use lib.Signed.{le_z}
use Rattle.meaning.specs.Numbers.{Axis, focus, first, second, corner, cell, square, pair, number_on, pair_of, number}
use Rattle.meaning.specs.declared.Cell.{Cell}
use Rattle.meaning.specs.declared.Corner.{Corner}
use Rattle.meaning.specs.Counting.{keep, All}
use Rattle.meaning.specs.Lists.{permitted}
use Rattle.meaning.specs.Operations.{section_at, lower_half, upper_half}
use Rattle.meaning.proofs.Parity.{◌⊕◌, sum}
use Rattle.meaning.proofs.Space.{all_keep, permits}
use Rattle.meaning.proofs.Solid.{plane}
use Rattle.meaning.proofs.Making.{larger, raise, section_below, upper_raise, lower_rest}
use Rattle.codes.specs.Keys.{key_of, of_key, plane_of, rest_of, line_of, last_of}
use Rattle.codes.proofs.Laws.{number_le}
use Rattle.keys.specs.Parts.{KeyOk, PairOk, pair_of_key, part_on, key_fits, pair_fits}
use Rattle.keys.proofs.Corners.{Corners, part_number, keys_ok, keys_back, permitted_keys, permitted_corners}
use Rattle.keys.proofs.Pairs.{permits_pairs}
use Rattle.parts.specs.Axes.{pair_on, raised_key, pairs_below}

-- ---- parts and pairs

line_of_lem : (x z : ℕ) → z < 2048 → line_of (x * 2048 + z) ≡ x
line_of_lem x z h = omega arith

last_of_lem : (x z : ℕ) → z < 2048 → last_of (x * 2048 + z) ≡ z
last_of_lem x z h = omega arith

module _ (k : ℕ) (h : KeyOk k) where
  pub pair_pair_on : (axis : Axis) → pair_of axis (of_key k) ≡ pair_of_key (pair_on axis k)
  pair_pair_on focus = refl
  pair_pair_on first =
      ap₂ (λ x z. pair (number x) (number z))
      (sym (line_of_lem (plane_of k) (last_of (rest_of k)) (omega arith)))
      (sym (last_of_lem (plane_of k) (last_of (rest_of k)) (omega arith)))
  pair_pair_on second =
      ap₂ (λ x z. pair (number x) (number z))
      (sym (line_of_lem (plane_of k) (line_of (rest_of k)) (omega (arith, h.1.0))))
      (sym (last_of_lem (plane_of k) (line_of (rest_of k)) (omega (arith, h.1.0))))

  pub pair_on_ok : (axis : Axis) → PairOk (pair_on axis k)
  pair_on_ok focus = h.1
  pair_on_ok first = (omega (arith, h.0), omega (arith, h.1.1))
  pair_on_ok second = (omega (arith, h.0, h.1.0), omega (arith, h.1.0))

-- ---- a key raised

-- a number raised to at least p, by steps
larger_number : (a p : ℕ) → number (a + (p - a)) ≡ larger (number a) (number p)
larger_number a p = go (leb a p) refl
  where
    go : (t : Bool) → leb a p ≡ t → number (a + (p - a)) ≡ larger (number a) (number p)
    go true e = let is : a + (p - a) ≡ p = omega (arith, leb-true a p e) in ap number is ∙ sym (ap (λ b. cond b (number p) (number a)) (number_le a p ∙ e))
    go false e = let is : a + (p - a) ≡ a = omega (arith, leb-false a p e) in ap number is ∙ sym (ap (λ b. cond b (number p) (number a)) (number_le a p ∙ e))

module _ (p k : ℕ) (hp : p ≤ 1024) (h : KeyOk k) where
  -- the parts of a raised key: the plane, and the place in it
  abbrev Parts : ℕ → ℕ → ℕ → Type 0
  Parts r plane rest = (plane_of r ≡ plane) × (rest_of r ≡ rest)

  parts_focus : Parts (raised_key focus p k) (plane_of k + (p - plane_of k)) (rest_of k)
  parts_focus = (omega (arith, h.0), omega (arith, h.0))

  parts_first : Parts (raised_key first p k) (plane_of k) ((line_of (rest_of k) + (p - line_of (rest_of k))) * 2048 + last_of (rest_of k))
  parts_first = (omega (arith, h.1.0), omega (arith, h.1.0))

  parts_second : Parts (raised_key second p k) (plane_of k) (line_of (rest_of k) * 2048 + (last_of (rest_of k) + (p - last_of (rest_of k))))
  parts_second = (omega (arith, h.1.1), omega (arith, h.1.1))

  pub raised_corner : (axis : Axis) → of_key (raised_key axis p k) ≡ raise axis (number p) (of_key k)
  raised_corner focus =
      let (x, r) = parts_focus in
      λ i. corner ((ap number x ∙ larger_number (plane_of k) p) i) (number (line_of (r i))) (number (last_of (r i)))
  raised_corner first =
      let (x, r) = parts_first in
      let n = line_of (rest_of k) + (p - line_of (rest_of k)) in
      let y = ap line_of r ∙ line_of_lem n (last_of (rest_of k)) (omega arith) in
      let z = ap last_of r ∙ last_of_lem n (last_of (rest_of k)) (omega arith) in
      λ i. corner (number (x i)) ((ap number y ∙ larger_number (line_of (rest_of k)) p) i) (number (z i))
  raised_corner second =
      let (x, r) = parts_second in
      let n = last_of (rest_of k) + (p - last_of (rest_of k)) in
      let y = ap line_of r ∙ line_of_lem (line_of (rest_of k)) n (omega arith) in
      let z = ap last_of r ∙ last_of_lem (line_of (rest_of k)) n (omega arith) in
      λ i. corner (number (x i)) (number (y i)) ((ap number z ∙ larger_number (last_of (rest_of k)) p) i)

  pub raised_ok : (axis : Axis) → KeyOk (raised_key axis p k)
  raised_ok focus = let (x, r) = parts_focus in (omega (arith, h.0), (omega (arith, h.1.0), omega (arith, h.1.1)))
  raised_ok first =
      let (x, r) = parts_first in
      (omega (arith, h.0), (omega (arith, h.1.0), omega (arith, h.1.1)))
  raised_ok second =
      let (x, r) = parts_second in
      (omega (arith, h.0), (omega (arith, h.1.0), omega (arith, h.1.1)))

-- ---- sections

module _ (axis : Axis) (cut : ℕ) where
  at_or_below_lem : (k : ℕ) → le_z (number_on axis (of_key k)) (number cut) ≡ leb (part_on axis k) cut
  at_or_below_lem k = ap (λ z. le_z z (number cut)) (part_number axis k) ∙ number_le (part_on axis k) cut

  abbrev at_cut : Corner → Bool
  at_cut v = le_z (number_on axis v) (number cut)

  pairs_same : (ks : List ℕ) → All KeyOk ks → map (pair_of axis) (keep at_cut (map of_key ks)) ≡ map pair_of_key (pairs_below axis cut ks)
  pairs_same [] h = refl
  pairs_same (k ∷ ks) h =
      ap (λ b. map (pair_of axis) (cond b (of_key k ∷ keep at_cut (map of_key ks)) (keep at_cut (map of_key ks)))) (at_or_below_lem k) ∙
      go (leb (part_on axis k) cut) (pairs_same ks h.1)
    where
      go : (b : Bool) → map (pair_of axis) (keep at_cut (map of_key ks)) ≡ map pair_of_key (pairs_below axis cut ks)
          → map (pair_of axis) (cond b (of_key k ∷ keep at_cut (map of_key ks)) (keep at_cut (map of_key ks)))
          ≡ map pair_of_key (map (pair_on axis) (cond b (k ∷ keep (λ j. leb (part_on axis j) cut) ks) (keep (λ j. leb (part_on axis j) cut) ks)))
      go true e = ap₂ ◌∷◌ (pair_pair_on k h.0 axis) e
      go false e = e

  pub pairs_below_ok : (ks : List ℕ) → All KeyOk ks → All PairOk (pairs_below axis cut ks)
  pairs_below_ok ks h = pairs_ok (keep (λ j. leb (part_on axis j) cut) ks) (all_keep KeyOk (λ j. leb (part_on axis j) cut) ks h)
    where
      pairs_ok : (js : List ℕ) → All KeyOk js → All PairOk (map (pair_on axis) js)
      pairs_ok [] h = tt
      pairs_ok (j ∷ js) h = (pair_on_ok j h.0 axis, pairs_ok js h.1)

  pub section_keys : (l : List Corner) → Corners l → (b d : ℕ)
      → sum (pair_fits b d) (pairs_below axis cut (map key_of l)) ≡ section_at axis (number cut) (permitted l) (square (number b) (number d))
  section_keys l h b d =
      let ks = map key_of l in
      let s = square (number b) (number d) in
      sym (permits_pairs b d (pairs_below axis cut ks)) ∙
      ap (λ m. permits plane m s) (sym (pairs_same ks (keys_ok l h))) ∙
      sym (section_below axis (number cut) (map of_key ks) s) ∙
      ap (λ m. section_at axis (number cut) (permitted m) s) (keys_back l h)

-- ---- splits

module _ (axis : Axis) (p : ℕ) (hp : p ≤ 1024) where
  raised_corners : (ks : List ℕ) → All KeyOk ks → map of_key (map (raised_key axis p) ks) ≡ map (raise axis (number p)) (map of_key ks)
  raised_corners [] h = refl
  raised_corners (k ∷ ks) h = ap₂ ◌∷◌ (raised_corner p k hp h.0 axis) (raised_corners ks h.1)

  pub all_raised : (ks : List ℕ) → All KeyOk ks → All KeyOk (map (raised_key axis p) ks)
  all_raised [] h = tt
  all_raised (k ∷ ks) h = (raised_ok p k hp h.0 axis, all_raised ks h.1)

  module _ (l : List Corner) (h : Corners l) (a b d : ℕ) where
    abbrev keys : List ℕ
    keys = map key_of l

    abbrev at_steps : Cell
    at_steps = cell (number a) (number b) (number d)

    pub upper_keys : sum (key_fits a b d) (map (raised_key axis p) keys) ≡ upper_half axis (number p) (permitted l) at_steps
    upper_keys =
        sym (permitted_keys a b d (map (raised_key axis p) keys)) ∙
        ap (λ m. permitted m at_steps) (raised_corners keys (keys_ok l h) ∙ ap (map (raise axis (number p))) (keys_back l h)) ∙
        upper_raise axis (number p) l at_steps

    pub lower_keys : (sum (key_fits a b d) keys ⊕ sum (key_fits a b d) (map (raised_key axis p) keys)) ≡ lower_half axis (number p) (permitted l) at_steps
    lower_keys = ap₂ ◌⊕◌ (sym (permitted_corners a b d l h)) upper_keys ∙ sym (lower_rest axis (number p) (permitted l) at_steps)
