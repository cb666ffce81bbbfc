-- Rising lists of keys and the corners that they stand for.
--   part_number, part_ok                 a key's part on an axis is that of its corner, and at most 1024 where the key is in range
--   keys_ok, keys_back, keys_rise        of a list of corners: its keys are in range and give the corners back; they rise where it rises
--   corners_of, rising_of                of keys in range: their corners are corners; they rise where the keys rise
--   permitted_keys, permitted_corners    what the corners of some keys permit, and what corners permit by their keys: a sum over the keys
--   within_by_steps                      a set within the codes is told by the cells that are given by steps
--   one_keys_lem                             rising keys that permit a set within the codes are those of its one list
-- Assumes nothing.
use mathlib.Core.Path.{◌≡◌, refl, sym, ◌∙◌, ap, ap₂, subst}
use mathlib.Core.Bool.{Bool, true, false, ◌&&◌, true≢false}
use mathlib.Core.List.{List, [], ◌∷◌, map}
use Prim.Native.Nat.{ℕ, suc, ◌≤◌}
use native.Mathlib.Omega.{arith}
use borrow.Author.Tests.{ltb-true, lt-ltb}
use lib.Dec.{ltb}
use lib.Signed.{le_z}
use Rattle.meaning.specs.Numbers.{Axis, focus, first, second, cell, code_on, number_on, square_of, pair_of}
use Rattle.meaning.specs.declared.Cell.{Cell}
use Rattle.meaning.specs.declared.Corner.{Corner}
use Rattle.meaning.specs.Numbers.{is_code, is_cell, is_corner, lowest, number, steps}
use Rattle.meaning.specs.Counting.{All}
use Rattle.meaning.specs.Lists.{at_or_below, permitted, Rising}
use Rattle.meaning.specs.OneList.{one_list, WithinCodes}
use Rattle.meaning.proofs.Parity.{sum, sum_map, sum_ext, sum_false}
use Rattle.meaning.proofs.Integers.{number_steps, under_lowest, not_yes, and_left, and_right}
use Rattle.meaning.proofs.Solid.{plane, permitted_sum, along}
use Rattle.meaning.proofs.Maps.{is_one_list}
use Rattle.codes.specs.Keys.{key_of, of_key, plane_of, rest_of, line_of, last_of}
use Rattle.codes.proofs.Laws.{number_le}
use Rattle.codes.proofs.Keys.{within, key_plane, key_line, key_last, of_key_key_of, key_of_of_key, corner_of_key, below_key}
use Rattle.rising.specs.Merged.{From}
use Rattle.keys.specs.Parts.{KeyOk, part_on, key_fits}

abbrev pub Corners : List Corner → Type 0
Corners l = All (λ v. is_corner v ≡ true) l

-- ---- parts on an axis

pub part_number : (axis : Axis) (k : ℕ) → number_on axis (of_key k) ≡ number (part_on axis k)
part_number focus k = refl
part_number first k = refl
part_number second k = refl

pub part_ok : (axis : Axis) (k : ℕ) → KeyOk k → part_on axis k ≤ 1024
part_ok focus k h = h.0
part_ok first k h = h.1.0
part_ok second k h = h.1.1

-- ---- from corners to keys

pub key_ok : (v : Corner) → is_corner v ≡ true → KeyOk (key_of v)
key_ok v e =
    let w = within v e in
    (omega (arith, key_plane v e), (omega (arith, key_line v e), omega (arith, key_last v e)))

pub keys_ok : (l : List Corner) → Corners l → All KeyOk (map key_of l)
keys_ok [] h = tt
keys_ok (v ∷ l) h = (key_ok v h.0, keys_ok l h.1)

pub keys_back : (l : List Corner) → Corners l → map of_key (map key_of l) ≡ l
keys_back [] h = refl
keys_back (v ∷ l) h = ap₂ ◌∷◌ (of_key_key_of v h.0) (keys_back l h.1)

keys_from : (m : ℕ) (v : Corner) (l : List Corner) → m ≤ key_of v → Corners (v ∷ l) → Rising (v ∷ l) → From m (map key_of (v ∷ l))
keys_from m v [] k h r = (k, tt)
keys_from m v (w ∷ l) k h r =
    (k, keys_from (suc (key_of v)) w l (ltb-true (key_of v) (key_of w) (sym (below_key v w h.0 h.1.0) ∙ r.0)) h.1 r.1)

pub keys_rise : (l : List Corner) → Corners l → Rising l → From 0 (map key_of l)
keys_rise [] h r = tt
keys_rise (v ∷ l) h r = keys_from 0 v l (omega arith) h r

-- ---- from keys to corners

pub corner_of : (k : ℕ) → KeyOk k → is_corner (of_key k) ≡ true
corner_of k h = corner_of_key k h.0 h.1.0 h.1.1

pub corners_of : (ks : List ℕ) → All KeyOk ks → Corners (map of_key ks)
corners_of [] h = tt
corners_of (k ∷ ks) h = (corner_of k h.0, corners_of ks h.1)

pub rising_of : (m : ℕ) (ks : List ℕ) → All KeyOk ks → From m ks → Rising (map of_key ks)
rising_of m [] h r = tt
rising_of m (k ∷ []) h r = tt
rising_of m (k ∷ j ∷ ks) h r = (
  below_key (of_key k) (of_key j) (corner_of k h.0) (corner_of j h.1.0) ∙
      ap₂ ltb (key_of_of_key k) (key_of_of_key j) ∙
      lt-ltb k j r.1.0,
  rising_of (suc k) (j ∷ ks) h.1 r.1,
)

-- ---- what they permit

pub permitted_keys : (a b d : ℕ) (ks : List ℕ) → permitted (map of_key ks) (cell (number a) (number b) (number d)) ≡ sum (key_fits a b d) ks
permitted_keys a b d ks =
    let c = cell (number a) (number b) (number d) in
    permitted_sum (map of_key ks) c ∙
    sum_map (at_or_below c) of_key ks ∙
    sum_ext (λ k. at_or_below c (of_key k)) (key_fits a b d) ks
    (λ k. ap₂ ◌&&◌ (number_le (plane_of k) a) (ap₂ ◌&&◌ (number_le (line_of (rest_of k)) b) (number_le (last_of (rest_of k)) d)))

pub permitted_corners : (a b d : ℕ) (l : List Corner) → Corners l → permitted l (cell (number a) (number b) (number d)) ≡ sum (key_fits a b d) (map key_of l)
permitted_corners a b d l h = ap (λ m. permitted m (cell (number a) (number b) (number d))) (sym (keys_back l h)) ∙ permitted_keys a b d (map key_of l)

-- ---- cells that are not given by steps

code_on_lem : (axis : Axis) (c : Cell) → is_cell c ≡ true → is_code (code_on axis c) ≡ true
code_on_lem focus c h = and_left (is_code c.focus) _ h
code_on_lem first c h = and_left (is_code c.first) _ (and_right (is_code c.focus) _ h)
code_on_lem second c h = and_right (is_code c.first) _ (and_right (is_code c.focus) _ h)

module _ (S : Cell → Bool) (h : WithinCodes S) (axis : Axis) (c : Cell) (e : le_z lowest (code_on axis c) ≡ false) where
  outside_set : S c ≡ false
  outside_set =
      not_yes (S c) (λ k. true≢false (sym (and_left (le_z lowest (code_on axis c)) _ (code_on_lem axis c (h c k))) ∙ e))

outside_keys : (axis : Axis) (c : Cell) → le_z lowest (code_on axis c) ≡ false → (ks : List ℕ) → permitted (map of_key ks) c ≡ false
outside_keys axis c e ks =
    permitted_sum (map of_key ks) c ∙
    sum_map (at_or_below c) of_key ks ∙
    sum_ext (λ k. at_or_below c (of_key k)) (λ k. false) ks none ∙
    sum_false ks
  where
    none : (k : ℕ) → at_or_below c (of_key k) ≡ false
    none k =
        along axis c (of_key k) ∙
        ap (◌&& plane.fits (square_of axis c) (pair_of axis (of_key k)))
        (ap (λ z. le_z z (code_on axis c)) (part_number axis k) ∙ under_lowest (part_on axis k) (code_on axis c) e)

-- a set within the codes and the corners of some keys agree where they agree on the cells that are given by steps
pub within_by_steps : (S : Cell → Bool) → WithinCodes S → (ks : List ℕ) → ((a b d : ℕ) → sum (key_fits a b d) ks ≡ S (cell (number a) (number b) (number d)))
    → (c : Cell) → permitted (map of_key ks) c ≡ S c
within_by_steps S h ks e c = go (le_z lowest c.focus) refl (le_z lowest c.first) refl (le_z lowest c.second) refl
  where
    out : (axis : Axis) → le_z lowest (code_on axis c) ≡ false → permitted (map of_key ks) c ≡ S c
    out axis k = outside_keys axis c k ks ∙ sym (outside_set S h axis c k)

    go : (t : Bool) → le_z lowest c.focus ≡ t → (u : Bool) → le_z lowest c.first ≡ u → (w : Bool) → le_z lowest c.second ≡ w
        → permitted (map of_key ks) c ≡ S c
    go false p u q w r = out focus p
    go true p false q w r = out first q
    go true p true q false r = out second r
    go true p true q true r =
        let x = number_steps c.focus p in
        let y = number_steps c.first q in
        let z = number_steps c.second r in
        let is : cell (number (steps c.focus)) (number (steps c.first)) (number (steps c.second)) ≡ c = λ i. cell (x i) (y i) (z i) in
        subst (λ (d : Cell). permitted (map of_key ks) d ≡ S d) is
        (permitted_keys (steps c.focus) (steps c.first) (steps c.second) ks ∙ e (steps c.focus) (steps c.first) (steps c.second))

pub one_keys_lem : (S : Cell → Bool) → WithinCodes S → (ks : List ℕ) → From 0 ks → All KeyOk ks
    → ((a b d : ℕ) → sum (key_fits a b d) ks ≡ S (cell (number a) (number b) (number d))) → map of_key ks ≡ one_list S
one_keys_lem S h ks r ok e = is_one_list S h (map of_key ks) (rising_of 0 ks ok r) (within_by_steps S h ks e)
