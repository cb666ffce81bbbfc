-- From where to where a map lies on each axis: a permitted cell lies from the lowest to below the highest number of the list.
--   below_low, above_high                  a sum over keys that are all above a code, or all not above two
--   inside_extent, some_extent             a permitted cell lies inside, on every axis; a map that is not empty is wider than nothing
--   keys_front                             the keys that were written to the front of a room
--   keyed, keyed-..                        the keys of a map: they rise and are even along the focus
--   located_wide, located_inside           from where to where it lies
-- Assumes nothing.
use mathlib.Core.Path.{◌≡◌, refl, sym, ◌∙◌, ap, subst}
use mathlib.Core.Bool.{Bool, true, false, ◌&&◌, true≢false}
use mathlib.Core.List.{List, map, ◌++◌}
use Prim.Native.Nat.{ℕ, ◌≤◌, ◌<◌}
use native.Mathlib.Omega.{arith}
use borrow.Author.Tests.{le-leb, lt-leb, ltb-true, ltb-false}
use lib.Dec.{leb, ltb}
use lib.ListN.{length, get_or, take, length-map}
use lib.Seq.{take-length, take_at}
use Rattle.meaning.specs.Numbers.{Axis, focus, first, second}
use Rattle.meaning.specs.declared.Corner.{Corner}
use Rattle.meaning.specs.Lists.{permitted, Valid}
use Rattle.meaning.proofs.Parity.{sum, sum_ext}
use Rattle.meaning.proofs.Maps.{valid_within}
use Rattle.codes.specs.Keys.{key_of, of_key}
use Rattle.keys.specs.Parts.{part_on, key_fits}
use Rattle.keys.proofs.Corners.{permitted_corners, keys_back, keys_rise}
use Rattle.ranks.specs.Extents.{Extends}
use Rattle.ranks.specs.declared.Scale.{Scale}
use Rattle.ranks.specs.declared.Extent.{Extent}
use Rattle.rising.specs.Merged.{From}
use Rattle.cells.specs.Cells.{section_in}
use Rattle.search.specs.Search.{Even}
use Rattle.nearest.specs.declared.Extents.{Extents}
use Rattle.nearest.specs.Ranks.{Keyed, Located}
use Rattle.squares.proofs.Runs.{sum_upto}
use Rattle.nearest.proofs.Ranks.{cell_at, by_codes, within_codes, some_cell, parts_ok, even_keys}

-- ---- sums over keys

module _ (p : ℕ → ℕ) (R : ℕ → Bool) (keys : List ℕ) where
  below_low : (low x : ℕ) → ((i : ℕ) → i < length keys → low ≤ p (get_or keys i 0)) → x < low → sum (λ k. leb (p k) x && R k) keys ≡ false
  below_low low x h l =
      sum_upto (λ k. leb (p k) x && R k) R keys 0 (λ j q r. absurd (omega arith))
      (λ j q r. ap (◌&& R (get_or keys j 0)) (lt-leb (p (get_or keys j 0)) x (omega (arith, h j r))))

  above_high : (high x y : ℕ) → ((i : ℕ) → i < length keys → p (get_or keys i 0) ≤ high) → high ≤ x → high ≤ y
      → sum (λ k. leb (p k) x && R k) keys ≡ sum (λ k. leb (p k) y && R k) keys
  above_high high x y h l m =
      sum_upto (λ k. leb (p k) x && R k) (λ k. leb (p k) y && R k) keys (length keys)
      (λ j q r. ap (◌&& R (get_or keys j 0)) (le-leb (p (get_or keys j 0)) x (omega (arith, h j r)) ∙ sym (le-leb (p (get_or keys j 0)) y (omega (arith, h j r)))))
      (λ j q r. absurd (omega arith)) ∙
      ap (sum (λ k. leb (p k) y && R k)) (take-length keys)

-- a code at which the sum is true lies inside, if the sum is false at 1024
within : (axis : Axis) (R : ℕ → Bool) (keys : List ℕ) {r : Extent} → Extends axis keys r → (x : ℕ) → sum (λ k. leb (part_on axis k) x && R k) keys ≡ true
    → (sum (λ k. leb (part_on axis k) 1024 && R k) keys ≡ true → ⊥) → (r.low ≤ x) × (x < r.high)
within axis R keys {r} ext x e n = (under (ltb x r.low) refl, over (ltb x r.high) refl)
  where
    under : (t : Bool) → ltb x r.low ≡ t → r.low ≤ x
    under true h = absurd (true≢false (sym e ∙ below_low (part_on axis) R keys r.low x ext.low (ltb-true x r.low h)))
    under false h = ltb-false x r.low h

    over : (t : Bool) → ltb x r.high ≡ t → x < r.high
    over true h = ltb-true x r.high h
    over false h = absurd (n (sym (above_high (part_on axis) R keys r.high x 1024 ext.high (ltb-false x r.high h) ext.end) ∙ e))

-- ---- cells

-- the test of a cell, with each axis in front in turn
second_first : (a b d k : ℕ) → key_fits a b d k ≡ (leb (part_on first k) b && (leb (part_on focus k) a && leb (part_on second k) d))
second_first a b d k = swap (leb (part_on focus k) a) (leb (part_on first k) b) (leb (part_on second k) d)
  where
    swap : (x y z : Bool) → (x && (y && z)) ≡ (y && (x && z))
    swap true true z = refl
    swap true false z = refl
    swap false true z = refl
    swap false false z = refl

third_first : (a b d k : ℕ) → key_fits a b d k ≡ (leb (part_on second k) d && (leb (part_on focus k) a && leb (part_on first k) b))
third_first a b d k = turn (leb (part_on focus k) a) (leb (part_on first k) b) (leb (part_on second k) d)
  where
    turn : (x y z : Bool) → (x && (y && z)) ≡ (z && (x && y))
    turn true true true = refl
    turn true true false = refl
    turn true false true = refl
    turn true false false = refl
    turn false y true = refl
    turn false y false = refl

module _ (l : List Corner) (valid : Valid l) {x y z : Extent}
    (on_focus : Extends focus (map key_of l) x) (on_first : Extends first (map key_of l) y) (on_second : Extends second (map key_of l) z)
  where
    fits : (a b d : ℕ) → permitted l (cell_at a b d) ≡ sum (key_fits a b d) (map key_of l)
    fits a b d = permitted_corners a b d l valid.corners

    pub inside_extent : (a b d : ℕ) → permitted l (cell_at a b d) ≡ true
        → (x.low ≤ a) × (a < x.high) × (y.low ≤ b) × (b < y.high) × (z.low ≤ d) × (d < z.high)
    inside_extent a b d e =
        let p =
        within focus (λ k. leb (part_on first k) b && leb (part_on second k) d) (map key_of l) on_focus a
        (sym (fits a b d) ∙ e)
        (λ h. omega (arith, (within_codes l valid 1024 b d (fits 1024 b d ∙ h)).0)) in
        let q =
        within first (λ k. leb (part_on focus k) a && leb (part_on second k) d) (map key_of l) on_first b
        (sym (fits a b d ∙ sum_ext (key_fits a b d) _ (map key_of l) (second_first a b d)) ∙ e)
        (λ h. omega (arith, (within_codes l valid a 1024 d (fits a 1024 d ∙ sum_ext (key_fits a 1024 d) _ (map key_of l) (second_first a 1024 d) ∙ h)).1)) in
        let r =
        within second (λ k. leb (part_on focus k) a && leb (part_on first k) b) (map key_of l) on_second d
        (sym (fits a b d ∙ sum_ext (key_fits a b d) _ (map key_of l) (third_first a b d)) ∙ e)
        (λ h. omega (arith, (within_codes l valid a b 1024 (fits a b 1024 ∙ sum_ext (key_fits a b 1024) _ (map key_of l) (third_first a b 1024) ∙ h)).2)) in
        (p.0, p.1, q.0, q.1, r.0, r.1)

-- a map that is not empty is wider than nothing on every axis
pub some_extent : (l : List Corner) (valid : Valid l) → 0 < length l → {x y z : Extent}
    → Extends focus (map key_of l) x → Extends first (map key_of l) y → Extends second (map key_of l) z
    → (x.low < x.high) × (y.low < y.high) × (z.low < z.high)
some_extent l valid h {x} {y} {z} p q r =
    let s = some_cell l valid h in
    let k = by_codes s.0 (valid_within l valid s.0 s.1) in
    let (a, b, c, d, e, f) = inside_extent l valid p q r k.a k.b k.d (ap (permitted l) k.is ∙ s.1) in
    (omega arith, omega arith, omega arith)

-- ---- the keys of a map

-- what is read from the front of a room is the keys that were written there
pub keys_front : (l : List Corner) (n : ℕ) (room behind : List ℕ) → (n ≡ length l) × (room ≡ map key_of l ++ behind) → take n room ≡ map key_of l
keys_front l n room behind e = ap (take n) e.1 ∙ take_at (map key_of l) behind n (length-map l key_of ∙ sym e.0)

-- the keys of a valid list of corners that is not empty are those of a map
pub keyed : (l : List Corner) (keys : List ℕ) → keys ≡ map key_of l → Valid l → 0 < length l → Keyed keys
keyed l keys e valid some =
    let b : map of_key keys ≡ l = ap (map of_key) e ∙ keys_back l valid.corners in
    record { valid = subst Valid (sym b) valid; some = subst (λ (m : List Corner). 0 < length m) (sym b) some; back = e ∙ ap (map key_of) (sym b) }

pub keyed_corners : (l : List Corner) (keys : List ℕ) → keys ≡ map key_of l → Valid l → map of_key keys ≡ l
keyed_corners l keys e valid = ap (map of_key) e ∙ keys_back l valid.corners

pub keyed_parts : (keys : List ℕ) → Keyed keys → (axis : Axis) (i : ℕ) → i < length keys → part_on axis (get_or keys i 0) ≤ 1024
keyed_parts keys h axis =
    subst (λ (k : List ℕ). (i : ℕ) → i < length k → part_on axis (get_or k i 0) ≤ 1024) (sym h.back) (parts_ok (map of_key keys) h.valid axis)

module _ {keys : List ℕ} {e : Extents} (h : Located keys e) where
  on_focus : Extends focus (map key_of (map of_key keys)) e.focus
  on_focus = subst (λ (k : List ℕ). Extends focus k e.focus) h.keyed.back h.on_focus

  on_first : Extends first (map key_of (map of_key keys)) e.first
  on_first = subst (λ (k : List ℕ). Extends first k e.first) h.keyed.back h.on_first

  on_second : Extends second (map key_of (map of_key keys)) e.second
  on_second = subst (λ (k : List ℕ). Extends second k e.second) h.keyed.back h.on_second

  pub located_wide : (e.focus.low < e.focus.high) × (e.first.low < e.first.high) × (e.second.low < e.second.high)
  located_wide = some_extent (map of_key keys) h.keyed.valid h.keyed.some on_focus on_first on_second

  pub located_inside : (a b d : ℕ) → permitted (map of_key keys) (cell_at a b d) ≡ true
      → (e.focus.low ≤ a) × (a < e.focus.high) × (e.first.low ≤ b) × (b < e.first.high) × (e.second.low ≤ d) × (d < e.second.high)
  located_inside = inside_extent (map of_key keys) h.keyed.valid on_focus on_first on_second

pub keyed_rise : (keys : List ℕ) → Keyed keys → From 0 keys
keyed_rise keys h = subst (From 0) (sym h.back) (keys_rise (map of_key keys) h.valid.corners h.valid.rising)

pub keyed_even : (B D : Scale) (keys : List ℕ) → Keyed keys → Even (section_in B D) keys
keyed_even B D keys h = subst (Even (section_in B D)) (sym h.back) (even_keys B D (map of_key keys) h.valid)
