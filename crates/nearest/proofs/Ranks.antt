-- Ranks: from the search over keys to the nearest cell.
--   test_fits           the search tests what a key's parts say
--   by_codes            a permitted cell by its codes counted from 0
--   within_codes, some_cell     of a valid list: its cells lie within the codes; one that is not empty permits a cell
--   of_keys             the least rank of a list of keys is that of an equal one
--   parts_ok, even_keys     the parts of a map's keys; its keys are even along the focus
--   ranked              the least rank that the search finds, and what the ways to the scales' codes count, is the least rank of the permitted cells
--   ranked_nearest      the least rank is the nearest cell and its distance
-- Assumes nothing.
use mathlib.Core.Path.{◌≡◌, refl, sym, ◌∙◌, ap, ap₂, subst}
use mathlib.Core.Logic.{◌⊎◌, inl, inr}
use mathlib.Core.Bool.{Bool, true, false, ◌&&◌, ◌||◌, and-true}
use mathlib.Core.List.{List, [], ◌∷◌, map}
use Prim.Native.Nat.{ℕ, ◌+◌, ◌*◌, ◌/◌, ◌%◌, ◌^◌, ◌≤◌, ◌<◌}
use native.Mathlib.Nat.{mul-add}
use native.Mathlib.Omega.{arith}
use borrow.Author.Tests.{ltb-true, le-ltb, le-leb}
use lib.Dec.{leb, ltb}
use lib.IntN.{ℤ}
use lib.Signed.{le_z}
use lib.ListN.{length, get_or}
use Rattle.meaning.specs.Numbers.{Axis, focus, first, second, cell, is_code, is_cell, lowest, number, steps}
use Rattle.meaning.specs.declared.Cell.{Cell}
use Rattle.meaning.specs.declared.Corner.{Corner}
use Rattle.meaning.specs.Lists.{permitted, Valid}
use Rattle.meaning.specs.Nearest.{weight, distance, lower, Nearest}
use Rattle.meaning.proofs.Parity.{sum, sum_ext}
use Rattle.meaning.proofs.Integers.{number_steps, number_is_code, number_lt, number_le, and_left, and_right}
use Rattle.meaning.proofs.Maps.{valid_within, some_permitted}
use Rattle.codes.specs.Keys.{key_of, rest_of, last_of}
use Rattle.codes.specs.Lift.{lowered}
use Rattle.codes.proofs.Tests.{lex}
use Rattle.keys.specs.Parts.{KeyOk, part_on, key_fits}
use Rattle.keys.proofs.Corners.{part_ok, keys_ok, permitted_corners}
use Rattle.rising.proofs.Written.{all_at}
use Rattle.ranks.specs.Values.{apart, value, way, Brought}
use Rattle.cells.specs.Cells.{Best, Depth, Rank, map_in, section_in, plane_unit, rest}
use Rattle.search.specs.Search.{Even}
use Rattle.squares.proofs.Runs.{sum_places}
use Rattle.nearest.specs.Ranks.{rank_of, Ranked, cell_of}
use Rattle.ranks.specs.declared.Scale.{Scale}
use Rattle.ranks.proofs.Costs.{value_small}
use Rattle.nearest.proofs.Distances.{distance_apart}

-- ---- cells by codes

pub test_fits : (A B D : Scale) (a b d k : ℕ) → (map_in A B D).test (a, (b, (d, tt))) k ≡ key_fits a b d k
test_fits A B D a b d k =
    ap (λ t. leb (k / 2099200) a && (leb (rest_of k / 2048) b && t))
    (and-true (leb (last_of (rest_of k) / 1) d) ∙ ap (λ n. leb n d) (one (last_of (rest_of k))))
  where
    one : (n : ℕ) → n / 1 ≡ n
    one n = omega arith

abbrev pub cell_at : ℕ → ℕ → ℕ → Cell
cell_at a b d = cell (number a) (number b) (number d)

-- a cell within the codes, by its codes counted from 0
pub record ByCodes (c : Cell) : Type 0 where
  pub a : ℕ
  pub b : ℕ
  pub d : ℕ
  pub codes : (a < 1024) × (b < 1024) × (d < 1024)
  pub is : cell_at a b d ≡ c

by_code : (z : ℤ) → is_code z ≡ true → (number (steps z) ≡ z) × (steps z < 1024)
by_code z e =
    let n = number_steps z (and_left (le_z lowest z) _ e) in
    (n, ltb-true (steps z) 1024 (sym (number_is_code (steps z)) ∙ ap is_code n ∙ e))

pub by_codes : (c : Cell) → is_cell c ≡ true → ByCodes c
by_codes c e =
    let x = by_code c.focus (and_left (is_code c.focus) _ e) in
    let y = by_code c.first (and_left (is_code c.first) _ (and_right (is_code c.focus) _ e)) in
    let z = by_code c.second (and_right (is_code c.first) _ (and_right (is_code c.focus) _ e)) in
    record {
      a = steps c.focus;
      b = steps c.first;
      d = steps c.second;
      codes = (x.1, y.1, z.1);
      is = λ i. cell (x.0 i) (y.0 i) (z.0 i);
    }

-- a valid list permits cells within the codes alone
pub within_codes : (l : List Corner) → Valid l → (a b d : ℕ) → permitted l (cell_at a b d) ≡ true → (a < 1024) × (b < 1024) × (d < 1024)
within_codes l valid a b d e =
    let h = valid_within l valid (cell_at a b d) e in
    let k = and_right (is_code (number a)) _ h in
    (code a (and_left (is_code (number a)) _ h), code b (and_left (is_code (number b)) _ k), code d (and_right (is_code (number b)) _ k))
  where
    code : (n : ℕ) → is_code (number n) ≡ true → n < 1024
    code n k = ltb-true n 1024 (sym (number_is_code n) ∙ k)

-- a valid list that is not empty permits a cell
pub some_cell : (l : List Corner) → Valid l → 0 < length l → (c : Cell) × (permitted l c ≡ true)
some_cell [] valid h = absurd (omega arith)
some_cell (v ∷ l) valid h = some_permitted v l valid.rising

-- ---- from the search to the least rank

pub of_keys : {D : Depth} {k l : List ℕ} {none r : ℕ} → k ≡ l → Best (Rank D k 0) none r → Best (Rank D l 0) none r
of_keys {D} {k} {l} {none} {r} e b = subst (λ (m : List ℕ). Best (Rank D m 0) none r) e b

-- the parts of the keys of corners are at most 1024
pub parts_ok : (l : List Corner) → Valid l → (axis : Axis) (i : ℕ) → i < length (map key_of l) → part_on axis (get_or (map key_of l) i 0) ≤ 1024
parts_ok l valid axis i h = part_ok axis (get_or (map key_of l) i 0) (all_at KeyOk (map key_of l) (keys_ok l valid.corners) i h)

-- a map has no cell at the end of the focus, so its keys are even along it
pub even_keys : (B D : Scale) (l : List Corner) → Valid l → Even (section_in B D) (map key_of l)
even_keys B D l valid (b, (d, _)) = go (permitted l (cell_at 1024 b d)) refl
  where
    whole : sum (λ k. (section_in B D).test (b, (d, tt)) (rest plane_unit k)) (map key_of l) ≡ permitted l (cell_at 1024 b d)
    whole =
        sum_places (λ k. (section_in B D).test (b, (d, tt)) (rest plane_unit k)) ((map_in B B D).test (1024, (b, (d, tt)))) (map key_of l)
        (λ j p. sym (ap (◌&& (section_in B D).test (b, (d, tt)) (rest plane_unit (get_or (map key_of l) j 0)))
        (le-leb (get_or (map key_of l) j 0 / 2099200) 1024 (parts_ok l valid focus j p)))) ∙
        sum_ext ((map_in B B D).test (1024, (b, (d, tt)))) (key_fits 1024 b d) (map key_of l) (test_fits B B D 1024 b d) ∙
        sym (permitted_corners 1024 b d l valid.corners)

    go : (t : Bool) → permitted l (cell_at 1024 b d) ≡ t → sum (λ k. (section_in B D).test (b, (d, tt)) (rest plane_unit k)) (map key_of l) ≡ false
    go true e = absurd (omega (arith, (within_codes l valid 1024 b d e).0))
    go false e = whole ∙ e

module _ (l : List Corner) (valid : Valid l) {u v t : ℕ} {A B D : Scale} {la ha lb hb ld hd : ℕ}
    (brought_a : Brought u la ha (weight focus) 1048576 A)
    (brought_b : Brought v lb hb (weight first) 1024 B)
    (brought_d : Brought t ld hd (weight second) 1 D)
    (inside : (a b d : ℕ) → permitted l (cell_at a b d) ≡ true → (la ≤ a) × (a < ha) × (lb ≤ b) × (b < hb) × (ld ≤ d) × (d < hd))
  where
    abbrev wish : Cell
    wish = cell (lowered u) (lowered v) (lowered t)

    abbrev pub extra : ℕ
    extra = way u A + way v B + way t D

    -- on one axis: the cost of a code is that of the way to the scale's code and of the way on
    axis_cost : (z low high w place : ℕ) (s : Scale) → Brought z low high w place s → (c : ℕ) → low ≤ c → c < high
        → w * apart z (c + 32256) ≡ s.weight * apart z (s.wish + 32256) + s.weight * apart s.wish c
    axis_cost z low high w place s h c p q =
        ap (◌* apart z (c + 32256)) (sym h.heavy) ∙
        ap (s.weight *◌) (h.along c p q) ∙
        mul-add s.weight (apart z (s.wish + 32256)) (apart s.wish c)

    rank_of_lem : (a b d : ℕ) → permitted l (cell_at a b d) ≡ true
        → rank_of wish a b d ≡ (map_in A B D).worth (a, (b, (d, tt))) + extra * 1073741824
    unfolding value
    rank_of_lem a b d e =
        let (p, p', q, q', s, s') = inside a b d e in
        omega (
          arith,
          distance_apart u v t a b d,
          axis_cost u la ha (weight focus) 1048576 A brought_a a p p',
          axis_cost v lb hb (weight first) 1024 B brought_b b q q',
          axis_cost t ld hd (weight second) 1 D brought_d d s s',
          ap (a *◌) brought_a.behind,
          ap (b *◌) brought_b.behind,
          ap (d *◌) brought_d.behind,
        )

    member_of : (a b d : ℕ) → permitted l (cell_at a b d) ≡ sum ((map_in A B D).test (a, (b, (d, tt)))) (map key_of l)
    member_of a b d =
        permitted_corners a b d l valid.corners ∙
        sym (sum_ext ((map_in A B D).test (a, (b, (d, tt)))) (key_fits a b d) (map key_of l) (test_fits A B D a b d))

    -- the least of the ranks and of a number above them all
    module _ {none : ℕ} (r : ℕ) (best : Best (Rank (map_in A B D) (map key_of l) 0) none r) (above : 3 * 2 ^ 44 ≤ none) where
      below : (a b d : ℕ) → (a < 1024) × (b < 1024) × (d < 1024) → permitted l (cell_at a b d) ≡ true → r ≤ (map_in A B D).worth (a, (b, (d, tt)))
      below a b d k e =
          omega (arith, best.least (0 + (map_in A B D).worth (a, (b, (d, tt)))) cell_there)
        where
          cell_there : Rank (map_in A B D) (map key_of l) 0 (0 + (map_in A B D).worth (a, (b, (d, tt))))
          cell_there = record { at = (a, (b, (d, tt))); within = (k.0, (k.1, (k.2, tt))); member = sym (member_of a b d) ∙ e; is = refl }

      found : (c : Cell) → permitted l c ≡ true → Rank (map_in A B D) (map key_of l) 0 r
      found c e = go best.from
        where
          go : (r ≡ none) ⊎ Rank (map_in A B D) (map key_of l) 0 r → Rank (map_in A B D) (map key_of l) 0 r
          go (inr h) = h
          go (inl h) =
              let k = by_codes c (valid_within l valid c e) in
              let lo = below k.a k.b k.d k.codes (ap (permitted l) k.is ∙ e) in
              let p = value_small A brought_a.sound k.a k.codes.0 in
              let q = value_small B brought_b.sound k.b k.codes.1 in
              let s = value_small D brought_d.sound k.d k.codes.2 in
              absurd (omega (arith, p, q, s))

      pub ranked : (c : Cell) → permitted l c ≡ true → Ranked l wish (r + extra * 1073741824)
      ranked c e =
          let h = found c e in
          let (a, s) = h.at in
          let (b, z) = s in
          let d = z.0 in
          let m = member_of a b d ∙ h.member in
          record {
            focus_code = a;
            first_code = b;
            second_code = d;
            codes = (h.within.0, h.within.1.0, h.within.1.1.0);
            member = m;
            is = omega (arith, rank_of_lem a b d m, h.is);
            least = λ x y w k p. omega (arith, rank_of_lem x y w p, below x y w k p);
          }

-- ---- from the least rank to the nearest cell

-- the parts of a rank, on bare numbers
record Parts (n a b d r : ℕ) : Type 0 where
  pub far : r / 1073741824 ≡ n
  pub one : r / 1048576 % 1024 ≡ a
  pub two : r / 1024 % 1024 ≡ b
  pub three : r / 1 % 1024 ≡ d

parts : (n a b d r : ℕ) → (a < 1024) × (b < 1024) × (d < 1024) → r ≡ n * 1073741824 + (a * 1048576 + b * 1024 + d) → Parts n a b d r
parts n a b d r k e = record { far = omega arith; one = omega arith; two = omega arith; three = omega arith }

-- lower among cells is lower among the three codes as one number
abbrev as_one : ℕ → ℕ → ℕ → ℕ
as_one a b d = a * 1048576 + (b * 1024 + d)

lower_codes : (a b d x y z : ℕ) → (b < 1024) × (d < 1024) → (y < 1024) × (z < 1024) → lower (cell_at a b d) (cell_at x y z) ≡ ltb (as_one a b d) (as_one x y z)
lower_codes a b d x y z h k =
    ap₂ ◌||◌ (number_lt a x)
    (ap₂ ◌&&◌ (number_le a x) (ap₂ ◌||◌ (number_lt b y) (ap₂ ◌&&◌ (number_le b y) (number_lt d z)))) ∙
    ap (λ t. ltb a x || leb a x && t) (lex 1024 b y d z h.1 k.1) ∙
    lex 1048576 a x (b * 1024 + d) (y * 1024 + z) (omega arith) (omega arith)

module _ (l : List Corner) (valid : Valid l) (w : Cell) (r : ℕ) (h : Ranked l w r) where
  abbrev here : Cell
  here = cell_at h.focus_code h.first_code h.second_code

  cell_here : Parts (distance w here) h.focus_code h.first_code h.second_code r → here ≡ cell_of r
  cell_here p = λ i. cell_at (sym p.one i) (sym p.two i) (sym p.three i)

  at_codes : Nearest (permitted l) w here
  at_codes =
      record {
        member = h.member;
        least = λ c e. near c e (by_codes c (valid_within l valid c e));
        lowest = λ c e f. low c e f (by_codes c (valid_within l valid c e));
      }
    where
      near : (c : Cell) → permitted l c ≡ true → ByCodes c → distance w here ≤ distance w c
      near c e k =
          let lo = h.least k.a k.b k.d k.codes (ap (permitted l) k.is ∙ e) in
          subst (λ (x : Cell). distance w here ≤ distance w x) k.is (omega (arith, h.is, k.codes, h.codes))

      low : (c : Cell) → permitted l c ≡ true → distance w c ≡ distance w here → ByCodes c → lower c here ≡ false
      low c e f k =
          let lo = h.least k.a k.b k.d k.codes (ap (permitted l) k.is ∙ e) in
          subst (λ (x : Cell). lower x here ≡ false) k.is
          (lower_codes k.a k.b k.d h.focus_code h.first_code h.second_code (k.codes.1, k.codes.2) (h.codes.1, h.codes.2) ∙
          le-ltb (as_one k.a k.b k.d) (as_one h.focus_code h.first_code h.second_code) (omega (arith, h.is, f, ap (distance w) k.is)))

  pub ranked_nearest : Nearest (permitted l) w (cell_of r) × (r / 1073741824 ≡ distance w (cell_of r))
  ranked_nearest =
      let p = parts (distance w here) h.focus_code h.first_code h.second_code r h.codes h.is in
      let e = cell_here p in
      (subst (λ (c : Cell). Nearest (permitted l) w c) e at_codes, p.far ∙ ap (distance w) e)
