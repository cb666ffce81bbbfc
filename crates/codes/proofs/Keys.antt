-- Laws of keys, of corners in range: the key keeps the order, gives the corner back and fits 32 bits with a plane to spare; two corners
-- lie on one line of an axis exactly when their pair keys are equal.
--   corner_numbers_lem, corner_of          the three numbers of a corner in range; and back
--   key_plane, key_rest, key_line, key_last     the parts of a key are the corner's steps
--   below_key                          the order of a list is the order of keys
--   of_key_key_of, key_of_once            a key gives its corner back
--   key_of_of_key                        a key whose parts are steps of corner numbers is the key of its corner
--   key_of_fits                         the range of keys
--   pair_numbers_lem, pair_key_fits         of the pair that is left when an axis is left out
--   on_line_pair_key                     on one line: the same pair key, for any axis
use mathlib.Core.Path.{◌≡◌, sym, ◌∙◌, ap, ap₂}
use mathlib.Core.Bool.{true, ◌&&◌, ◌||◌}
use Prim.Native.Nat.{ℕ, ◌+◌, ◌-◌, ◌*◌, ◌/◌, ◌%◌, ◌≤◌, ◌<◌}
use native.Mathlib.Nat.{add_assoc}
use native.Mathlib.Omega.{arith}
use borrow.Author.Tests.{le-leb}
use lib.Dec.{leb, ltb, eqb}
use Rattle.meaning.specs.Numbers.{Axis, focus, first, second, corner, is_number, is_corner, pair_of, number, steps}
use Rattle.meaning.specs.declared.Corner.{Corner}
use Rattle.meaning.specs.Lists.{below, on_line}
use Rattle.codes.specs.Keys.{key_of, plane_of, rest_of, line_of, last_of, of_key, pair_key}
use Rattle.codes.proofs.Tests.{and_both, both_and, lex, lex_same}
use Rattle.codes.proofs.Laws.{number_steps_le, steps_le, steps_lt, steps_same, number_steps, steps_number, is_number_number}

-- the three numbers of a corner are corner numbers
pub record Numbers (v : Corner) : Type 0 where
  pub one : is_number v.focus ≡ true
  pub two : is_number v.first ≡ true
  pub three : is_number v.second ≡ true

pub corner_numbers_lem : (v : Corner) → is_corner v ≡ true → Numbers v
corner_numbers_lem v e =
    let h = and_both (is_number v.focus) (is_number v.first && is_number v.second) e in
    let k = and_both (is_number v.first) (is_number v.second) h.1 in
    record { one = h.0; two = k.0; three = k.1 }

pub corner_of : (v : Corner) → Numbers v → is_corner v ≡ true
corner_of v n =
    both_and (is_number v.focus) (is_number v.first && is_number v.second) n.one
    (both_and (is_number v.first) (is_number v.second) n.two n.three)

-- steps of the three, at most 1024 each
pub record Within (v : Corner) : Type 0 where
  pub one : steps v.focus ≤ 1024
  pub two : steps v.first ≤ 1024
  pub three : steps v.second ≤ 1024

pub within : (v : Corner) → is_corner v ≡ true → Within v
within v e =
    let n = corner_numbers_lem v e in
    record { one = number_steps_le v.focus n.one; two = number_steps_le v.first n.two; three = number_steps_le v.second n.three }

-- three steps and their number, on bare numbers
module _ (x y z : ℕ) (hx : x ≤ 1024) (hy : y ≤ 1024) (hz : z ≤ 1024) where
  plane : (x * 2099200 + y * 2048 + z) / 2099200 ≡ x
  plane = omega arith

  rest : (x * 2099200 + y * 2048 + z) % 2099200 ≡ y * 2048 + z
  rest = omega arith

  line : (y * 2048 + z) / 2048 ≡ y
  line = omega arith

  last : (y * 2048 + z) % 2048 ≡ z
  last = omega arith

-- three numbers before three others, as one number
lex_three : (a b d : ℕ) → b ≤ 1024 → d ≤ 1024 → (x y z : ℕ) → y ≤ 1024 → z ≤ 1024 →
    (ltb a x || leb a x && (ltb b y || leb b y && ltb d z)) ≡ ltb (a * 2099200 + b * 2048 + d) (x * 2099200 + y * 2048 + z)
lex_three a b d hb hd x y z hy hz =
    ap (λ t. ltb a x || leb a x && t) (lex 2048 b y d z (omega arith) (omega arith)) ∙
    lex 2099200 a x (b * 2048 + d) (y * 2048 + z) (omega arith) (omega arith) ∙
    ap₂ ltb (sym (add_assoc (a * 2099200) (b * 2048) d)) (sym (add_assoc (x * 2099200) (y * 2048) z))

module _ (v : Corner) (e : is_corner v ≡ true) where
  pub key_of_fits : key_of v < 4294967296 - 2099200
  key_of_fits = let w = within v e in omega arith

  pub key_plane : plane_of (key_of v) ≡ steps v.focus
  key_plane = let w = within v e in plane (steps v.focus) (steps v.first) (steps v.second) w.one w.two w.three

  pub key_rest : rest_of (key_of v) ≡ steps v.first * 2048 + steps v.second
  key_rest = let w = within v e in rest (steps v.focus) (steps v.first) (steps v.second) w.one w.two w.three

  pub key_line : line_of (rest_of (key_of v)) ≡ steps v.first
  key_line = let w = within v e in ap line_of key_rest ∙ line (steps v.focus) (steps v.first) (steps v.second) w.one w.two w.three

  pub key_last : last_of (rest_of (key_of v)) ≡ steps v.second
  key_last = let w = within v e in ap last_of key_rest ∙ last (steps v.focus) (steps v.first) (steps v.second) w.one w.two w.three

  pub of_key_key_of : of_key (key_of v) ≡ v
  of_key_key_of =
      let n = corner_numbers_lem v e in
      let a = ap number key_plane ∙ number_steps v.focus n.one in
      let b = ap number key_line ∙ number_steps v.first n.two in
      let c = ap number key_last ∙ number_steps v.second n.three in
      λ i. corner (a i) (b i) (c i)

pub key_of_once : (v w : Corner) → is_corner v ≡ true → is_corner w ≡ true → key_of v ≡ key_of w → v ≡ w
key_of_once v w ev ew e = sym (of_key_key_of v ev) ∙ ap of_key e ∙ of_key_key_of w ew

pub key_of_of_key : (k : ℕ) → key_of (of_key k) ≡ k
key_of_of_key k =
    ap₂ ◌+◌
    (ap₂ (λ a b. a * 2099200 + b * 2048) (steps_number (plane_of k)) (steps_number (line_of (rest_of k))))
    (steps_number (last_of (rest_of k))) ∙
    whole
  where
    whole : plane_of k * 2099200 + line_of (rest_of k) * 2048 + last_of (rest_of k) ≡ k
    whole = omega arith

pub corner_of_key : (k : ℕ) → plane_of k ≤ 1024 → line_of (rest_of k) ≤ 1024 → last_of (rest_of k) ≤ 1024 → is_corner (of_key k) ≡ true
corner_of_key k hx hy hz =
    corner_of (of_key k)
    (record {
      one = is_number_number (plane_of k) ∙ le-leb (plane_of k) 1024 hx;
      two = is_number_number (line_of (rest_of k)) ∙ le-leb (line_of (rest_of k)) 1024 hy;
      three = is_number_number (last_of (rest_of k)) ∙ le-leb (last_of (rest_of k)) 1024 hz;
    })

module _ (v w : Corner) (ev : is_corner v ≡ true) (ew : is_corner w ≡ true) where
  pub below_key : below v w ≡ ltb (key_of v) (key_of w)
  below_key =
      let m = corner_numbers_lem v ev in
      let n = corner_numbers_lem w ew in
      ap₂ ◌||◌ (steps_lt v.focus w.focus m.one n.one)
      (ap₂ ◌&&◌ (steps_le v.focus w.focus m.one n.one)
      (ap₂ ◌||◌ (steps_lt v.first w.first m.two n.two)
      (ap₂ ◌&&◌ (steps_le v.first w.first m.two n.two) (steps_lt v.second w.second m.three n.three)))) ∙
      lex_three
      (steps v.focus) (steps v.first) (steps v.second) (within v ev).two (within v ev).three
      (steps w.focus) (steps w.first) (steps w.second) (within w ew).two (within w ew).three

-- the pair that is left when an axis is left out
pub pair_numbers_lem : (axis : Axis) (v : Corner) → is_corner v ≡ true → (is_number (pair_of axis v).one ≡ true) × (is_number (pair_of axis v).two ≡ true)
pair_numbers_lem focus v e = let n = corner_numbers_lem v e in (n.two, n.three)
pair_numbers_lem first v e = let n = corner_numbers_lem v e in (n.one, n.three)
pair_numbers_lem second v e = let n = corner_numbers_lem v e in (n.one, n.two)

pub pair_key_fits : (axis : Axis) (v : Corner) → is_corner v ≡ true → pair_key axis v < 2099200
pair_key_fits axis v e =
    let n = pair_numbers_lem axis v e in
    let h = number_steps_le (pair_of axis v).one n.0 in
    let k = number_steps_le (pair_of axis v).two n.1 in
    omega arith

pub on_line_pair_key : (axis : Axis) (v w : Corner) → is_corner v ≡ true → is_corner w ≡ true → on_line axis v w ≡ eqb (pair_key axis v) (pair_key axis w)
on_line_pair_key axis v w ev ew =
    let m = pair_numbers_lem axis v ev in
    let n = pair_numbers_lem axis w ew in
    let p = pair_of axis v in
    let q = pair_of axis w in
    ap₂ ◌&&◌ (steps_same p.one q.one m.0 n.0) (steps_same p.two q.two m.1 n.1) ∙
    lex_same 2048 (steps p.one) (steps q.one) (steps p.two) (steps q.two)
    (let k = number_steps_le p.two m.1 in omega arith)
    (let k = number_steps_le q.two n.1 in omega arith)
