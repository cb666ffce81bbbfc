-- Odd lines as numbers that occur an odd number of times: on a list in range, the working list of an axis has at each place the pair key
-- of the vertex there, and a vertex is on an odd line exactly when its pair key occurs an odd number of times.
--   Offsets          the offsets, in a vertex, of the two numbers that are left when an axis is left out
--   pair_at_key       the two numbers at an axis's offsets, as one number, are the pair key
--   filled_parted    a filled working list is one of keys in two parts
--   keys_filled      a filled working list is the list of pair keys
--   first_odd_line   the first number that occurs an odd number of times is the first vertex on an odd line of the axis
--   evenly_more, evenly_all     vertices that lie two by two on lines of the second shift: one pair more; all of them
--   first_at_start   a vertex on an odd line at place 0
--   first_of_three   the first vertex on an odd line of any axis is the least of the three
use mathlib.Core.Path.{◌≡◌, refl, sym, ◌∙◌, ap, ap₂, subst}
use mathlib.Core.Bool.{Bool, true, ◌&&◌, ◌||◌, or-true}
use mathlib.Core.List.{List, [], ◌∷◌, map}
use Prim.Native.Nat.{ℕ, zero, suc, ◌+◌, ◌*◌, min, ◌≤◌, ◌<◌}
use native.Mathlib.Omega.{arith}
use borrow.Author.Tests.{eqb-true}
use lib.Dec.{eqb}
use lib.IntN.{ℤ, pos}
use lib.ListN.{length, get_or, length-map}
use lib.Seq.{ext_get_or}
use Rattle.meaning.specs.Numbers.{Axis, focus, first as first_shift, second, corner, is_corner, steps}
use Rattle.meaning.specs.declared.Corner.{Corner}
use Rattle.meaning.specs.Counting.{count, odd, first, All}
use Rattle.meaning.specs.Lists.{vertices, on_line, odd_line}
use Rattle.meaning.specs.Verdicts.{at, on_odd_line_at}
use Rattle.meaning.proofs.First.{is_first, first_none, first_facts, first_same, first_or}
use Rattle.meaning.proofs.Integers.{and_left, and_right}
use Rattle.codes.specs.Keys.{corner_at, pair_key}
use Rattle.codes.proofs.Keys.{on_line_pair_key}
use Rattle.chains.specs.Odd.{occurs_oddly, first_odd}
use Rattle.chains.specs.Chains.{high, low, Parted}
use Rattle.chains.proofs.Parity.{Evenly, paired_more, paired_all}
use Rattle.lists.specs.Check.{InRange, pair_at, Filled, Offsets, first_on}
use Rattle.lists.proofs.Vertices.{at_vertices, steps_in, all_by}

-- ---- counting through a map, and by tests that agree on the list

module _ {A B : Type 0} where
  pub count_map : (f : A → B) (p : B → Bool) (l : List A) → count p (map f l) ≡ count (λ x. p (f x)) l
  count_map f p [] = refl
  count_map f p (x ∷ l) = rw (count_map f p l)

  pub get_d_map : (f : A → B) (l : List A) (i : ℕ) (d : A) (e : B) → i < length l → get_or (map f l) i e ≡ f (get_or l i d)
  get_d_map f [] i d e h = absurd (omega arith)
  get_d_map f (x ∷ l) zero d e h = refl
  get_d_map f (x ∷ l) (suc i) d e h = get_d_map f l i d e (omega arith)

pub count_same : {A : Type 0} (p q : A → Bool) (l : List A) → All (λ x. p x ≡ q x) l → count p l ≡ count q l
count_same p q [] a = refl
count_same p q (x ∷ l) a = rw (a.0, count_same p q l a.1)

-- ---- the working list

at_places : (ns : List ℤ) (m n j k : ℕ) → m ≡ j → n ≡ k →
    steps (get_or ns m (pos 0)) * 2048 + steps (get_or ns n (pos 0)) ≡ steps (get_or ns j (pos 0)) * 2048 + steps (get_or ns k (pos 0))
at_places ns m n j k e f = ap₂ (λ p q. steps (get_or ns p (pos 0)) * 2048 + steps (get_or ns q (pos 0))) e f

-- the parts of a pair
parts : (s t key : ℕ) → key ≡ s * 2048 + t → s ≤ 1024 → t ≤ 1024 → (high key < 1025) × (low key < 1025)
parts s t key e f g = (omega arith, omega arith)

pub filled_parted : (ns : List ℤ) (a b : ℕ) (keys : List ℕ) → InRange ns → (a < 3) × (b < 3) → length keys ≡ length (vertices ns) →
    Filled ns a b (length (vertices ns)) keys → Parted keys
filled_parted ns a b keys r o h f i l =
    let inside : i < length (vertices ns) = omega arith in
    parts (steps (get_or ns (3 * i + a) (pos 0))) (steps (get_or ns (3 * i + b) (pos 0))) (get_or keys i 0)
    (f i inside)
    (steps_in ns i a r inside o.0)
    (steps_in ns i b r inside o.1)

pub pair_at_key : (axis : Axis) (ns : List ℤ) (a b i : ℕ) → Offsets axis a b → pair_at ns a b i ≡ pair_key axis (corner_at ns i)
pair_at_key focus ns a b i o = at_places ns (3 * i + a) (3 * i + b) (3 * i + 1) (3 * i + 2) (omega arith) (omega arith)
pair_at_key first_shift ns a b i o = at_places ns (3 * i + a) (3 * i + b) (3 * i) (3 * i + 2) (omega arith) (omega arith)
pair_at_key second ns a b i o = at_places ns (3 * i + a) (3 * i + b) (3 * i) (3 * i + 1) (omega arith) (omega arith)

module _ (axis : Axis) (ns : List ℤ) (a b : ℕ) (o : Offsets axis a b) where
  pub keys_filled : (keys : List ℕ) → length keys ≡ length (vertices ns) → Filled ns a b (length (vertices ns)) keys →
      keys ≡ map (pair_key axis) (vertices ns)
  keys_filled keys h f =
      ext_get_or 0 keys (map (pair_key axis) (vertices ns))
      (h ∙ sym (length-map (vertices ns) (pair_key axis)))
      (λ i l. at_place i (omega arith))
    where
      at_place : (i : ℕ) → i < length (vertices ns) → get_or keys i 0 ≡ get_or (map (pair_key axis) (vertices ns)) i 0
      at_place i l =
          f i l ∙
          pair_at_key axis ns a b i o ∙
          ap (pair_key axis) (sym (at_vertices ns i l)) ∙
          sym (get_d_map (pair_key axis) (vertices ns) i (corner (pos 0) (pos 0) (pos 0)) 0 l)

-- ---- odd lines

module _ (axis : Axis) (ns : List ℤ) (r : InRange ns) where
  in_list : (i : ℕ) → i < length (vertices ns) → is_corner (at (vertices ns) i) ≡ true
  in_list i h = ap is_corner (at_vertices ns i h) ∙ r i h

  on_line_lem : (i : ℕ) → i < length (vertices ns) →
      count (on_line axis (at (vertices ns) i)) (vertices ns) ≡ count (eqb (pair_key axis (at (vertices ns) i))) (map (pair_key axis) (vertices ns))
  on_line_lem i h =
      let l = vertices ns in
      let v = at l i in
      count_same (on_line axis v) (λ w. eqb (pair_key axis v) (pair_key axis w)) l
      (all_by (λ w. on_line axis v w ≡ eqb (pair_key axis v) (pair_key axis w)) (corner (pos 0) (pos 0) (pos 0)) l
      (λ k g. on_line_pair_key axis v (at l k) (in_list i h) (in_list k g))) ∙
      sym (count_map (pair_key axis) (eqb (pair_key axis v)) l)

  pub first_odd_line : first_odd (map (pair_key axis) (vertices ns)) ≡ first (λ i. odd_line axis (vertices ns) (at (vertices ns) i)) (length (vertices ns))
  first_odd_line =
      let l = vertices ns in
      let keys = map (pair_key axis) l in
      ap (first (occurs_oddly keys)) (length-map l (pair_key axis)) ∙
      first_same (occurs_oddly keys) (λ i. odd_line axis l (at l i)) (length l)
      (λ i h.
      ap odd
      (ap (λ m. count (eqb m) keys) (get_d_map (pair_key axis) l i (corner (pos 0) (pos 0) (pos 0)) 0 h) ∙ sym (on_line_lem i h)))

-- ---- neighbours on one line of the second shift

abbrev pub line_keys : List ℤ → List ℕ
line_keys ns = map (pair_key second) (vertices ns)

module _ (ns : List ℤ) where
  long : length (line_keys ns) ≡ length (vertices ns)
  long = length-map (vertices ns) (pair_key second)

  at_key : (i : ℕ) → i < length (vertices ns) → get_or (line_keys ns) i 0 ≡ pair_at ns 0 1 i
  at_key i h =
      get_d_map (pair_key second) (vertices ns) i (corner (pos 0) (pos 0) (pos 0)) 0 h ∙
      ap (pair_key second) (at_vertices ns i h) ∙
      sym (pair_at_key second ns 0 1 i (refl, refl))

  pub evenly_more : (good : Bool) (i x y : ℕ) → 2 * i + 1 < length (vertices ns) → x ≡ pair_at ns 0 1 (2 * i) → y ≡ pair_at ns 0 1 (2 * i + 1) →
      (good ≡ true → Evenly (line_keys ns) (2 * i)) → (good && eqb x y) ≡ true → Evenly (line_keys ns) (2 * (i + 1))
  evenly_more good i x y h ex ey even t =
      subst (λ (n : ℕ). Evenly (line_keys ns) n) (omega arith)
      (paired_more (line_keys ns) (2 * i) (omega (arith, long))
      (at_key (2 * i) (omega arith) ∙ sym ex ∙ eqb-true x y (and_right good (eqb x y) t) ∙ ey ∙ sym (at_key (2 * i + 1) h))
      (even (and_left good (eqb x y) t)))

  pub evenly_all : InRange ns → (i : ℕ) → i ≡ length (vertices ns) → Evenly (line_keys ns) i → length (vertices ns) ≡ first_on second (vertices ns)
  evenly_all r i e even =
      let all = paired_all (line_keys ns) i (e ∙ sym long) even in
      sym long ∙ first_none (occurs_oddly (line_keys ns)) (length (line_keys ns)) refl (λ k h. all (get_or (line_keys ns) k 0)) ∙ first_odd_line second ns r

-- where a vertex on an odd line of some axis stands at place 0, that is the first
pub first_at_start : (axis : Axis) (l : List Corner) → 0 ≡ first_on axis l → 0 ≡ first (on_odd_line_at l) (length l)
first_at_start axis l e =
    is_first (on_odd_line_at l) (length l) 0
    (record {
      within = omega arith;
      before = λ k h. absurd (omega arith);
      found = λ h. either axis ((first_facts (λ i. odd_line axis l (at l i)) (length l) e).found h);
    })
  where
    either : (axis : Axis) → odd_line axis l (at l 0) ≡ true → on_odd_line_at l 0 ≡ true
    either focus h = ap (λ b. b || (odd_line first_shift l (at l 0) || odd_line second l (at l 0))) h
    either first_shift h = ap (λ b. odd_line focus l (at l 0) || (b || odd_line second l (at l 0))) h ∙ or-true (odd_line focus l (at l 0))
    either second h =
        ap (λ b. odd_line focus l (at l 0) || (odd_line first_shift l (at l 0) || b)) h ∙
        ap (λ b. odd_line focus l (at l 0) || b) (or-true (odd_line first_shift l (at l 0))) ∙
        or-true (odd_line focus l (at l 0))

-- the first vertex on an odd line of any axis is the least of the three
pub first_of_three : (l : List Corner) (a b d : ℕ) → a ≡ first_on focus l → b ≡ first_on first_shift l → d ≡ first_on second l →
    min a (min b d) ≡ first (on_odd_line_at l) (length l)
first_of_three l a b d ea eb ed =
    let n = length l in
    let p : Axis → ℕ → Bool = λ axis i. odd_line axis l (at l i) in
    is_first (on_odd_line_at l) n (min a (min b d))
    (first_or (p focus) (λ i. p first_shift i || p second i) n a (min b d) (first_facts (p focus) n ea)
    (first_or (p first_shift) (p second) n b d (first_facts (p first_shift) n eb) (first_facts (p second) n ed)))
