-- Laws of the vertices on a plane: in a list that rises they stand together, behind all lower ones.
--   first_below, passed_all                how many vertices lie below a bound before the first that does not
--   Climbs, rising_climbs                  no focus number below the one before it: what a list that rises has
--   keep_run, run_start, run_end           the vertices on a plane stand together, behind all with a lower focus number
--   before_through, count_le, leading_within, vertices_length    bounds
--   vertices_skip, numbers_take, numbers_part    from vertex to vertex, as numbers
--   plane_part, plane_start, plane_end     of a valid list: what the part holds, and where the two passes stop
use mir.Syntax.{w16}
use mir.Val.{SFits}
use mathlib.Core.Path.{◌≡◌, refl, sym, ◌∙◌, ap, ap₂}
use mathlib.Core.Bool.{Bool, true, false, not, ◌&&◌, ◌||◌, cond, true≢false}
use mathlib.Core.List.{List, [], ◌∷◌, map}
use Prim.Native.Nat.{ℕ, zero, suc, ◌+◌, ◌*◌, ◌-◌, ◌≤◌}
use native.Mathlib.Nat.{zero-add}
use native.Mathlib.Omega.{arith}
use borrow.Author.Tests.{not-false}
use lib.Dec.{ltb}
use lib.IntN.{ℤ, pos}
use lib.Signed.{le_z, lt_z}
use lib.ListN.{length, get_or, take, drop, length-drop}
use Rattle.std.specs.List.{prefix_len}
use Rattle.meaning.specs.declared.Corner.{Corner}
use Rattle.meaning.specs.Counting.{count, keep, All}
use Rattle.meaning.specs.Lists.{vertices, numbers, below, Rising, Valid}
use Rattle.meaning.proofs.Integers.{le_z_refl, le_z_trans, lt_z_le_z, lt_z_le, lt_z_not, and_left, not_yes}
use Rattle.meaning.proofs.Space.{all_map}
use Rattle.codes.specs.Lift.{lifted}
use Rattle.codes.proofs.Laws.{lifted_lt, lowered_lifted, number_fits_lem}
use Rattle.codes.proofs.Keys.{corner_numbers_lem}
use Rattle.codes.proofs.Tests.{leb_same}
use Rattle.lists.proofs.Vertices.{length_vertices}
use Rattle.asks.specs.Asks.{on_plane, before_plane, through_plane}
use Rattle.asks.specs.Passes.{under, leading}
use Rattle.asks.proofs.Passes.{level, vertex_of}

-- the vertices below a bound before the first that does not lie there, by their numbers
abbrev pub first_below : ℕ → List ℤ → Bool
first_below bound numbers = ltb (lifted (get_or numbers 0 (pos 0))) bound

pub passed_all : (bound : ℕ) (ls : List (List ℤ)) → prefix_len (first_below bound) ls ≡ leading (under bound) (map vertex_of ls)
passed_all bound [] = refl
passed_all bound (n ∷ ls) = ap (λ (m : ℕ). cond (first_below bound n) m 0) (omega (arith, passed_all bound ls))

-- ---- a list that rises climbs in focus

-- every focus number is at least m, and no focus number is below the one before it
abbrev pub Climbs : ℤ → List Corner → Type 0
Climbs m [] = Unit {0}
Climbs m (v ∷ l) = (le_z m v.focus ≡ true) × Climbs v.focus l

below_focus : (v w : Corner) → below v w ≡ true → le_z v.focus w.focus ≡ true
below_focus v w e = go (lt_z v.focus w.focus) refl e
  where
    go : (t : Bool) → lt_z v.focus w.focus ≡ t
        → (t || le_z v.focus w.focus && (lt_z v.first w.first || le_z v.first w.first && lt_z v.second w.second)) ≡ true
        → le_z v.focus w.focus ≡ true
    go true h k = lt_z_le_z v.focus w.focus h
    go false h k = and_left (le_z v.focus w.focus) _ k

rising_from : (v : Corner) (l : List Corner) → Rising (v ∷ l) → Climbs v.focus l
rising_from v [] h = tt
rising_from v (w ∷ l) h = (below_focus v w h.0, rising_from w l h.1)

-- the least number that a list climbs from
abbrev base : List Corner → ℤ
base [] = pos 0
base (v ∷ l) = v.focus

pub rising_climbs : (l : List Corner) → Rising l → Climbs (base l) l
rising_climbs [] h = tt
rising_climbs (v ∷ l) h = (le_z_refl v.focus, rising_from v l h)

-- ---- a test of the focus number that, once failed, fails from there on

module _ (q : ℤ → Bool) (stays : (a b : ℤ) → le_z a b ≡ true → q a ≡ false → q b ≡ false) where
  none_beyond : (m : ℤ) (l : List Corner) → Climbs m l → q m ≡ false → count (λ v. q v.focus) l ≡ 0
  none_beyond m [] h e = refl
  none_beyond m (v ∷ l) h e =
      let f = stays m v.focus h.0 e in
      ap (λ t. cond t (suc (count (λ w. q w.focus) l)) (count (λ w. q w.focus) l)) f ∙ none_beyond v.focus l h.1 f

  leading_count : (m : ℤ) (l : List Corner) → Climbs m l → leading (λ v. q v.focus) l ≡ count (λ v. q v.focus) l
  leading_count m [] h = refl
  leading_count m (v ∷ l) h = go (q v.focus) refl (leading_count v.focus l h.1)
    where
      p : Corner → Bool
      p w = q w.focus

      go : (t : Bool) → q v.focus ≡ t → leading p l ≡ count p l → cond t (suc (leading p l)) zero ≡ cond t (suc (count p l)) (count p l)
      go true e r = ap suc r
      go false e r = sym (none_beyond v.focus l h.1 e)

module _ (x : ℤ) where
  at_least : (a : ℤ) → lt_z a x ≡ false → le_z x a ≡ true
  at_least a e = not-false (le_z x a) (sym (lt_z_not a x) ∙ e)

  before_stays : (a b : ℤ) → le_z a b ≡ true → lt_z a x ≡ false → lt_z b x ≡ false
  before_stays a b h e = lt_z_not b x ∙ ap not (le_z_trans x a b (at_least a e) h)

  through_stays : (a b : ℤ) → le_z a b ≡ true → le_z a x ≡ false → le_z b x ≡ false
  through_stays a b h e = not_yes (le_z b x) (λ k. true≢false (sym (le_z_trans a b x h k) ∙ e))

  abbrev before : List Corner → ℕ
  before l = count (before_plane x) l

  abbrev through : List Corner → ℕ
  through l = count (through_plane x) l

  -- a vertex on the plane or beyond it has none of a lower focus number behind it
  none_before : (v : Corner) (l : List Corner) → Climbs v.focus l → lt_z v.focus x ≡ false → before (v ∷ l) ≡ 0
  none_before v l h e = none_beyond (λ z. lt_z z x) before_stays v.focus (v ∷ l) (le_z_refl v.focus, h) e

  -- of a list from the plane on, those on it stand in front
  keep_front : (m : ℤ) (l : List Corner) → Climbs m l → le_z x m ≡ true → keep (on_plane x) l ≡ take (through l) l
  keep_front m [] h e = refl
  keep_front m (v ∷ l) h e =
      let f = le_z_trans x m v.focus e h.0 in
      go (le_z v.focus x) refl f (keep_front v.focus l h.1 f)
    where
      go : (t : Bool) → le_z v.focus x ≡ t → le_z x v.focus ≡ true → keep (on_plane x) l ≡ take (through l) l
          → cond (t && le_z x v.focus) (v ∷ keep (on_plane x) l) (keep (on_plane x) l) ≡ take (cond t (suc (through l)) (through l)) (v ∷ l)
      go true k f r = ap (λ b. cond b (v ∷ keep (on_plane x) l) (keep (on_plane x) l)) f ∙ ap (v ∷◌) r
      go false k f r =
          let none : through l ≡ 0 = none_beyond (λ z. le_z z x) through_stays v.focus l h.1 k in
          r ∙ ap (λ n. take n l) none ∙ sym (ap (λ n. take n (v ∷ l)) none)

  -- of a list that climbs, those on the plane stand together, behind all before it
  pub keep_run : (m : ℤ) (l : List Corner) → Climbs m l → keep (on_plane x) l ≡ take (through l - before l) (drop (before l) l)
  keep_run m [] h = refl
  keep_run m (v ∷ l) h = go (lt_z v.focus x) refl (keep_run v.focus l h.1)
    where
      go : (t : Bool) → lt_z v.focus x ≡ t → keep (on_plane x) l ≡ take (through l - before l) (drop (before l) l)
          → keep (on_plane x) (v ∷ l) ≡ take (through (v ∷ l) - before (v ∷ l)) (drop (before (v ∷ l)) (v ∷ l))
      go true e r =
          let lower : before (v ∷ l) ≡ suc (before l) = ap (λ t. cond t (suc (before l)) (before l)) e in
          let more : through (v ∷ l) ≡ suc (through l) = ap (λ t. cond t (suc (through l)) (through l)) (lt_z_le_z v.focus x e) in
          let off : on_plane x v ≡ false = ap₂ ◌&&◌ (lt_z_le_z v.focus x e) (lt_z_le v.focus x e) in
          let gap : through l - before l ≡ through (v ∷ l) - before (v ∷ l) = omega arith in
          ap (λ t. cond t (v ∷ keep (on_plane x) l) (keep (on_plane x) l)) off
          ∙ r
          ∙ ap₂ (λ n k. take n (drop k (v ∷ l))) gap (sym lower)
      go false e r =
          let none : before (v ∷ l) ≡ 0 = none_before v l h.1 e in
          let all : through (v ∷ l) ≡ through (v ∷ l) - before (v ∷ l) = omega arith in
          keep_front v.focus (v ∷ l) (le_z_refl v.focus, h.1) (at_least v.focus e)
          ∙ ap₂ (λ n k. take n (drop k (v ∷ l))) all (sym none)

  -- passing over the plane from its start reaches its end
  pub run_end : (m : ℤ) (l : List Corner) → Climbs m l → before l + leading (through_plane x) (drop (before l) l) ≡ through l
  run_end m [] h = refl
  run_end m (v ∷ l) h = go (lt_z v.focus x) refl (run_end v.focus l h.1)
    where
      go : (t : Bool) → lt_z v.focus x ≡ t → before l + leading (through_plane x) (drop (before l) l) ≡ through l
          → before (v ∷ l) + leading (through_plane x) (drop (before (v ∷ l)) (v ∷ l)) ≡ through (v ∷ l)
      go true e r =
          let lower : before (v ∷ l) ≡ suc (before l) = ap (λ t. cond t (suc (before l)) (before l)) e in
          let more : through (v ∷ l) ≡ suc (through l) = ap (λ t. cond t (suc (through l)) (through l)) (lt_z_le_z v.focus x e) in
          ap (λ k. k + leading (through_plane x) (drop k (v ∷ l))) lower ∙ omega (arith, r, more)
      go false e r =
          ap (λ k. k + leading (through_plane x) (drop k (v ∷ l))) (none_before v l h.1 e)
          ∙ zero-add (leading (through_plane x) (v ∷ l))
          ∙ leading_count (λ z. le_z z x) through_stays v.focus (v ∷ l) (le_z_refl v.focus, h.1)

  pub run_start : (m : ℤ) (l : List Corner) → Climbs m l → leading (before_plane x) l ≡ before l
  run_start m l h = leading_count (λ z. lt_z z x) before_stays m l h

  pub before_through : (l : List Corner) → before l ≤ through l
  before_through [] = omega arith
  before_through (v ∷ l) = go (lt_z v.focus x) refl (le_z v.focus x) refl (before_through l)
    where
      go : (s : Bool) → lt_z v.focus x ≡ s → (t : Bool) → le_z v.focus x ≡ t → before l ≤ through l
          → cond s (suc (before l)) (before l) ≤ cond t (suc (through l)) (through l)
      go true e true f r = omega arith
      go true e false f r = absurd (true≢false (sym (lt_z_le_z v.focus x e) ∙ f))
      go false e true f r = omega arith
      go false e false f r = omega arith

pub count_le : {A : Type 0} (p : A → Bool) (l : List A) → count p l ≤ length l
count_le p [] = omega arith
count_le p (v ∷ l) = go (p v) (count_le p l)
  where
    go : (t : Bool) → count p l ≤ length l → cond t (suc (count p l)) (count p l) ≤ suc (length l)
    go true h = omega arith
    go false h = omega arith

leading_le : {A : Type 0} (p : A → Bool) (l : List A) → leading p l ≤ length l
leading_le p [] = omega arith
leading_le p (v ∷ l) = go (p v) (leading_le p l)
  where
    go : (t : Bool) → leading p l ≤ length l → cond t (suc (leading p l)) zero ≤ suc (length l)
    go true h = omega arith
    go false h = omega arith

leading_all : {A : Type 0} (p q : A → Bool) (l : List A) → All (λ v. p v ≡ q v) l → leading p l ≡ leading q l
leading_all p q [] h = refl
leading_all p q (v ∷ l) h = ap₂ (λ t n. cond t (suc n) zero) h.0 (leading_all p q l h.1)

-- ---- vertices and their numbers

three_more : (k : ℕ) → 3 * suc k ≡ suc (suc (suc (3 * k)))
three_more k = omega arith

pub vertices_length : (ns : List ℤ) → 3 * length (vertices ns) ≤ length ns
vertices_length ns = omega (arith, length_vertices ns)

-- the vertices that are passed lie within the list
pub leading_within : (p : Corner → Bool) (ns : List ℤ) → 0 + 3 * leading p (vertices (drop 0 ns)) ≤ length ns
leading_within p ns = omega (arith, leading_le p (vertices ns), vertices_length ns)

pub vertices_skip : (ns : List ℤ) (k : ℕ) → k ≤ length (vertices ns) → vertices (drop (3 * k) ns) ≡ drop k (vertices ns)
vertices_skip ns zero h = refl
vertices_skip [] (suc k) h = absurd (omega arith)
vertices_skip (x ∷ []) (suc k) h = absurd (omega arith)
vertices_skip (x ∷ y ∷ []) (suc k) h = absurd (omega arith)
vertices_skip (x ∷ y ∷ z ∷ ns) (suc k) h = ap (λ n. vertices (drop n (x ∷ y ∷ z ∷ ns))) (three_more k) ∙ vertices_skip ns k (omega arith)

pub numbers_take : (ns : List ℤ) (k : ℕ) → k ≤ length (vertices ns) → take (3 * k) ns ≡ numbers (take k (vertices ns))
numbers_take ns zero h = refl
numbers_take [] (suc k) h = absurd (omega arith)
numbers_take (x ∷ []) (suc k) h = absurd (omega arith)
numbers_take (x ∷ y ∷ []) (suc k) h = absurd (omega arith)
numbers_take (x ∷ y ∷ z ∷ ns) (suc k) h = ap (λ n. take n (x ∷ y ∷ z ∷ ns)) (three_more k) ∙ ap (λ l. x ∷ y ∷ z ∷ l) (numbers_take ns k (omega arith))

-- from vertex b to vertex e, as numbers
pub numbers_part : (ns : List ℤ) (b e : ℕ) → b ≤ e → e ≤ length (vertices ns)
    → take (3 * e - 3 * b) (drop (3 * b) ns) ≡ numbers (take (e - b) (drop b (vertices ns)))
numbers_part ns b e h k =
    let skip = vertices_skip ns b (omega arith) in
    let left : length (vertices (drop (3 * b) ns)) ≡ length (vertices ns) - b = ap length skip ∙ length-drop b (vertices ns) in
    let gap : 3 * e - 3 * b ≡ 3 * (e - b) = omega arith in
    ap (λ n. take n (drop (3 * b) ns)) gap
    ∙ numbers_take (drop (3 * b) ns) (e - b) (omega arith)
    ∙ ap (λ l. numbers (take (e - b) l)) skip

-- ---- the plane of a valid list

module _ (ns : List ℤ) (x : ℤ) (valid : Valid (vertices ns)) where
  abbrev l : List Corner
  l = vertices ns

  climbs : Climbs (base l) l
  climbs = rising_climbs l valid.rising

  -- where the plane starts and ends, in the list
  pub plane_part : take (3 * through x l - 3 * before x l) (drop (3 * before x l) ns) ≡ numbers (keep (on_plane x) l)
  plane_part =
      numbers_part ns (before x l) (through x l) (before_through x l) (count_le (through_plane x) l)
      ∙ sym (ap numbers (keep_run x (base l) l climbs))

  module _ (fits : SFits w16 x) where
    under_before : All (λ v. under (lifted x) v ≡ before_plane x v) l
    under_before = all_map l (λ v e. sym (lifted_lt v.focus x (number_fits_lem v.focus (corner_numbers_lem v e).one) fits)) valid.corners

    under_through : (v : Corner) → under (lifted x + 1) v ≡ through_plane x v
    under_through v =
        let y = v.focus in
        leb_same (suc (lifted y)) (lifted x + 1) (lifted y) (lifted x) (λ h. omega arith) (λ h. omega arith)
        ∙ sym (level y (lifted x))
        ∙ ap (le_z y) (lowered_lifted x fits)

    -- what the two passes reach
    pub plane_start : (s : ℕ) → s ≡ 0 + 3 * leading (under (lifted x)) (vertices (drop 0 ns)) → s ≡ 3 * before x l
    plane_start s e = e ∙ zero-add _ ∙ ap (3 *◌) (leading_all (under (lifted x)) (before_plane x) l under_before ∙ run_start x (base l) l climbs)

    pub plane_end : (s e : ℕ) → s ≡ 3 * before x l → e ≡ s + 3 * leading (under (lifted x + 1)) (vertices (drop s ns)) → e ≡ 3 * through x l
    plane_end s e p f =
        let rest = drop (before x l) l in
        let tests : under (lifted x + 1) ≡ through_plane x = λ i v. under_through v i in
        let same : leading (under (lifted x + 1)) (vertices (drop s ns)) ≡ leading (through_plane x) rest =
        ap₂ leading tests (ap (λ n. vertices (drop n ns)) p ∙ vertices_skip ns (before x l) (count_le (before_plane x) l)) in
        omega (arith, f, p, same, run_end x (base l) l climbs)
