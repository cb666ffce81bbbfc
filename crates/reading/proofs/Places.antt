-- What refusal 10 names: the first line from the top, each up to its 0A, that is not the frame due there (document 01, "checks in order";
-- docs/DECISIONS.md, 1 to 3 and 7). Lines are told by how many lines stand before them, so the place, from 1, is one more.
--   Counts                of a map's text: line 1 holds a count that is not too large
--   MapTen, map_ten       line 1 is not the count; a vertex's line is ill formed and all before it are well formed; or the closing line is
--   ten_map               and back: such a line gives 10, whatever the sum and the list are
--   WishTen, wish_ten     of the wishes behind a map that is read whole: a wish's line is ill formed and all before it are well formed; or it
--                         is the 257th, and all before it are well formed
--   ten_wish              and back: such a line gives 10
--   Read, map_read        a map's text that is read whole has well formed lines throughout, and its list is valid
use mathlib.Core.Path.{◌≡◌, refl, sym, ◌∙◌, ap, ap₂, subst}
use mathlib.Core.Logic.{◌⊎◌, inl, inr}
use mathlib.Core.Bool.{Bool, true, false, ◌||◌, cond, or-true, true≢false, false≢true}
use mathlib.Core.List.{List}
use Prim.Native.Nat.{ℕ, ◌+◌, ◌*◌, ◌/◌, ◌≤◌, ◌<◌}
use native.Mathlib.Omega.{arith}
use borrow.Author.Tests.{ltb-true, ltb-false, leb-true, le-leb, lt-leb}
use lib.Dec.{ltb, leb, eqb}
use lib.IntN.{ℤ}
use lib.ListN.{length}
use Rattle.meaning.specs.Counting.{first}
use Rattle.meaning.specs.Lists.{vertices, most_vertices}
use Rattle.meaning.specs.Verdicts.{Verdict, Valid, verdict, passes, refusal_number, refusal_place}
use Rattle.meaning.specs.declared.Refusal.TheVariants.{NotTriples, TooMany, OutOfRange, NotRising, OddLine}
use Rattle.meaning.proofs.First.{first_is, is_first}
use Rattle.meaning.proofs.Checked.{passed}
use Rattle.std.specs.Prelude.{Option, Some, None, Ok, Err}
use Rattle.frames.specs.Frames.{line_end, long_line, one_at}
use Rattle.reading.specs.Reading.{Text, refused, whole, count_tag, vertex_tag, sum_tag, wish_tag, ill_at, numbers_from, unless_ill}
use Rattle.reading.specs.Reading.{too_many, ill_formed, wrong_sum, vertex_place, sum_place}
use Rattle.reading.specs.Reading.{closing_sum, by_verdict, closed, counted, map_text, wish_place, wish_lines, most_wishes, wish_text}
use Rattle.lists.proofs.Vertices.{length_vertices}
use Rattle.reading.proofs.Runs.{numbers_long}
use Rattle.reading.proofs.Order.{unless_found, map_ill_count, map_counted, count_ill_vertex, count_ill_sum}
use Rattle.reading.proofs.ByEnds.{Begins, begins_one, Frame, three_frame, frame_three, Well, Bad, count_bad, vertices_begin}
use Rattle.reading.proofs.ByEnds.{run_begins, run_well, run_bad, bad_one, bad_three, run_lines, sum_begins, sum_bad, wishes_begin, wish_there}

-- n lines of a tag behind so many lines are well formed
abbrev pub AllWell : List ℕ → ℕ → ℕ → ℕ → Type 0
AllWell s tag lines n = (i : ℕ) → i < n → Well s tag 12 (lines + i)

pub record Counts (s : List ℕ) (n : ℕ) : Type 0 where
  pub count : Some n ≡ one_at s count_tag 0
  pub few : n ≤ most_vertices

pub data MapTen (s : List ℕ) (p : ℕ) : Type 0 where
  at_count : p ≡ 1 → Bad s count_tag 4 0 → MapTen s p
  at_vertex : (n r : ℕ) → Counts s n → r < n → p ≡ 2 + r → AllWell s vertex_tag 1 r → Bad s vertex_tag 12 (1 + r) → MapTen s p
  at_sum : (n : ℕ) → Counts s n → p ≡ n + 2 → AllWell s vertex_tag 1 n → Bad s sum_tag 4 (1 + n) → MapTen s p

-- no other refusal of a map is 10
not_verdict : (v : Verdict) (ns : List ℤ) (p : ℕ) → refused ill_formed p ≡ by_verdict ns v → ⊥
not_verdict (Ok tt) ns p e = let z : ◌≡◌ {A = ℕ} 0 1 = cc in omega arith
not_verdict (Err NotTriples) ns p e = let z : ◌≡◌ {A = ℕ} ill_formed 1 = cc in omega arith
not_verdict (Err TooMany) ns p e = let z : ◌≡◌ {A = ℕ} ill_formed 2 = cc in omega arith
not_verdict (Err (OutOfRange i)) ns p e = let z : ◌≡◌ {A = ℕ} ill_formed 3 = cc in omega arith
not_verdict (Err (NotRising i)) ns p e = let z : ◌≡◌ {A = ℕ} ill_formed 4 = cc in omega arith
not_verdict (Err (OddLine i)) ns p e = let z : ◌≡◌ {A = ℕ} ill_formed 5 = cc in omega arith

not_other : (a b p q : ℕ) → (a ≡ b → ⊥) → refused a p ≡ refused b q → ⊥
not_other a b p q h e = h (cc)

same_place : (p q : ℕ) → refused ill_formed p ≡ refused ill_formed q → p ≡ q
same_place p q e = cc

not_end : (tag : ℕ) → line_end < tag → tag ≡ line_end → ⊥
not_end tag h e = omega arith

module _ (s : List ℕ) (p : ℕ) where
  -- what the lines behind those of n vertices come to
  abbrev after : ℕ → Text
  after n = closed n (numbers_from s vertex_tag vertex_place n) (one_at s sum_tag (sum_place n))

  module _ (n : ℕ) (cn : Counts s n) where
    abbrev ill : ℕ → Bool
    ill = ill_at s vertex_tag vertex_place

    abbrev ns : List ℤ
    ns = numbers_from s vertex_tag vertex_place n

    well : (r : ℕ) → r ≤ first ill n → AllWell s vertex_tag 1 r
    well r h i k = run_well s vertex_tag vertex_place 1 (not_end vertex_tag (omega arith)) (vertices_begin s cn.count) n i (omega arith)

    by_sum : (m : ℕ) (t : Bool) → refused ill_formed p ≡ cond t (by_verdict ns (verdict ns)) (refused wrong_sum 0) → ⊥
    by_sum m true e = not_verdict (verdict ns) ns p e
    by_sum m false e = not_other ill_formed wrong_sum p 0 (λ k. omega arith) e

    by_closing : (o : Option ℕ) → one_at s sum_tag (sum_place n) ≡ o → n ≤ first ill n → refused ill_formed p ≡ closed n ns o → MapTen s p
    by_closing None eo h e =
        let f = first_is ill n in
        at_sum n cn (same_place p (n + 2) e) (well n h) (sum_bad s cn.count (λ k l. f.before k (omega arith)) (sym eo))
    by_closing (Some m) eo h e = absurd (by_sum m (eqb m (closing_sum n ns)) e)

    by_lines : (t : Bool) → ltb (first ill n) n ≡ t → refused ill_formed p ≡ cond t (refused ill_formed (2 + first ill n)) (after n) → MapTen s p
    by_lines true h e =
        let k = ltb-true (first ill n) n h in
        at_vertex n (first ill n) cn k (same_place p (2 + first ill n) e) (well (first ill n) (omega arith))
        (run_bad s vertex_tag vertex_place 1 (not_end vertex_tag (omega arith)) (vertices_begin s cn.count) n k)
    by_lines false h e = by_closing (one_at s sum_tag (sum_place n)) refl (ltb-false (first ill n) n h) e

  by_many : (n : ℕ) → Some n ≡ one_at s count_tag 0 → (t : Bool) → ltb most_vertices n ≡ t
      → refused ill_formed p ≡ cond t (refused too_many 0) (unless_ill (ill_at s vertex_tag vertex_place) n 2 (after n)) → MapTen s p
  by_many n en true h e = absurd (not_other ill_formed too_many p 0 (λ k. omega arith) e)
  by_many n en false h e =
      by_lines n (record { count = en; few = ltb-false most_vertices n h }) (ltb (first (ill_at s vertex_tag vertex_place) n) n) refl e

  by_count : (o : Option ℕ) → one_at s count_tag 0 ≡ o → refused ill_formed p ≡ counted s o → MapTen s p
  by_count None eo e = at_count (same_place p 1 e) (count_bad s (sym eo))
  by_count (Some n) eo e = by_many n (sym eo) (ltb most_vertices n) refl e

  pub map_ten : refused ill_formed p ≡ map_text s → MapTen s p
  unfolding map_text
  map_ten e = by_count (one_at s count_tag 0) refl e

-- n lines that are well formed and one behind them that is not: it is the first that is read so
first_bad : (s : List ℕ) (tag start lines n r : ℕ) → line_end < tag → Begins s lines start → r < n → AllWell s tag lines r
    → Bad s tag 12 (lines + r) → r ≡ first (ill_at s tag start) n
first_bad s tag start lines n r t from h w b =
    let other = not_end tag t in
    let read = run_lines s tag start lines other from r w in
    let here = run_begins s tag start lines other from r read in
    is_first (ill_at s tag start) n r
    (record { within = omega arith; before = read; found = λ l. bad_three s tag (start + long_line * r) (lines + r) here other b })

pub ten_map : (s : List ℕ) (p : ℕ) → MapTen s p → refused ill_formed p ≡ map_text s
ten_map s p (at_count e b) = ap (refused ill_formed) e ∙ map_ill_count s (bad_one s count_tag 0 0 refl (not_end count_tag (omega arith)) b)
ten_map s p (at_vertex n r c h e w b) =
    ap (refused ill_formed) e ∙
    map_counted s c.count
    (count_ill_vertex s n c.few (first_bad s vertex_tag vertex_place 1 n r (omega arith) (vertices_begin s c.count) h w b) h)
ten_map s p (at_sum n c e w b) =
    let read = run_lines s vertex_tag vertex_place 1 (not_end vertex_tag (omega arith)) (vertices_begin s c.count) n w in
    ap (refused ill_formed) e ∙
    map_counted s c.count
    (count_ill_sum s n c.few (none_bad s vertex_tag vertex_place n read) (omega arith)
    (bad_one s sum_tag (sum_place n) (1 + n) (sum_begins s c.count read) (not_end sum_tag (omega arith)) b))
  where
    none_bad : (s : List ℕ) (tag start n : ℕ) → ((i : ℕ) → i < n → ill_at s tag start i ≡ false) → n ≡ first (ill_at s tag start) n
    none_bad s tag start n read =
        is_first (ill_at s tag start) n n (record { within = omega arith; before = read; found = λ l. absurd (omega arith) })

-- ---- the wishes, where a map of n vertices stands before them

-- a line of theirs is due where there is a byte
pub record WishTen (s : List ℕ) (n p : ℕ) : Type 0 where
  pub wish : ℕ
  pub few : wish ≤ most_wishes
  pub place : p ≡ n + 3 + wish
  pub before : AllWell s wish_tag (n + 2) wish
  pub start : ℕ
  pub begins : Begins s (n + 2 + wish) start
  pub due : start < length s
  pub why : (wish ≡ most_wishes) ⊎ (Frame s wish_tag 12 start → ⊥)

module _ (s : List ℕ) (n : ℕ) (from : Begins s (n + 2) (wish_place n)) where
  abbrev wish_ill : ℕ → Bool
  wish_ill = ill_at s wish_tag (wish_place n)

  abbrev bad : ℕ → Bool
  bad i = leb most_wishes i || wish_ill i

  other : wish_tag ≡ line_end → ⊥
  other = not_end wish_tag (omega arith)

  -- the line of wish i, behind wishes that are well formed
  wish_begins : (i : ℕ) → ((k : ℕ) → k < i → wish_ill k ≡ false) → Begins s (n + 2 + i) (wish_place n + long_line * i)
  wish_begins i h = run_begins s wish_tag (wish_place n) (n + 2) other from i h

  -- why the first that is refused is refused
  why_bad : (i : ℕ) (t u : Bool) → leb most_wishes i ≡ t → wish_ill i ≡ u → (t || u) ≡ true → i ≤ most_wishes
      → (i ≡ most_wishes) ⊎ (Frame s wish_tag 12 (wish_place n + long_line * i) → ⊥)
  why_bad i true u e f h few = inl (omega (arith, leb-true most_wishes i e))
  why_bad i false true e f h few = inr (λ k. true≢false (sym f ∙ frame_three s wish_tag (wish_place n + long_line * i) k))
  why_bad i false false e f h few = absurd (false≢true h)

  by_wishes : (p : ℕ) (t : Bool) → ltb (first bad (wish_lines s n)) (wish_lines s n) ≡ t
      → refused ill_formed p ≡ cond t (refused ill_formed (n + 3 + first bad (wish_lines s n))) (whole (numbers_from s wish_tag (wish_place n) (wish_lines s n)))
      → WishTen s n p
  by_wishes p true h k =
      let i = first bad (wish_lines s n) in
      let f = first_is bad (wish_lines s n) in
      let due = ltb-true i (wish_lines s n) h in
      let few : i ≤ most_wishes = below_limit i (ltb most_wishes i) refl (f.before most_wishes) in
      let well : (j : ℕ) → j < i → wish_ill j ≡ false = λ j l. (or_false (leb most_wishes j) (wish_ill j) (f.before j l)).1 in
      record {
        wish = i;
        few = few;
        place = same_place p (n + 3 + i) k;
        before = λ j l.
            record {
              place = wish_place n + long_line * j;
              begins = wish_begins j (λ m o. well m (omega arith));
              frame = three_frame s wish_tag (wish_place n + long_line * j) other (well j l);
            };
        start = wish_place n + long_line * i;
        begins = wish_begins i well;
        due = wish_there s n i due;
        why = why_bad i (leb most_wishes i) (wish_ill i) refl refl (f.found due) few;
      }
    where
      or_false : (a b : Bool) → (a || b) ≡ false → (a ≡ false) × (b ≡ false)
      or_false true b e = absurd (true≢false e)
      or_false false b e = (refl, e)

      -- the limit itself is refused, so no later one is the first
      below_limit : (i : ℕ) (t : Bool) → ltb most_wishes i ≡ t → (most_wishes < i → bad most_wishes ≡ false) → i ≤ most_wishes
      below_limit i true e g =
          let l = ltb-true most_wishes i e in
          absurd (true≢false (sym (le-leb most_wishes most_wishes (omega arith)) ∙ (or_false (leb most_wishes most_wishes) (wish_ill most_wishes) (g l)).0))
      below_limit i false e g = ltb-false most_wishes i e
  by_wishes p false h k = let z : ◌≡◌ {A = ℕ} 0 1 = cc in absurd (omega arith)

  pub wish_ten : (p : ℕ) → refused ill_formed p ≡ wish_text s n → WishTen s n p
  unfolding wish_text
  wish_ten p e = by_wishes p (ltb (first bad (wish_lines s n)) (wish_lines s n)) refl e

  pub ten_wish : (p : ℕ) → WishTen s n p → refused ill_formed p ≡ wish_text s n
  unfolding wish_text
  ten_wish p w =
      let i = w.wish in
      let well = run_lines s wish_tag (wish_place n) (n + 2) other from i w.before in
      let here : w.start ≡ wish_place n + long_line * i = begins_one s (n + 2 + i) w.start (wish_place n + long_line * i) w.begins (wish_begins i well) in
      let due : i < wish_lines s n = omega (arith, here, w.due) in
      let is : i ≡ first bad (wish_lines s n) =
      is_first bad (wish_lines s n) i
      (record {
        within = omega arith;
        before = λ k l. ap₂ ◌||◌ (lt-leb most_wishes k (omega (arith, w.few))) (well k l);
        found = λ l. refused_so i here w.why;
      }) in
      ap (refused ill_formed) w.place ∙ unless_found bad (wish_lines s n) (n + 3) i (whole (numbers_from s wish_tag (wish_place n) (wish_lines s n))) is due
    where
      refused_so : (i : ℕ) → w.start ≡ wish_place n + long_line * i → (i ≡ most_wishes) ⊎ (Frame s wish_tag 12 w.start → ⊥) → bad i ≡ true
      refused_so i here (inl e) = ap (◌|| wish_ill i) (le-leb most_wishes i (omega (arith, e)))
      refused_so i here (inr none) = by (wish_ill i) refl
        where
          by : (t : Bool) → wish_ill i ≡ t → (leb most_wishes i || t) ≡ true
          by true e = or-true (leb most_wishes i)
          by false e = absurd (none (subst (Frame s wish_tag 12) (sym here) (three_frame s wish_tag (wish_place n + long_line * i) other e)))

-- ---- a map that is read whole

-- line 1 holds a count, that many lines their vertices and the next a sum, and the list is valid
pub record Read (s : List ℕ) (ns : List ℤ) : Type 0 where
  pub count : ℕ
  pub counts : Some count ≡ one_at s count_tag 0
  pub lines : (k : ℕ) → k < count → ill_at s vertex_tag vertex_place k ≡ false
  pub sum : ℕ
  pub sums : Some sum ≡ one_at s sum_tag (sum_place count)
  pub numbers : ns ≡ numbers_from s vertex_tag vertex_place count
  pub valid : verdict ns ≡ Valid

not_refused : (ns : List ℤ) (a b : ℕ) → whole ns ≡ refused a b → ⊥
not_refused ns a b e = let z : ◌≡◌ {A = ℕ} 0 1 = cc in omega arith

same_numbers : (ns ms : List ℤ) → whole ns ≡ whole ms → ns ≡ ms
same_numbers ns ms e = cc

module _ (s : List ℕ) (ns : List ℤ) where
  past : (t : Bool) (a b : ℕ) (next : Text) → whole ns ≡ cond t (refused a b) next → (t ≡ false) × (whole ns ≡ next)
  past true a b next e = absurd (not_refused ns a b e)
  past false a b next e = (refl, e)

  through : (t : Bool) (a b : ℕ) (next : Text) → whole ns ≡ cond t next (refused a b) → (t ≡ true) × (whole ns ≡ next)
  through true a b next e = (refl, e)
  through false a b next e = absurd (not_refused ns a b e)

  module _ (n : ℕ) (en : Some n ≡ one_at s count_tag 0) (all : n ≤ first (ill_at s vertex_tag vertex_place) n) where
    read_closing : (o : Option ℕ) → one_at s sum_tag (sum_place n) ≡ o → whole ns ≡ closed n (numbers_from s vertex_tag vertex_place n) o → Read s ns
    read_closing None eo e = absurd (not_refused ns ill_formed (n + 2) e)
    read_closing (Some m) eo e =
        let ms = numbers_from s vertex_tag vertex_place n in
        let v = verdict ms in
        let f = first_is (ill_at s vertex_tag vertex_place) n in
        let (right, k) = through (eqb m (closing_sum n ms)) wrong_sum 0 (by_verdict ms v) e in
        let (none, l) = through (passes v) (refusal_number v) (refusal_place v) (whole ms) k in
        record {
          count = n;
          counts = en;
          lines = λ k h. f.before k (omega arith);
          sum = m;
          sums = sym eo;
          numbers = same_numbers ns ms l;
          valid = ap verdict (same_numbers ns ms l) ∙ passed v none;
        }

  read_count : (o : Option ℕ) → one_at s count_tag 0 ≡ o → whole ns ≡ counted s o → Read s ns
  read_count None eo e = absurd (not_refused ns ill_formed 1 e)
  read_count (Some n) eo e =
      let r = first (ill_at s vertex_tag vertex_place) n in
      let after = closed n (numbers_from s vertex_tag vertex_place n) (one_at s sum_tag (sum_place n)) in
      let (few, k) = past (ltb most_vertices n) too_many 0 (unless_ill (ill_at s vertex_tag vertex_place) n 2 after) e in
      let (all, l) = past (ltb r n) ill_formed (2 + r) after k in
      read_closing n (sym eo) (ltb-false r n all) (one_at s sum_tag (sum_place n)) refl l

  pub map_read : whole ns ≡ map_text s → Read s ns
  unfolding map_text
  map_read e = read_count (one_at s count_tag 0) refl e

  -- the wishes' lines begin behind the map's
  pub read_begins : Read s ns → Begins s (length (vertices ns) + 2) (wish_place (length (vertices ns)))
  read_begins r =
      let n : length (vertices ns) ≡ r.count =
      length_vertices ns ∙ ap (λ l. length l / 3) r.numbers ∙ omega (arith, numbers_long s vertex_tag vertex_place r.count r.lines) in
      subst (λ k. Begins s (k + 2) (wish_place k)) (sym n) (wishes_begin s r.counts r.lines r.sums)
