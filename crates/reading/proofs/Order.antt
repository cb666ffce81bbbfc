-- The order of the reader's checks: what the text comes to, by the first check that fails.
--   map_ill_count, map_counted       the text of a map, by its line 1
--   count_many .. sum_right          what follows a count
--   most_vertices_lem                    the most vertices are 1,024
--   some_of_ok                       a number that is there, or why there is none: where it is the number
--   first_within                     the first of the places that are past a limit or pass a test
--   wish_ill, wish_all               the text of the wishes
--   wish_few                         if it is well formed they are at most 256
use mathlib.Core.Path.{◌≡◌, refl, sym, ◌∙◌, ap, ap₂, subst}
use mathlib.Core.Bool.{Bool, true, false, ◌||◌, cond, or-true}
use mathlib.Core.List.{List, []}
use Prim.Native.Nat.{ℕ, ◌+◌, ◌*◌, ◌≤◌, ◌<◌, min}
use native.Mathlib.Omega.{arith}
use borrow.Author.Tests.{lt-ltb, le-ltb, lt-leb, leb-false, eq-eqb, ne_eqb}
use lib.Dec.{ltb, leb, eqb}
use lib.IntN.{ℤ}
use lib.ListN.{length, take}
use Rattle.meaning.specs.Counting.{first}
use Rattle.meaning.specs.Lists.{most_vertices}
use Rattle.meaning.specs.Verdicts.{verdict}
use Rattle.meaning.proofs.First.{First, first_is, is_first}
use Rattle.std.specs.Prelude.{Option, Some, None, Result, Ok, Err, ok_or}
use Rattle.frames.specs.Frames.{one_at}
use Rattle.reading.specs.Reading.{Text, refused, whole, count_tag, vertex_tag, sum_tag, wish_tag, ill_at, numbers_from, unless_ill}
use Rattle.reading.specs.Reading.{too_many, ill_formed, wrong_sum, vertex_place, sum_place}
use Rattle.reading.specs.Reading.{closing_sum, by_verdict, closed, counted, map_text, wish_place, wish_lines, most_wishes, wish_text}

-- ---- a run of lines

pub unless_found : (p : ℕ → Bool) (n line r : ℕ) (next : Text) → r ≡ first p n → r < n → refused ill_formed (line + r) ≡ unless_ill p n line next
unless_found p n line r next e h =
    ap (λ k. refused ill_formed (line + k)) e ∙
    sym (ap (λ t. cond t (refused ill_formed (line + first p n)) next) (lt-ltb (first p n) n (subst (◌< n) e h)))

unless_none : (p : ℕ → Bool) (n line r : ℕ) (next : Text) → r ≡ first p n → n ≤ r → next ≡ unless_ill p n line next
unless_none p n line r next e h =
    sym (ap (λ t. cond t (refused ill_formed (line + first p n)) next) (le-ltb (first p n) n (subst (n ≤◌) e h)))

-- ---- a map

pub most_vertices_lem : most_vertices ≡ 1024
unfolding most_vertices
most_vertices_lem = refl

pub some_of_ok : {W : Type 0} (o : Option ℕ) (why : W) (n : ℕ) → Ok n ≡ ok_or o why → Some n ≡ o
some_of_ok {W} (Some m) why n e = let same : ◌≡◌ {A = Result ℕ W} (Ok n) (Ok m) = e in cc
some_of_ok {W} None why n e = let none : ◌≡◌ {A = Result ℕ W} (Ok n) (Err why) = e in cc

module _ (s : List ℕ) where
  pub map_ill_count : None ≡ one_at s count_tag 0 → refused ill_formed 1 ≡ map_text s
  unfolding map_text
  map_ill_count e = ap (counted s) e

  -- line 1 holds a count
  pub map_counted : {n : ℕ} {t : Text} → Some n ≡ one_at s count_tag 0 → t ≡ counted s (Some n) → t ≡ map_text s
  unfolding map_text
  map_counted en e = e ∙ ap (counted s) en

  module _ (n : ℕ) where
    abbrev after : Text
    after = closed n (numbers_from s vertex_tag vertex_place n) (one_at s sum_tag (sum_place n))

    by_count : (t : Bool) → ltb most_vertices n ≡ t → cond t (refused too_many 0) (unless_ill (ill_at s vertex_tag vertex_place) n 2 after) ≡ counted s (Some n)
    by_count t e = ap (λ u. cond u (refused too_many 0) (unless_ill (ill_at s vertex_tag vertex_place) n 2 after)) (sym e)

    pub count_many : most_vertices < n → refused too_many 0 ≡ counted s (Some n)
    count_many h = by_count true (lt-ltb most_vertices n h)

    module _ (h : n ≤ most_vertices) {r : ℕ} (er : r ≡ first (ill_at s vertex_tag vertex_place) n) where
      few : unless_ill (ill_at s vertex_tag vertex_place) n 2 after ≡ counted s (Some n)
      few = by_count false (le-ltb most_vertices n h)

      pub count_ill_vertex : r < n → refused ill_formed (2 + r) ≡ counted s (Some n)
      count_ill_vertex k = unless_found (ill_at s vertex_tag vertex_place) n 2 r after er k ∙ few

      module _ (k : n ≤ r) where
        lines_well : after ≡ counted s (Some n)
        lines_well = unless_none (ill_at s vertex_tag vertex_place) n 2 r after er k ∙ few

        pub count_ill_sum : None ≡ one_at s sum_tag (sum_place n) → refused ill_formed (n + 2) ≡ counted s (Some n)
        count_ill_sum e = ap (closed n (numbers_from s vertex_tag vertex_place n)) e ∙ lines_well

        module _ {m : ℕ} (em : Some m ≡ one_at s sum_tag (sum_place n)) {ns : List ℤ} (es : ns ≡ numbers_from s vertex_tag vertex_place n) where
          by_sum : (t : Bool) → eqb m (closing_sum n ns) ≡ t → cond t (by_verdict ns (verdict ns)) (refused wrong_sum 0) ≡ counted s (Some n)
          by_sum t e =
              ap (λ u. cond u (by_verdict ns (verdict ns)) (refused wrong_sum 0)) (sym e) ∙
              ap₂ (closed n) es em ∙ lines_well

          pub sum_wrong : (m ≡ closing_sum n ns → ⊥) → refused wrong_sum 0 ≡ counted s (Some n)
          sum_wrong d = by_sum false (ne_eqb m (closing_sum n ns) d)

          pub sum_right : m ≡ closing_sum n ns → by_verdict ns (verdict ns) ≡ counted s (Some n)
          sum_right e = by_sum true (eq-eqb m (closing_sum n ns) e)

-- ---- wishes

-- past a limit every place counts, so the first is that below the limit, or the limit
pub first_within : (p : ℕ → Bool) (limit n : ℕ) → first p (min n limit) ≡ first (λ i. leb limit i || p i) n
first_within p limit n = go (first p (min n limit)) (first_is p (min n limit))
  where
    go : (r : ℕ) → First p (min n limit) r → r ≡ first (λ i. leb limit i || p i) n
    go r f =
        is_first (λ i. leb limit i || p i) n r
        (record {
          within = omega (arith, f.within);
          before = λ k h. ap₂ ◌||◌ (lt-leb limit k (omega (arith, f.within))) (f.before k h);
          found = λ h. at (leb limit r) refl h;
        })
      where
        at : (t : Bool) → leb limit r ≡ t → r < n → (leb limit r || p r) ≡ true
        at true e h = ap (λ t. t || p r) e
        at false e h = ap (λ t. leb limit r || t) (f.found (omega (arith, leb-false limit r e))) ∙ or-true (leb limit r)

module _ (s : List ℕ) (n : ℕ) where
  -- of the places of the wish lines, those that are refused
  abbrev bad : ℕ → Bool
  bad i = leb 256 i || ill_at s wish_tag (wish_place n) i

  wish_is : (r : ℕ) → r ≡ wish_lines s n → unless_ill bad r (n + 3) (whole (numbers_from s wish_tag (wish_place n) r)) ≡ wish_text s n
  unfolding wish_text most_wishes
  wish_is r e = ap (λ k. unless_ill bad k (n + 3) (whole (numbers_from s wish_tag (wish_place n) k))) e

  pub wish_none : length s ≤ wish_place n → whole [] ≡ wish_text s n
  wish_none h = wish_is 0 (omega arith)

  module _ {due r : ℕ} (e : due ≡ wish_lines s n) (er : r ≡ first (ill_at s wish_tag (wish_place n)) (min due 256)) where
    found : r ≡ first bad due
    found = er ∙ first_within (ill_at s wish_tag (wish_place n)) 256 due

    pub wish_ill : r < due → refused ill_formed (n + 3 + r) ≡ wish_text s n
    wish_ill h = unless_found bad due (n + 3) r (whole (numbers_from s wish_tag (wish_place n) due)) found h ∙ wish_is due e

    pub wish_few : due ≤ r → due ≤ 256
    wish_few h = omega (arith, (first_is (ill_at s wish_tag (wish_place n)) (min due 256)).within)

    pub wish_all : (l : List ℤ) → due ≤ r → take (3 * r) l ≡ numbers_from s wish_tag (wish_place n) r → whole (take (3 * due) l) ≡ wish_text s n
    wish_all l h f =
        let is : r ≡ due = omega (arith, found, (first_is bad due).within) in
        ap whole (subst (λ k. take (3 * k) l ≡ numbers_from s wish_tag (wish_place n) k) is f) ∙
        unless_none bad due (n + 3) r (whole (numbers_from s wish_tag (wish_place n) due)) found h ∙
        wish_is due e
