-- Lines by their 0A (document 01: each line is ended by byte 0A; docs/DECISIONS.md, 1 and 2). The reader's definitions place lines by fixed
-- widths. As long as lines are well formed both ways place them alike, and a line that is ill formed one way is so the other way: the first
-- ill formed line is the same.
--   Ends                     the line that begins at a place goes up to the next 0A, and another place lies behind that
--   Begins                   the place where the line begins that has so many lines before it
--   Frame                    a line that is exactly 0, its tag's digit, so many digits and its 0A
--   ends_one, begins_one     a line has one end, and begins at one place
--   all_four                 four digits that make a number are digits
--   one_frame, frame_one     a frame of one number by fixed widths is such a line, and back
--   three_frame, frame_three the same of three numbers
--   Well, Bad                the line with so many lines before it is such a frame; it is none
--   count_well, count_bad    line 1
--   run_well, run_bad        lines of three numbers one after the other, up to the first that is ill formed, and that one
--   bad_one, bad_three, well_three    back again: such a line, where it is read, is read so
--   run_lines                lines of three numbers that are all such frames are read so
--   vertices_begin, sum_well, sum_bad, wishes_begin    the vertices' lines, the closing line and the wishes' lines begin where they are read
--   wish_there               a wish line that is due has a byte
use mathlib.Core.Path.{◌≡◌, refl, sym, ◌∙◌, ap, subst}
use mathlib.Core.Bool.{Bool, true, false, cond, true≢false}
use mathlib.Core.List.{List}
use Prim.Native.Nat.{ℕ, zero, suc, ◌+◌, ◌-◌, ◌*◌, ◌≤◌, ◌<◌}
use native.Mathlib.Omega.{arith}
use borrow.Author.Tests.{ltb-true, ltb-false, leb-true, eqb-true, le-leb, eq-eqb}
use lib.Dec.{ltb, leb, eqb}
use lib.ListN.{length}
use Rattle.meaning.specs.Counting.{first}
use Rattle.meaning.proofs.First.{first_is}
use Rattle.codes.proofs.Tests.{and_both}
use Rattle.std.specs.Prelude.{Option, Some, None, IsSome}
use Rattle.std.proofs.lemmas.Option.{none-some}
use Rattle.frames.specs.Frames.{digit0, line_end, long_line, byte_at, digit_value, four_of, four_at, line_at, together, one_at, three_at}
use Rattle.reading.specs.Reading.{count_tag, vertex_tag, sum_tag, is_ill, ill_at, vertex_place, sum_place, wish_place, wish_lines}
use Rattle.frames.proofs.FrameLaws.{four_whole, one_four, three_whole}

pub record Ends (s : List ℕ) (at end : ℕ) : Type 0 where
  pub some : at < end
  pub within : end ≤ length s
  pub last : byte_at s (end - 1) ≡ line_end
  pub before : (k : ℕ) → at ≤ k → k + 1 < end → byte_at s k ≡ line_end → ⊥

abbrev pub Begins : List ℕ → ℕ → ℕ → Type 0
Begins s zero p = p ≡ 0
Begins s (suc k) p = (q : ℕ) × Begins s k q × Ends s q p

abbrev pub Digits : List ℕ → ℕ → ℕ → Type 0
Digits s from to = (k : ℕ) → from ≤ k → k < to → IsSome (digit_value (byte_at s k))

pub record Frame (s : List ℕ) (tag digits at : ℕ) : Type 0 where
  pub line : Ends s at (at + digits + 3)
  pub nought : byte_at s at ≡ digit0
  pub kind : byte_at s (at + 1) ≡ tag
  pub digit : Digits s (at + 2) (at + 2 + digits)

-- ---- a line has one end, and begins at one place

no_later : (s : List ℕ) (at a b : ℕ) → Ends s at a → Ends s at b → b ≤ a
no_later s at a b h k = by (ltb a b) refl
  where
    by : (t : Bool) → ltb a b ≡ t → b ≤ a
    by true e = absurd (k.before (a - 1) (omega (arith, h.some)) (omega (arith, h.some, ltb-true a b e)) h.last)
    by false e = ltb-false a b e

pub ends_one : (s : List ℕ) (at a b : ℕ) → Ends s at a → Ends s at b → a ≡ b
ends_one s at a b h k = omega (arith, no_later s at a b h k, no_later s at b a k h)

pub begins_one : (s : List ℕ) (k p q : ℕ) → Begins s k p → Begins s k q → p ≡ q
begins_one s zero p q h l = h ∙ sym l
begins_one s (suc k) p q (x, bx, ex) (y, by, ey) =
    let same = begins_one s k x y bx by in ends_one s y p q (subst (λ z. Ends s z p) same ex) ey

-- ---- digits

-- a digit is no 0A
no_end : (b : ℕ) → IsSome (digit_value b) → b ≡ line_end → ⊥
no_end b h e = let z : IsSome (digit_value line_end) = subst (λ x. IsSome (digit_value x)) e h in true≢false (sym z)

-- what holds at four places in a row
four_in_a_row : (P : ℕ → Type 0) (a k : ℕ) → P a → P (a + 1) → P (a + 2) → P (a + 3) → a ≤ k → k < a + 4 → P k
four_in_a_row P a k p₀ p₁ p₂ p₃ h l = go (k - a) (omega arith)
  where
    go : (j : ℕ) → k ≡ a + j → P k
    go zero e = let same : a ≡ k = omega arith in subst P same p₀
    go (suc zero) e = let same : a + 1 ≡ k = omega arith in subst P same p₁
    go (suc (suc zero)) e = let same : a + 2 ≡ k = omega arith in subst P same p₂
    go (suc (suc (suc zero))) e = let same : a + 3 ≡ k = omega arith in subst P same p₃
    go (suc (suc (suc (suc j)))) e = absurd (omega arith)

all_four : (a b c d : Option ℕ) (m : ℕ) → four_of a b c d ≡ Some m → IsSome a × IsSome b × IsSome c × IsSome d
all_four (Some a) (Some b) (Some c) (Some d) m e = (refl, refl, refl, refl)
all_four (Some a) (Some b) (Some c) None m e = absurd (none-some m e)
all_four (Some a) (Some b) None d m e = absurd (none-some m e)
all_four (Some a) None c d m e = absurd (none-some m e)
all_four None b c d m e = absurd (none-some m e)

the_value : (o : Option ℕ) → IsSome o → (x : ℕ) × (o ≡ Some x)
the_value (Some x) h = (x, refl)
the_value None h = absurd (true≢false (sym h))

module _ (s : List ℕ) (at : ℕ) where
  four_digits_lem : {m : ℕ} → four_at s at ≡ Some m → Digits s at (at + 4)
  unfolding four_at
  four_digits_lem {m} e k h l =
      let (x, y, z, w) = all_four _ _ _ _ m e in
      four_in_a_row (λ i. IsSome (digit_value (byte_at s i))) at k x y z w h l

  digits_four : Digits s at (at + 4) → (m : ℕ) × (Some m ≡ four_at s at)
  digits_four ds =
      let (a, ea) = the_value (digit_value (byte_at s at)) (ds at (omega arith) (omega arith)) in
      let (b, eb) = the_value (digit_value (byte_at s (at + 1))) (ds (at + 1) (omega arith) (omega arith)) in
      let (c, ec) = the_value (digit_value (byte_at s (at + 2))) (ds (at + 2) (omega arith) (omega arith)) in
      let (d, ed) = the_value (digit_value (byte_at s (at + 3))) (ds (at + 3) (omega arith) (omega arith)) in
      (((a * 16 + b) * 16 + c) * 16 + d, four_whole s at ea eb ec ed)

-- ---- a line at a place

module _ (s : List ℕ) (tag digits at : ℕ) where
  frame_of : (tag ≡ line_end → ⊥) → line_at s tag digits at ≡ true → Digits s (at + 2) (at + 2 + digits) → Frame s tag digits at
  unfolding line_at
  frame_of other e ds =
      let (long, e₁) = and_both (leb (at + digits + 3) (length s)) _ e in
      let (first, e₂) = and_both (eqb (byte_at s at) digit0) _ e₁ in
      let (second, last) = and_both (eqb (byte_at s (at + 1)) tag) _ e₂ in
      let behind : at + digits + 3 - 1 ≡ at + 2 + digits = omega arith in
      record {
        line = record {
          some = omega arith;
          within = leb-true (at + digits + 3) (length s) long;
          last = ap (byte_at s) behind ∙ eqb-true (byte_at s (at + 2 + digits)) line_end last;
          before = λ k h l end. none (k - at) k (omega arith) l (eqb-true (byte_at s at) digit0 first) (eqb-true (byte_at s (at + 1)) tag second) end;
        };
        nought = eqb-true (byte_at s at) digit0 first;
        kind = eqb-true (byte_at s (at + 1)) tag second;
        digit = ds;
      }
    where
      none : (j k : ℕ) → k ≡ at + j → k + 1 < at + digits + 3 → byte_at s at ≡ digit0 → byte_at s (at + 1) ≡ tag → byte_at s k ≡ line_end → ⊥
      none zero k e l f g end = let same : at ≡ k = omega arith in omega (arith, f, end, ap (byte_at s) same)
      none (suc zero) k e l f g end = let same : at + 1 ≡ k = omega arith in other (sym g ∙ ap (byte_at s) same ∙ end)
      none (suc (suc j)) k e l f g end = no_end (byte_at s k) (ds k (omega arith) (omega arith)) end

  line_of_lem : Frame s tag digits at → line_at s tag digits at ≡ true
  unfolding line_at
  line_of_lem f =
      let behind : at + 2 + digits ≡ at + digits + 3 - 1 = omega arith in
      rw (
        le-leb (at + digits + 3) (length s) f.line.within,
        eq-eqb (byte_at s at) digit0 f.nought,
        eq-eqb (byte_at s (at + 1)) tag f.kind,
        eq-eqb (byte_at s (at + 2 + digits)) line_end (ap (byte_at s) behind ∙ f.line.last),
      )

module _ (s : List ℕ) (tag at : ℕ) where
  pub one_frame : (tag ≡ line_end → ⊥) → {m : ℕ} → Some m ≡ one_at s tag at → Frame s tag 4 at
  one_frame other {m} e = by (line_at s tag 4 at) refl (sym e)
    where
      by : (t : Bool) → line_at s tag 4 at ≡ t → cond t (four_at s (at + 2)) None ≡ Some m → Frame s tag 4 at
      by true h k = frame_of s tag 4 at other h (four_digits_lem s (at + 2) k)
      by false h k = absurd (none-some m k)

  pub frame_one : Frame s tag 4 at → (m : ℕ) × (Some m ≡ one_at s tag at)
  frame_one f =
      let (m, e) = digits_four s (at + 2) f.digit in
      (m, e ∙ one_four s tag at (line_of_lem s tag 4 at f))

  twelve : Digits s (at + 2) (at + 2 + 4) → Digits s (at + 6) (at + 6 + 4) → Digits s (at + 10) (at + 10 + 4) → Digits s (at + 2) (at + 2 + 12)
  twelve p q r k l m = go (ltb k (at + 6)) refl (ltb k (at + 10)) refl
    where
      go : (t : Bool) → ltb k (at + 6) ≡ t → (u : Bool) → ltb k (at + 10) ≡ u → IsSome (digit_value (byte_at s k))
      go true e u f = p k l (omega (arith, ltb-true k (at + 6) e))
      go false e true f = q k (ltb-false k (at + 6) e) (omega (arith, ltb-true k (at + 10) f))
      go false e false f = r k (ltb-false k (at + 10) f) (omega arith)

  pub three_frame : (tag ≡ line_end → ⊥) → is_ill (three_at s tag at) ≡ false → Frame s tag 12 at
  three_frame other = by (line_at s tag 12 at) refl
    where
      digits : (o p q : Option ℕ) → four_at s (at + 2) ≡ o → four_at s (at + 6) ≡ p → four_at s (at + 10) ≡ q → is_ill (together o p q) ≡ false
          → Digits s (at + 2) (at + 2 + 12)
      digits (Some a) (Some b) (Some c) eo ep eq h = twelve (four_digits_lem s (at + 2) eo) (four_digits_lem s (at + 6) ep) (four_digits_lem s (at + 10) eq)
      digits (Some a) (Some b) None eo ep eq h = absurd (true≢false h)
      digits (Some a) None q eo ep eq h = absurd (true≢false h)
      digits None p q eo ep eq h = absurd (true≢false h)

      by : (t : Bool) → line_at s tag 12 at ≡ t → is_ill (three_at s tag at) ≡ false → Frame s tag 12 at
      by true h e = frame_of s tag 12 at other h (digits _ _ _ refl refl refl (rw h at e))
      by false h e = absurd (true≢false (rw h at e))

  pub frame_three : Frame s tag 12 at → is_ill (three_at s tag at) ≡ false
  frame_three f =
      let (a, ea) = digits_four s (at + 2) (λ k h l. f.digit k h (omega arith)) in
      let (b, eb) = digits_four s (at + 6) (λ k h l. f.digit k (omega arith) (omega arith)) in
      let (c, ec) = digits_four s (at + 10) (λ k h l. f.digit k (omega arith) (omega arith)) in
      sym (ap is_ill (three_whole s tag at (line_of_lem s tag 12 at f) ea eb ec))

-- ---- lines by the lines before them

pub record Well (s : List ℕ) (tag digits k : ℕ) : Type 0 where
  pub place : ℕ
  pub begins : Begins s k place
  pub frame : Frame s tag digits place

pub record Bad (s : List ℕ) (tag digits k : ℕ) : Type 0 where
  pub place : ℕ
  pub begins : Begins s k place
  pub none : Frame s tag digits place → ⊥

begins_at : (s : List ℕ) (k p l q : ℕ) → Begins s k p → k ≡ l → p ≡ q → Begins s l q
begins_at s k p l q b e f = subst (λ x. Begins s x q) e (subst (Begins s k) f b)

-- a tag's digit is no 0A
module _ (s : List ℕ) (tag start lines : ℕ) (other : tag ≡ line_end → ⊥) (from : Begins s lines start) where
  pub run_begins : (i : ℕ) → ((k : ℕ) → k < i → ill_at s tag start k ≡ false) → Begins s (lines + i) (start + long_line * i)
  run_begins zero h = begins_at s lines start (lines + 0) (start + long_line * 0) from (omega arith) (omega arith)
  run_begins (suc i) h =
      begins_at s (suc (lines + i)) (start + long_line * i + 12 + 3) (lines + suc i) (start + long_line * suc i)
      (start + long_line * i, run_begins i (λ k l. h k (omega arith)), (three_frame s tag (start + long_line * i) other (h i (omega arith))).line) (omega arith) (omega arith)

  module _ (n : ℕ) where
    pub run_well : (i : ℕ) → i < first (ill_at s tag start) n → Well s tag 12 (lines + i)
    run_well i h =
        let f = first_is (ill_at s tag start) n in
        record {
          place = start + long_line * i;
          begins = run_begins i (λ k l. f.before k (omega arith));
          frame = three_frame s tag (start + long_line * i) other (f.before i h);
        }

    pub run_bad : first (ill_at s tag start) n < n → Bad s tag 12 (lines + first (ill_at s tag start) n)
    run_bad h =
        let f = first_is (ill_at s tag start) n in
        let r = first (ill_at s tag start) n in
        record {
          place = start + long_line * r;
          begins = run_begins r f.before;
          none = λ k. true≢false (sym (f.found h) ∙ frame_three s tag (start + long_line * r) k);
        }

-- ---- back again: what a line is, it is where it is read

module _ (s : List ℕ) (tag at k : ℕ) (from : Begins s k at) where
  pub bad_one : (tag ≡ line_end → ⊥) → Bad s tag 4 k → None ≡ one_at s tag at
  bad_one other b = by (one_at s tag at) refl
    where
      by : (o : Option ℕ) → one_at s tag at ≡ o → None ≡ o
      by None e = refl
      by (Some m) e = absurd (b.none (subst (Frame s tag 4) (begins_one s k at b.place from b.begins) (one_frame s tag at other (sym e))))

  pub bad_three : (tag ≡ line_end → ⊥) → Bad s tag 12 k → is_ill (three_at s tag at) ≡ true
  bad_three other b = by (is_ill (three_at s tag at)) refl
    where
      by : (t : Bool) → is_ill (three_at s tag at) ≡ t → t ≡ true
      by true e = refl
      by false e = absurd (b.none (subst (Frame s tag 12) (begins_one s k at b.place from b.begins) (three_frame s tag at other e)))

  pub well_three : Well s tag 12 k → is_ill (three_at s tag at) ≡ false
  well_three w = frame_three s tag at (subst (Frame s tag 12) (begins_one s k w.place at w.begins from) w.frame)

module _ (s : List ℕ) (tag start lines : ℕ) (other : tag ≡ line_end → ⊥) (from : Begins s lines start) where
  pub run_lines : (n : ℕ) → ((i : ℕ) → i < n → Well s tag 12 (lines + i)) → (i : ℕ) → i < n → ill_at s tag start i ≡ false
  run_lines zero w i h = absurd (omega arith)
  run_lines (suc n) w i h = by (run_lines n (λ j l. w j (omega arith))) (ltb i n) refl
    where
      by : ((j : ℕ) → j < n → ill_at s tag start j ≡ false) → (t : Bool) → ltb i n ≡ t → ill_at s tag start i ≡ false
      by r true e = r i (ltb-true i n e)
      by r false e =
          let last : n ≡ i = omega (arith, ltb-false i n e) in
          let here = run_begins s tag start lines other from n r in
          subst (λ j. ill_at s tag start j ≡ false) last (well_three s tag (start + long_line * n) (lines + n) here (w n (omega arith)))

-- a closing line or line 1 that is ill formed
one_bad : (s : List ℕ) (tag at k : ℕ) → Begins s k at → None ≡ one_at s tag at → Bad s tag 4 k
one_bad s tag at k b e =
    record {
      place = at;
      begins = b;
      none = λ f. let m = frame_one s tag at f in none-some m.0 (e ∙ sym m.1);
    }

module _ (s : List ℕ) where
  pub count_bad : None ≡ one_at s count_tag 0 → Bad s count_tag 4 0
  count_bad e = one_bad s count_tag 0 0 refl e

  module _ {n : ℕ} (en : Some n ≡ one_at s count_tag 0) where
    pub count_well : Well s count_tag 4 0
    count_well = record { place = 0; begins = refl; frame = one_frame s count_tag 0 (λ e. omega arith) en }

    pub vertices_begin : Begins s 1 vertex_place
    vertices_begin = (0, refl, (one_frame s count_tag 0 (λ e. omega arith) en).line)

    module _ (well : (k : ℕ) → k < n → ill_at s vertex_tag vertex_place k ≡ false) where
      pub sum_begins : Begins s (1 + n) (sum_place n)
      sum_begins = run_begins s vertex_tag vertex_place 1 (λ e. omega arith) vertices_begin n well

      pub sum_bad : None ≡ one_at s sum_tag (sum_place n) → Bad s sum_tag 4 (1 + n)
      sum_bad e = one_bad s sum_tag (sum_place n) (1 + n) sum_begins e

      pub sum_well : {m : ℕ} → Some m ≡ one_at s sum_tag (sum_place n) → Well s sum_tag 4 (1 + n)
      sum_well e = record { place = sum_place n; begins = sum_begins; frame = one_frame s sum_tag (sum_place n) (λ e. omega arith) e }

      pub wishes_begin : {m : ℕ} → Some m ≡ one_at s sum_tag (sum_place n) → Begins s (n + 2) (wish_place n)
      wishes_begin e =
          begins_at s (suc (1 + n)) (sum_place n + 4 + 3) (n + 2) (wish_place n)
          (sum_place n, sum_begins, (one_frame s sum_tag (sum_place n) (λ e. omega arith) e).line) (omega arith) (omega arith)

-- a wish line that is due has a byte
pub wish_there : (s : List ℕ) (n i : ℕ) → i < wish_lines s n → wish_place n + long_line * i < length s
wish_there s n i h = omega arith
