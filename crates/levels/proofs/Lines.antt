-- The lines of a plane: what is put out up to a line is the change that the keys read so far make.
--   fits, seen        a line key at or below a cell, by the numbers of the cell; what is read of a list, seen at a cell
--   Read              how far a list of keys is read, with its row of bits
--   shown, hidden     from the last line on, what is read is seen by the row; before the span, not at all
--   HeadOf, Heads     the first key that is left of a list, or more than every key; the least of four
--   asks_take, read_on, read_before    one line on, for one list
--   Lines             the state of the loop: four lists read up to an edge, the change on the last line, and what is put out
--   lines_start       nothing read
--   asks_sa .. asks_pb, moved    what taking a line asks, and that it reads a key
--   line_quiet, line_put         one line on, where nothing of the plane is read yet, and where the line is put out
--   changed_all, changed_early   all is read; nothing turns any more
-- Assumes nothing.
use mathlib.Core.Path.{◌≡◌, refl, sym, ◌∙◌, ap, ap₂, subst}
use mathlib.Core.Bool.{Bool, true, false, ◌&&◌, and-true, true≢false}
use mathlib.Core.List.{List, [], ◌∷◌, ◌++◌}
use Prim.Native.Nat.{ℕ, zero, suc, ◌+◌, ◌-◌, ◌*◌, ◌/◌, ◌%◌, ◌≤◌, ◌<◌, min}
use native.Mathlib.Nat.{sub-zero}
use native.Mathlib.Omega.{arith}
use lib.Dec.{leb, ltb}
use lib.ListN.{length, take, drop, get_or, length-append, length-map, take-append-drop}
use lib.Seq.{take-add, take_all, drop-cons}
use borrow.Author.Tests.{ltb-true, ltb-false, leb-true, leb-false, le-leb, lt-leb}
use Rattle.std.specs.Prelude.{Option, None, Some}
use Rattle.meaning.specs.Counting.{All}
use Rattle.meaning.proofs.Parity.{◌⊕◌, ⊕_false, ⊕_comm, ⊕_cancel, sum, sum_append, sum_all, sum_ext, sum_map}
use Rattle.meaning.proofs.Integers.{leb_by}
use Rattle.meaning.proofs.Space.{all_map, all_append}
use Rattle.rising.specs.Merged.{From, less_base, plus_base}
use Rattle.rising.proofs.Sums.{from_less, from_above}
use Rattle.turn.specs.Turn.{plane_of}
use Rattle.turn.proofs.Lists.{all_take, all_drop, all_image, all_both, from_drop, from_append, from_plus, all_begins, any, sum_none, less_zero, plus_append, plus_plus, rising_short}
use Rattle.levels.specs.Level.{Number, line_fits, LineOk}
use Rattle.rows.specs.Rows.{bit, bit_at, TookLine, Put, PutLine, change}
use Rattle.levels.specs.Planes.{lesser_of, HeadIs, InRow, Spanned, Planes, Rows, Changed}
use Rattle.rows.proofs.Operations.{change_none, change_quiet}
use Rattle.rows.proofs.Bits.{bit_zero}
use Rattle.rows.proofs.Ones.{put_none, put_then}

-- ---- lists

-- a rising list whose counts are the same from a place on has no member beyond it
none_beyond : (m top n : ℕ) (l : List ℕ) → From m l → All (λ k. k < n) l
    → ((x x' : ℕ) → top ≤ x → x < n → top ≤ x' → x' < n → sum (λ k. leb k x) l ≡ sum (λ k. leb k x') l) → All (λ k. k ≤ top) l
none_beyond m top n [] h u same = tt
none_beyond m top n (e ∷ l) h u same = go (leb e top) refl (λ s. none_beyond (suc e) top n l h.1 u.1 s)
  where
    later : (x : ℕ) → x ≤ e → sum (λ k. leb k x) l ≡ false
    later x w = sum_none (λ k. leb k x) l (all_map l (λ k q. lt-leb k x (omega arith)) (from_above (suc e) l h.1))

    go : (t : Bool) → leb e top ≡ t
        → (((x x' : ℕ) → top ≤ x → x < n → top ≤ x' → x' < n → sum (λ k. leb k x) l ≡ sum (λ k. leb k x') l) → All (λ k. k ≤ top) l)
        → All (λ k. k ≤ top) (e ∷ l)
    go true q rec =
        let w = leb-true e top q in (
          w,
          rec (λ x x' a b c d.
              ⊕_cancel true (sum (λ k. leb k x) l) (sum (λ k. leb k x') l)
              (sym (ap (◌⊕ sum (λ k. leb k x) l) (le-leb e x (omega arith))) ∙ same x x' a b c d ∙ ap (◌⊕ sum (λ k. leb k x') l) (le-leb e x' (omega arith)))),
        )
    go false q rec =
        let w = leb-false e top q in
        absurd
        (true≢false
        (sym (ap₂ ◌⊕◌ (le-leb e e (omega arith)) (later e (omega arith))) ∙
        same e top (omega arith) u.0 (omega arith) (omega (arith, u.0)) ∙
        ap₂ ◌⊕◌ (lt-leb e top w) (later top (omega arith))))

-- ---- cells

abbrev pub fits : ℕ → ℕ → ℕ → Bool
fits y z k = leb (k / 2048) y && leb (k % 2048) z

fits_line : (p : ℕ × Number) (k : ℕ) → line_fits p k ≡ fits p.0 p.1.0 k
fits_line p k = ap (leb (k / 2048) p.0 &&◌) (and-true (leb (k % 2048 / 1) p.1.0) ∙ ap (λ m. leb m p.1.0) (omega arith))

-- what is read of a list whose keys have an offset, seen at a cell
abbrev pub seen : ℕ → List ℕ → ℕ → ℕ → ℕ → Bool
seen off l i y z = sum (λ k. fits y z (k - off)) (take i l)

-- where neither membership turns, nothing changes
change_of : (op : ℕ) {s s' t t' u u' v v' : Bool} → s ≡ s' → t ≡ t' → u ≡ u' → v ≡ v' → change op s t u v ≡ change op s' t' u' v'
change_of op {s} {s'} {t} {t'} {u} {u'} {v} {v'} a b c d =
    ap₂ (λ x y. change op x y u v) a b ∙ ap₂ (λ x y. change op s' t' x y) c d

-- ---- one list

-- a key, less an offset, of a line and with a number in range and in the span
abbrev pub Proper : ℕ → ℕ → ℕ → ℕ → Type 0
Proper off low words k = (off ≤ k) × ((k - off) / 2048 ≤ 1024) × ((k - off) % 2048 ≤ 1024) × (low ≤ (k - off) % 2048) × ((k - off) % 2048 < low + 64 * words)

pub record Read (off low words : ℕ) (l : List ℕ) (edge i : ℕ) (row : List ℕ) : Type 0 where
  pub rises : From 0 l
  pub proper : All (Proper off low words) l
  pub within : i ≤ length l
  pub under : All (λ k. k - off < edge) (take i l)
  pub rest : All (λ k. edge ≤ k - off) (drop i l)
  pub long : length row ≡ words
  pub bits : (x : ℕ) → x < 64 * words → bit_at row x ≡ sum (λ k. leb ((k - off) % 2048) (low + x)) (take i l)

-- the first key that is left, less the offset, or more than every key
abbrev pub HeadOf : ℕ → List ℕ → ℕ → ℕ → Type 0
HeadOf off l i m = ((i < length l) → m ≡ get_or l i 0 - off) × ((length l ≤ i) → m ≡ 4294967295)

-- the place in a row that stands for a number at or above the first
abbrev place_of : ℕ → ℕ → ℕ → ℕ
place_of low words z = min (z - low) (64 * words - 1)

module _ {off low words : ℕ} {l : List ℕ} {edge i : ℕ} {row : List ℕ} (r : Read off low words l edge i row) where
  proper_taken : All (Proper off low words) (take i l)
  proper_taken = all_take (Proper off low words) i l r.proper

  -- from the last line on, all that is read lies on or before the cell's line
  counted : (base y z : ℕ) → base % 2048 ≡ 0 → edge ≤ base + 2048 → base / 2048 ≤ y → seen off l i y z ≡ sum (λ k. leb ((k - off) % 2048) z) (take i l)
  counted base y z b e h =
      sum_all (λ k. fits y z (k - off)) (λ k. leb ((k - off) % 2048) z) (take i l)
      (all_map (take i l) (λ k u. ap (◌&& leb ((k - off) % 2048) z) (le-leb ((k - off) / 2048) y (omega arith))) r.under)

  shown : (base y z : ℕ) → base % 2048 ≡ 0 → edge ≤ base + 2048 → base / 2048 ≤ y → 0 < words → low ≤ z → seen off l i y z ≡ bit_at row (place_of low words z)
  shown base y z b e h pos above =
      counted base y z b e h ∙
      sum_all (λ k. leb ((k - off) % 2048) z) (λ k. leb ((k - off) % 2048) (low + place_of low words z)) (take i l)
      (all_map (take i l)
      (λ k u. leb_by ((k - off) % 2048) z ((k - off) % 2048) (low + place_of low words z) (λ q. omega (arith, u.4)) (λ q. omega (arith, u.4)))
      proper_taken) ∙
      sym (r.bits (place_of low words z) (omega arith))

  hidden : (base y z : ℕ) → base % 2048 ≡ 0 → edge ≤ base + 2048 → base / 2048 ≤ y → z < low → seen off l i y z ≡ false
  hidden base y z b e h below =
      counted base y z b e h ∙
      sum_none (λ k. leb ((k - off) % 2048) z) (take i l) (all_map (take i l) (λ k u. lt-leb ((k - off) % 2048) z (omega (arith, u.3))) proper_taken)

  -- beyond the last number the row is constant
  settled : (x x' : ℕ) → x < 64 * words → x' < 64 * words → 1024 ≤ low + x → 1024 ≤ low + x' → bit_at row x ≡ bit_at row x'
  settled x x' h h' a a' =
      r.bits x h ∙
      sum_all (λ k. leb ((k - off) % 2048) (low + x)) (λ k. leb ((k - off) % 2048) (low + x')) (take i l)
      (all_map (take i l)
      (λ k u. le-leb ((k - off) % 2048) (low + x) (omega (arith, u.2)) ∙ sym (le-leb ((k - off) % 2048) (low + x') (omega (arith, u.2))))
      proper_taken) ∙
      sym (r.bits x' h')

  -- what is left does not count on the lines that are read
  rest_hidden : (y z : ℕ) → edge % 2048 ≡ 0 → y < edge / 2048 → sum (λ k. fits y z (k - off)) l ≡ seen off l i y z
  rest_hidden y z b h =
      ap (sum (λ k. fits y z (k - off))) (sym (take-append-drop i l)) ∙
      sum_append (λ k. fits y z (k - off)) (take i l) (drop i l) ∙
      ap (seen off l i y z ⊕◌)
      (sum_none (λ k. fits y z (k - off)) (drop i l)
      (all_map (drop i l) (λ k u. ap (◌&& leb ((k - off) % 2048) z) (lt-leb ((k - off) / 2048) y (omega arith))) r.rest)) ∙
      ⊕_false (seen off l i y z)

  -- what is left, and so its first key, lies at or beyond the edge
  pub at_head : (least : ℕ) → HeadOf off l i least → edge ≤ 4294967295 → edge ≤ least
  at_head least h e = go (ltb i (length l)) refl
    where
      go : (t : Bool) → ltb i (length l) ≡ t → edge ≤ least
      go true t = let u = ltb-true i (length l) t in omega (arith, h.0 u, all_begins (λ k. edge ≤ k - off) l i r.rest u)
      go false t = omega (arith, h.1 (ltb-false i (length l) t))

  pub head_small : (least : ℕ) → HeadOf off l i least → i < length l → least ≤ 2098176
  head_small least h u =
      let q = all_begins (Proper off low words) l i (all_drop (Proper off low words) i l r.proper) u in
      omega (arith, h.0 u, q.1, q.2)

  spanned : i < length l → 0 < words
  spanned u = let q = all_begins (Proper off low words) l i (all_drop (Proper off low words) i l r.proper) u in omega (arith, q.3, q.4)

  -- what is at most the first key is at most every key that is left
  pub head_ahead : (least base : ℕ) → HeadOf off l i least → base ≤ least
      → All (λ k. base ≤ k - off) (drop i l)
  head_ahead least base h b = go (ltb i (length l)) refl
    where
      go : (t : Bool) → ltb i (length l) ≡ t → All (λ k. base ≤ k - off) (drop i l)
      go true t =
          let u = ltb-true i (length l) t in
          subst (All (λ k. base ≤ k - off)) (sym (drop-cons l i 0 u)) (
            omega (arith, h.0 u),
            all_map (drop (suc i) l) (λ k q. omega (arith, h.0 u))
                (from_above (suc (get_or l i 0)) (drop (suc i) l) (subst (From 0) (drop-cons l i 0 u) (from_drop 0 i l r.rises)).1),
          )
      go false t = subst (All (λ k. base ≤ k - off)) (sym (none_left i l (ltb-false i (length l) t))) tt
        where
          none_left : (n : ℕ) (m : List ℕ) → length m ≤ n → drop n m ≡ []
          none_left zero [] q = refl
          none_left zero (x ∷ m) q = absurd (omega arith)
          none_left (suc n) [] q = refl
          none_left (suc n) (x ∷ m) q = none_left n m (omega arith)

-- ---- one list, one line on

module _ {off low words base : ℕ} {l : List ℕ} {edge i : ℕ} {row : List ℕ} (r : Read off low words l edge i row) (begins : base % 2048 ≡ 0)
    (above : edge ≤ base)
    (small : low ≤ 1024) (ahead : All (λ k. base ≤ k - off) (drop i l)) {start limit : ℕ} (at : start ≡ off + (base + low))
    (to : limit ≡ off + (base + 2048)) where
  proper_left : All (λ k. (base ≤ k - off) × Proper off low words k) (drop i l)
  proper_left = all_both (λ k. base ≤ k - off) (Proper off low words) (drop i l) ahead (all_drop (Proper off low words) i l r.proper)

  pub asks_take : All (InRow start limit words) (drop i l)
  asks_take =
      all_map (drop i l)
      (λ k h. (by (k - off) k h.1.0 refl h.0 h.1.3, λ u. in_span (k - off) k h.1.0 refl h.0 h.1.3 h.1.4 u))
      proper_left
    where
      by : (m k : ℕ) → off ≤ k → k - off ≡ m → base ≤ m → low ≤ m % 2048 → start ≤ k
      by m k o e b n = omega arith

      in_span : (m k : ℕ) → off ≤ k → k - off ≡ m → base ≤ m → low ≤ m % 2048 → m % 2048 < low + 64 * words → k < limit → k < start + 64 * words
      in_span m k o e b n w u = omega arith

  module _ {row' : List ℕ} {e : ℕ} (t : TookLine l i start limit row row' e) where
    joined : take e l ≡ take i l ++ plane_of l i e
    joined = let q : e ≡ i + (e - i) = omega (arith, t.from) in ap (λ k. take k l) q ∙ take-add i (e - i) l

    line : All (λ k. ((base ≤ k - off) × Proper off low words k) × (k < limit)) (plane_of l i e)
    line =
        all_both (λ k. (base ≤ k - off) × Proper off low words k) (λ k. k < limit) (plane_of l i e)
        (all_take (λ k. (base ≤ k - off) × Proper off low words k) (e - i) (drop i l) proper_left)
        t.in_it

    -- a key's place in the row, against its number
    turned : (x : ℕ) → All (λ k. leb (k - start) x ≡ leb ((k - off) % 2048) (low + x)) (plane_of l i e)
    turned x = all_map (plane_of l i e) (λ k h. same (k - off) k h.0.1.0 refl h.0.0 h.0.1.3 h.1) line
      where
        same : (m k : ℕ) → off ≤ k → k - off ≡ m → base ≤ m → low ≤ m % 2048 → k < limit → leb (k - start) x ≡ leb (m % 2048) (low + x)
        same m k o e b n u =
            let q : k - start + low ≡ m % 2048 = omega arith in
            leb_by (k - start) x (m % 2048) (low + x) (λ w. omega arith) (λ w. omega arith)

    pub read_on : Read off low words l (base + 2048) e row'
    read_on =
        record {
          rises = r.rises;
          proper = r.proper;
          within = t.upto;
          under = subst (All (λ k. k - off < base + 2048)) (sym joined)
              (all_append (λ k. k - off < base + 2048) (take i l) (plane_of l i e)
              (all_map (take i l) (λ k h. omega arith) r.under)
              (all_map (plane_of l i e) (λ k h. omega (arith, h.1, h.0.1.0)) line));
          rest = all_map (drop e l) (λ k h. omega arith) t.left;
          long = t.long ∙ r.long;
          bits = λ x h.
              t.bits x (subst (λ (n : ℕ). x < 64 * n) (sym r.long) h) ∙
              ap₂ ◌⊕◌ (sum_all (λ k. leb (k - start) x) (λ k. leb ((k - off) % 2048) (low + x)) (plane_of l i e) (turned x)) (r.bits x h) ∙
              ⊕_comm (sum (λ k. leb ((k - off) % 2048) (low + x)) (plane_of l i e)) (sum (λ k. leb ((k - off) % 2048) (low + x)) (take i l)) ∙
              sym (sum_append (λ k. leb ((k - off) % 2048) (low + x)) (take i l) (plane_of l i e)) ∙
              ap (sum (λ k. leb ((k - off) % 2048) (low + x))) (sym joined);
        }

    -- on the lines before it nothing of the line counts
    pub read_before : (y z : ℕ) → y < base / 2048 → seen off l e y z ≡ seen off l i y z
    read_before y z h =
        ap (sum (λ k. fits y z (k - off))) joined ∙
        sum_append (λ k. fits y z (k - off)) (take i l) (plane_of l i e) ∙
        ap (seen off l i y z ⊕◌)
        (sum_none (λ k. fits y z (k - off)) (plane_of l i e)
        (all_map (plane_of l i e) (λ k u. ap (◌&& leb ((k - off) % 2048) z) (lt-leb ((k - off) / 2048) y (omega (arith, u.0.0)))) line)) ∙
        ⊕_false (seen off l i y z)

    -- where no key is read, the first key that is left lies beyond the line
    pub not_on : (least : ℕ) → HeadOf off l i least → base ≤ 2098176 → e ≤ i → base + 2048 ≤ least
    not_on least h b u = go (ltb i (length l)) refl
      where
        go : (s : Bool) → ltb i (length l) ≡ s → base + 2048 ≤ least
        go true s =
            let w = ltb-true i (length l) s in
            let q : e ≡ i = omega (arith, t.from) in
            omega (arith, h.0 w, all_begins (λ k. limit ≤ k) l i (subst (λ (n : ℕ). All (λ k. limit ≤ k) (drop n l)) q t.left) w)
        go false s = omega (arith, h.1 (ltb-false i (length l) s))

-- ---- keys put out, and rows of zeros

get_d_none : (row : List ℕ) (w : ℕ) → All (λ x. x ≡ 0) row → get_or row w 0 ≡ 0
get_d_none [] w h = refl
get_d_none (x ∷ row) zero h = h.0
get_d_none (x ∷ row) (suc w) h = get_d_none row w h.1

none_set : (row : List ℕ) → All (λ x. x ≡ 0) row → (x : ℕ) → bit_at row x ≡ false
none_set row h x = ap (λ w. bit w (x % 64)) (get_d_none row (x / 64) h) ∙ bit_zero (x % 64)

seen_none : (l : List ℕ) (i : ℕ) → i ≡ 0 → (f : ℕ → Bool) → sum f (take i l) ≡ false
seen_none l i e f = ap (λ n. sum f (take n l)) e

-- ---- the state of the loop

pub record Lines (op low words plane : ℕ) (sa sb pa pb out₀ : List ℕ) (n : ℕ) (ra rb ca cb last out : List ℕ) (put i j k l : ℕ) : Type 0 where
  pub edge : ℕ
  pub edged : edge % 2048 ≡ 0
  pub near : edge ≤ 2099200
  pub small : low ≤ 1024
  pub few_words : words ≤ 17
  pub in_sa : Read 0 low words sa edge i ra
  pub in_sb : Read 0 low words sb edge j rb
  pub in_pa : Read plane low words pa edge k ca
  pub in_pb : Read plane low words pb edge l cb
  pub long : length last ≡ words
  pub bits : (x : ℕ) → x < 64 * words → bit_at last x ≡ change op (bit_at ra x) (bit_at rb x) (bit_at ca x) (bit_at cb x)
  pub keys : List ℕ
  pub rises : From 0 keys
  pub under : All (λ m. m < edge) keys
  pub proper : All LineOk keys
  pub few : length keys ≤ 1088 * (i + j + k + l)
  pub means : (y z : ℕ) → sum (fits y z) keys ≡ change op (seen 0 sa i y z) (seen 0 sb j y z) (seen plane pa k y z) (seen plane pb l y z)
  pub put_out : Put (plus_base plane keys) out₀ n out put

-- ---- nothing read

proper_of : (off low words : ℕ) (l : List ℕ) → All (λ k. (off ≤ k) × LineOk (k - off)) l → All (λ k. Spanned low words (k - off)) l
    → All (Proper off low words) l
proper_of off low words l h u =
    all_map l (λ k q. (q.0.0, q.0.1.0, omega (arith, q.0.1.1.0), q.1.0, q.1.1))
    (all_both (λ k. (off ≤ k) × LineOk (k - off)) (λ k. Spanned low words (k - off)) l h u)

read_none : (off low words : ℕ) (l row : List ℕ) → From 0 l → All (Proper off low words) l → length row ≡ words → All (λ x. x ≡ 0) row
    → Read off low words l 0 0 row
read_none off low words l row h u long none =
    record {
      rises = h;
      proper = u;
      within = omega arith;
      under = tt;
      rest = all_map l (λ k q. omega arith) (any l);
      long = long;
      bits = λ x q. none_set row none x;
    }

section_of : (low words : ℕ) (l : List ℕ) → All LineOk l → All (Spanned low words) l → All (Proper 0 low words) l
section_of low words l h u =
    proper_of 0 low words l (all_map l (λ k q. (omega arith, subst LineOk (sym (sub-zero k)) q)) h)
    (all_map l (λ k q. subst (Spanned low words) (sym (sub-zero k)) q) u)

pub lines_start : {op low words plane : ℕ} {sa sb pa pb out : List ℕ} {n : ℕ} {ra rb ca cb last : List ℕ} → Planes low words plane sa sb pa pb
    → Rows words ra rb ca cb last
    → low ≤ 1024 → words ≤ 17 → Lines op low words plane sa sb pa pb out n ra rb ca cb last out n 0 0 0 0
lines_start {op} {low} {words} {plane} {sa} {sb} {pa} {pb} {out} {n} {ra} {rb} {ca} {cb} {last} p r s w =
    record {
      edge = 0;
      edged = omega arith;
      near = omega arith;
      small = s;
      few_words = w;
      in_sa = read_none 0 low words sa ra p.rises_sa (section_of low words sa p.proper_sa p.span_sa) r.long_ra r.none_ra;
      in_sb = read_none 0 low words sb rb p.rises_sb (section_of low words sb p.proper_sb p.span_sb) r.long_rb r.none_rb;
      in_pa = read_none plane low words pa ca p.rises_pa (proper_of plane low words pa p.proper_pa p.span_pa) r.long_ca r.none_ca;
      in_pb = read_none plane low words pb cb p.rises_pb (proper_of plane low words pb p.proper_pb p.span_pb) r.long_cb r.none_cb;
      long = r.long_last;
      bits = λ x h.
          none_set last r.none_last x ∙
          sym (change_quiet op (bit_at ra x) (bit_at rb x) (none_set ca r.none_ca x) (none_set cb r.none_cb x));
      keys = [];
      rises = tt;
      under = tt;
      proper = tt;
      few = omega arith;
      means = λ y z. sym (change_none op false false);
      put_out = put_none out n;
    }

-- ---- the next line

-- the least of the first keys that are left
pub record Heads (plane : ℕ) (sa sb pa pb : List ℕ) (i j k l m : ℕ) : Type 0 where
  pub head_sa : ℕ
  pub head_sb : ℕ
  pub head_pa : ℕ
  pub head_pb : ℕ
  pub of_sa : HeadOf 0 sa i head_sa
  pub of_sb : HeadOf 0 sb j head_sb
  pub of_pa : HeadOf plane pa k head_pa
  pub of_pb : HeadOf plane pb l head_pb
  pub least : m ≡ min (min head_sa head_sb) (min head_pa head_pb)
  pub left : i + j + k + l < length sa + length sb + length pa + length pb

-- a key that may be missing, or what stands for none: more than every key
abbrev key_or : Option ℕ → ℕ
key_or None = 4294967295
key_or (Some m) = m

head_of : (off : ℕ) (l : List ℕ) (i : ℕ) (o : Option ℕ) → HeadIs off l i o → HeadOf off l i (key_or o)
head_of off l i None h = (λ u. absurd (omega arith), λ u. refl)
head_of off l i (Some m) h = (λ u. h.1, λ u. absurd (omega (arith, h.0)))

head_bound : {off low words : ℕ} {l : List ℕ} {edge i : ℕ} {row : List ℕ} → Read off low words l edge i row → (o : Option ℕ) → HeadIs off l i o
    → key_or o ≤ 4294967295
head_bound r None h = omega arith
head_bound r (Some m) h = omega (arith, head_small r m (head_of _ _ _ (Some m) h) h.0)

lesser_key : (x y : Option ℕ) → key_or x ≤ 4294967295 → key_or y ≤ 4294967295 → key_or (lesser_of x y) ≡ min (key_or x) (key_or y)
lesser_key None None h k = refl
lesser_key None (Some y) h k = omega arith
lesser_key (Some x) None h k = omega arith
lesser_key (Some x) (Some y) h k = refl

none_of : (x y : Option ℕ) → lesser_of x y ≡ None → (x ≡ None) × (y ≡ None)
none_of None None e = (refl, refl)
none_of None (Some y) e = absurd (cc)
none_of (Some x) None e = absurd (cc)
none_of (Some x) (Some y) e = absurd (cc)

ends : (off : ℕ) (l : List ℕ) (i : ℕ) (o : Option ℕ) → HeadIs off l i o → o ≡ None → length l ≤ i
ends off l i None h e = h
ends off l i (Some m) h e = absurd (cc)

-- where the line of a key begins
abbrev pub line_of : ℕ → ℕ
line_of m = m - m % 2048

module _ {op low words plane : ℕ} {sa sb pa pb out₀ : List ℕ} {n : ℕ} {ra rb ca cb last out : List ℕ} {put i j k l : ℕ}
    (w : Lines op low words plane sa sb pa pb out₀ n ra rb ca cb last out put i j k l) where
  pub put_bound : put ≤ n + 1088 * (i + j + k + l)
  put_bound = omega (arith, w.put_out.count, length-map w.keys (λ m. plane + m), w.few)

  module _ (x y u v : Option ℕ) (hx : HeadIs 0 sa i x) (hy : HeadIs 0 sb j y) (hu : HeadIs plane pa k u) (hv : HeadIs plane pb l v) where
    -- a least key is the least of the first keys
    pub heads : {m : ℕ} → lesser_of (lesser_of x y) (lesser_of u v) ≡ Some m → Heads plane sa sb pa pb i j k l m
    heads {m} e =
        let bx = head_bound w.in_sa x hx in
        let by = head_bound w.in_sb y hy in
        let bu = head_bound w.in_pa u hu in
        let bv = head_bound w.in_pb v hv in
        let s = lesser_key x y bx by in
        let t = lesser_key u v bu bv in
        record {
          head_sa = key_or x;
          head_sb = key_or y;
          head_pa = key_or u;
          head_pb = key_or v;
          of_sa = head_of 0 sa i x hx;
          of_sb = head_of 0 sb j y hy;
          of_pa = head_of plane pa k u hu;
          of_pb = head_of plane pb l v hv;
          least = sym (ap key_or e) ∙ lesser_key (lesser_of x y) (lesser_of u v) (omega arith) (omega arith) ∙ ap₂ min s t;
          left = some x y u v hx hy hu hv e;
        }
      where
        some : (x y u v : Option ℕ) → HeadIs 0 sa i x → HeadIs 0 sb j y → HeadIs plane pa k u → HeadIs plane pb l v
            → lesser_of (lesser_of x y) (lesser_of u v) ≡ Some m → i + j + k + l < length sa + length sb + length pa + length pb
        some (Some a) y u v hx hy hu hv e = omega (arith, hx.0, w.in_sa.within, w.in_sb.within, w.in_pa.within, w.in_pb.within)
        some None (Some b) u v hx hy hu hv e = omega (arith, hy.0, w.in_sa.within, w.in_sb.within, w.in_pa.within, w.in_pb.within)
        some None None (Some c) v hx hy hu hv e = omega (arith, hu.0, w.in_sa.within, w.in_sb.within, w.in_pa.within, w.in_pb.within)
        some None None None (Some d) hx hy hu hv e = omega (arith, hv.0, w.in_sa.within, w.in_sb.within, w.in_pa.within, w.in_pb.within)
        some None None None None hx hy hu hv e = absurd (cc)

    -- where none is left, all is read
    pub none_left : lesser_of (lesser_of x y) (lesser_of u v) ≡ None → length sa + length sb + length pa + length pb ≤ i + j + k + l
    none_left e =
        let s = none_of (lesser_of x y) (lesser_of u v) e in
        let f = none_of x y s.0 in
        let g = none_of u v s.1 in
        omega (arith, ends 0 sa i x hx f.0, ends 0 sb j y hy f.1, ends plane pa k u hu g.0, ends plane pb l v hv g.1)

  module _ {m : ℕ} (q : Heads plane sa sb pa pb i j k l m) where
    some_left : {P : Type 0} → (i < length sa → P) → (j < length sb → P) → (k < length pa → P) → (l < length pb → P) → P
    some_left {P} a b c d = go (ltb i (length sa)) refl (ltb j (length sb)) refl (ltb k (length pa)) refl
      where
        go : (s : Bool) → ltb i (length sa) ≡ s → (t : Bool) → ltb j (length sb) ≡ t → (u : Bool) → ltb k (length pa) ≡ u → P
        go true s t f u g = a (ltb-true i (length sa) s)
        go false s true f u g = b (ltb-true j (length sb) f)
        go false s false f true g = c (ltb-true k (length pa) g)
        go false s false f false g = d (omega (arith, ltb-false i (length sa) s, ltb-false j (length sb) f, ltb-false k (length pa) g, q.left))

    pub least_small : m ≤ 2098176
    least_small =
        some_left
        (λ h. omega (arith, q.least, head_small w.in_sa q.head_sa q.of_sa h))
        (λ h. omega (arith, q.least, head_small w.in_sb q.head_sb q.of_sb h))
        (λ h. omega (arith, q.least, head_small w.in_pa q.head_pa q.of_pa h))
        (λ h. omega (arith, q.least, head_small w.in_pb q.head_pb q.of_pb h))

    pub some_words : 0 < words
    some_words = some_left (spanned w.in_sa) (spanned w.in_sb) (spanned w.in_pa) (spanned w.in_pb)

    begins : line_of m % 2048 ≡ 0
    begins = omega arith

    above : w.edge ≤ line_of m
    above =
        let s = w.near in
        let t = w.edged in
        let e : w.edge ≤ m = omega (
          arith,
          q.least,
          at_head w.in_sa q.head_sa q.of_sa (omega arith),
          at_head w.in_sb q.head_sb q.of_sb (omega arith),
          at_head w.in_pa q.head_pa q.of_pa (omega arith),
          at_head w.in_pb q.head_pb q.of_pb (omega arith),
        ) in
        by w.edge m t e
      where
        by : (e x : ℕ) → e % 2048 ≡ 0 → e ≤ x → e ≤ x - x % 2048
        by e x t h = omega arith

    ahead_sa : All (λ x. line_of m ≤ x - 0) (drop i sa)
    ahead_sa = head_ahead w.in_sa q.head_sa (line_of m) q.of_sa (omega (arith, q.least))

    ahead_sb : All (λ x. line_of m ≤ x - 0) (drop j sb)
    ahead_sb = head_ahead w.in_sb q.head_sb (line_of m) q.of_sb (omega (arith, q.least))

    ahead_pa : All (λ x. line_of m ≤ x - plane) (drop k pa)
    ahead_pa = head_ahead w.in_pa q.head_pa (line_of m) q.of_pa (omega (arith, q.least))

    ahead_pb : All (λ x. line_of m ≤ x - plane) (drop l pb)
    ahead_pb = head_ahead w.in_pb q.head_pb (line_of m) q.of_pb (omega (arith, q.least))

    -- what taking the line asks of each list
    pub asks_sa : All (InRow (0 + line_of m + low) (0 + line_of m + 2048) words) (drop i sa)
    asks_sa = asks_take w.in_sa begins above w.small ahead_sa (omega arith) (omega arith)

    pub asks_sb : All (InRow (0 + line_of m + low) (0 + line_of m + 2048) words) (drop j sb)
    asks_sb = asks_take w.in_sb begins above w.small ahead_sb (omega arith) (omega arith)

    pub asks_pa : All (InRow (plane + line_of m + low) (plane + line_of m + 2048) words) (drop k pa)
    asks_pa = asks_take w.in_pa begins above w.small ahead_pa (omega arith) (omega arith)

    pub asks_pb : All (InRow (plane + line_of m + low) (plane + line_of m + 2048) words) (drop l pb)
    asks_pb = asks_take w.in_pb begins above w.small ahead_pb (omega arith) (omega arith)

    module _ {ra' rb' ca' cb' : List ℕ} {e f g h : ℕ} (ta : TookLine sa i (0 + line_of m + low) (0 + line_of m + 2048) ra ra' e)
        (tb : TookLine sb j (0 + line_of m + low) (0 + line_of m + 2048) rb rb' f)
        (tc : TookLine pa k (plane + line_of m + low) (plane + line_of m + 2048) ca ca' g)
        (td : TookLine pb l (plane + line_of m + low) (plane + line_of m + 2048) cb cb' h) where
      on_sa : Read 0 low words sa (line_of m + 2048) e ra'
      on_sa = read_on w.in_sa begins above w.small ahead_sa (omega arith) (omega arith) ta

      on_sb : Read 0 low words sb (line_of m + 2048) f rb'
      on_sb = read_on w.in_sb begins above w.small ahead_sb (omega arith) (omega arith) tb

      on_pa : Read plane low words pa (line_of m + 2048) g ca'
      on_pa = read_on w.in_pa begins above w.small ahead_pa (omega arith) (omega arith) tc

      on_pb : Read plane low words pb (line_of m + 2048) h cb'
      on_pb = read_on w.in_pb begins above w.small ahead_pb (omega arith) (omega arith) td

      -- at least one key is read
      pub moved : i + j + k + l < e + f + g + h
      moved = by (leb (e + f + g + h) (i + j + k + l)) refl
        where
          by : (t : Bool) → leb (e + f + g + h) (i + j + k + l) ≡ t → i + j + k + l < e + f + g + h
          by false t = leb-false (e + f + g + h) (i + j + k + l) t
          by true t =
              let u = leb-true (e + f + g + h) (i + j + k + l) t in
              let a = ta.from in
              let b = tb.from in
              let c = tc.from in
              let d = td.from in
              let s = least_small in
              let na = not_on w.in_sa begins above w.small ahead_sa (omega arith) (omega arith) ta q.head_sa q.of_sa (omega arith) (omega arith) in
              let nb = not_on w.in_sb begins above w.small ahead_sb (omega arith) (omega arith) tb q.head_sb q.of_sb (omega arith) (omega arith) in
              let nc = not_on w.in_pa begins above w.small ahead_pa (omega arith) (omega arith) tc q.head_pa q.of_pa (omega arith) (omega arith) in
              let nd = not_on w.in_pb begins above w.small ahead_pb (omega arith) (omega arith) td q.head_pb q.of_pb (omega arith) (omega arith) in
              absurd (beyond m q.head_sa q.head_sb q.head_pa q.head_pb q.least na nb nc nd)
            where
              beyond : (x a b c d : ℕ) → x ≡ min (min a b) (min c d) → line_of x + 2048 ≤ a → line_of x + 2048 ≤ b → line_of x + 2048 ≤ c → line_of x + 2048 ≤ d → ⊥
              beyond x a b c d e ha hb hc hd = omega arith

      -- the change at a cell, as what is read makes it: before the line, and with it
      abbrev old : ℕ → ℕ → Bool
      old y z = change op (seen 0 sa i y z) (seen 0 sb j y z) (seen plane pa k y z) (seen plane pb l y z)

      abbrev new : ℕ → ℕ → Bool
      new y z = change op (seen 0 sa e y z) (seen 0 sb f y z) (seen plane pa g y z) (seen plane pb h y z)

      -- on the lines before it the line changes nothing
      early : (y z : ℕ) → y < line_of m / 2048 → new y z ≡ old y z
      early y z u =
          change_of op (read_before w.in_sa begins above w.small ahead_sa (omega arith) (omega arith) ta y z u)
          (read_before w.in_sb begins above w.small ahead_sb (omega arith) (omega arith) tb y z u)
          (read_before w.in_pa begins above w.small ahead_pa (omega arith) (omega arith) tc y z u)
          (read_before w.in_pb begins above w.small ahead_pb (omega arith) (omega arith) td y z u)

      -- nothing of the plane is read: nothing changes, and nothing is put out
      pub line_quiet : g + h ≡ 0 → Lines op low words plane sa sb pa pb out₀ n ra' rb' ca' cb' last out put e f g h
      line_quiet none =
          let c = tc.from in
          let d = td.from in
          let k0 : k ≡ 0 = omega arith in
          let l0 : l ≡ 0 = omega arith in
          let g0 : g ≡ 0 = omega arith in
          let h0 : h ≡ 0 = omega arith in
          record {
            edge = line_of m + 2048;
            edged = omega arith;
            near = omega (arith, least_small);
            small = w.small;
            few_words = w.few_words;
            in_sa = on_sa;
            in_sb = on_sb;
            in_pa = on_pa;
            in_pb = on_pb;
            long = w.long;
            bits = λ x u.
                w.bits x u ∙
                change_quiet op (bit_at ra x) (bit_at rb x)
                (w.in_pa.bits x u ∙ seen_none pa k k0 (λ y. leb ((y - plane) % 2048) (low + x)))
                (w.in_pb.bits x u ∙ seen_none pb l l0 (λ y. leb ((y - plane) % 2048) (low + x))) ∙
                sym
                (change_quiet op (bit_at ra' x) (bit_at rb' x)
                (on_pa.bits x u ∙ seen_none pa g g0 (λ y. leb ((y - plane) % 2048) (low + x)))
                (on_pb.bits x u ∙ seen_none pb h h0 (λ y. leb ((y - plane) % 2048) (low + x))));
            keys = w.keys;
            rises = w.rises;
            under = all_map w.keys (λ x u. omega (arith, above)) w.under;
            proper = w.proper;
            few = omega (arith, w.few, moved);
            means = λ y z.
                w.means y z ∙
                change_quiet op (seen 0 sa i y z) (seen 0 sb j y z) (seen_none pa k k0 (λ x. fits y z (x - plane)))
                (seen_none pb l l0 (λ x. fits y z (x - plane))) ∙
                sym (change_quiet op (seen 0 sa e y z) (seen 0 sb f y z) (seen_none pa g g0 (λ x. fits y z (x - plane)))
                (seen_none pb h h0 (λ x. fits y z (x - plane))));
            put_out = w.put_out;
          }

      module _ {last' out' : List ℕ} {r : ℕ} (p : PutLine op ra' rb' ca' cb' last (plane + line_of m + low) out put last' out' r) where
        in_row : (x : ℕ) → x < 64 * words → x < 64 * length last
        in_row x u = omega (arith, w.long)

        now_bits : (x : ℕ) → x < 64 * words → bit_at last' x ≡ change op (bit_at ra' x) (bit_at rb' x) (bit_at ca' x) (bit_at cb' x)
        now_bits x u = p.bits x (in_row x u)

        short : All (λ x. x < 64 * words) p.places
        short = all_map p.places (λ x u. omega (arith, w.long)) p.fits

        -- beyond the last number nothing turns
        settled_now : (x x' : ℕ) → x < 64 * words → x' < 64 * words → 1024 ≤ low + x → 1024 ≤ low + x' → bit_at last' x ≡ bit_at last' x'
        settled_now x x' u u' a a' =
            now_bits x u ∙
            change_of op (settled on_sa x x' u u' a a') (settled on_sb x x' u u' a a') (settled on_pa x x' u u' a a') (settled on_pb x x' u u' a a') ∙
            sym (now_bits x' u')

        settled_last : (x x' : ℕ) → x < 64 * words → x' < 64 * words → 1024 ≤ low + x → 1024 ≤ low + x' → bit_at last x ≡ bit_at last x'
        settled_last x x' u u' a a' =
            w.bits x u ∙
            change_of op (settled w.in_sa x x' u u' a a') (settled w.in_sb x x' u u' a a') (settled w.in_pa x x' u u' a a')
            (settled w.in_pb x x' u u' a a') ∙
            sym (w.bits x' u')

        -- the numbers that are put out are in range
        ranged : All (λ x. low + x ≤ 1024) p.places
        ranged =
            let s = w.small in
            all_map p.places (λ x u. omega arith)
            (none_beyond 0 (1024 - low) (64 * words) p.places p.rises short
            (λ x x' a u a' u'.
            p.means x (in_row x u) ∙
            ap₂ ◌⊕◌ (settled_now x x' u u' (omega arith) (omega arith)) (settled_last x x' u u' (omega arith) (omega arith)) ∙
            sym (p.means x' (in_row x' u'))))

        abbrev line_keys_lem : List ℕ
        line_keys_lem = plus_base (line_of m + low) p.places

        -- a key that is put out, by its line and its number
        placed : All (λ x. ((line_of m + low + x) / 2048 ≡ line_of m / 2048) × ((line_of m + low + x) % 2048 ≡ low + x)) p.places
        placed = all_map p.places (λ x u. by (line_of m) (low + x) (line_of m + low + x) (omega arith) begins u) ranged
          where
            by : (b x y : ℕ) → y ≡ b + x → b % 2048 ≡ 0 → x ≤ 1024 → (y / 2048 ≡ b / 2048) × (y % 2048 ≡ x)
            by b x y e t u = (omega arith, omega arith)

        -- before the line, none of it counts; from it on, all of it by its numbers
        line_early : (y z : ℕ) → y < line_of m / 2048 → sum (fits y z) line_keys_lem ≡ false
        line_early y z u =
            sum_map (fits y z) (λ x. line_of m + low + x) p.places ∙
            sum_none (λ x. fits y z (line_of m + low + x)) p.places
            (all_map p.places (λ x v. ap (◌&& leb ((line_of m + low + x) % 2048) z) (lt-leb ((line_of m + low + x) / 2048) y (omega (arith, v.0)))) placed)

        line_late : (y z : ℕ) → line_of m / 2048 ≤ y → sum (fits y z) line_keys_lem ≡ sum (λ x. leb (low + x) z) p.places
        line_late y z u =
            sum_map (fits y z) (λ x. line_of m + low + x) p.places ∙
            sum_all (λ x. fits y z (line_of m + low + x)) (λ x. leb (low + x) z) p.places
            (all_map p.places (λ x v. ap₂ ◌&&◌ (le-leb ((line_of m + low + x) / 2048) y (omega (arith, v.0))) (ap (λ b. leb b z) v.1)) placed)

        under_edge : w.edge ≤ line_of m + 2048
        under_edge = omega (arith, above)

        means_hidden : (y z : ℕ) → line_of m / 2048 ≤ y → z < low → sum (fits y z) (w.keys ++ line_keys_lem) ≡ new y z
        means_hidden y z u v =
            sum_append (fits y z) w.keys line_keys_lem ∙
            ap₂ ◌⊕◌
            (w.means y z ∙
            change_quiet op (seen 0 sa i y z) (seen 0 sb j y z) (hidden w.in_pa (line_of m) y z begins under_edge u v)
            (hidden w.in_pb (line_of m) y z begins under_edge u v))
            (line_late y z u ∙ sum_none (λ x. leb (low + x) z) p.places (all_map p.places (λ x s. lt-leb (low + x) z (omega arith)) ranged)) ∙
            sym
            (change_quiet op (seen 0 sa e y z) (seen 0 sb f y z) (hidden on_pa (line_of m) y z begins (omega arith) u v)
            (hidden on_pb (line_of m) y z begins (omega arith) u v))

        means_shown : (y z : ℕ) → line_of m / 2048 ≤ y → low ≤ z → sum (fits y z) (w.keys ++ line_keys_lem) ≡ new y z
        means_shown y z u v =
            let x = place_of low words z in
            let c = some_words in
            let s : x < 64 * words = omega arith in
            sum_append (fits y z) w.keys line_keys_lem ∙
            ap₂ ◌⊕◌
            (w.means y z ∙
            change_of op (shown w.in_sa (line_of m) y z begins under_edge u c v) (shown w.in_sb (line_of m) y z begins under_edge u c v)
            (shown w.in_pa (line_of m) y z begins under_edge u c v) (shown w.in_pb (line_of m) y z begins under_edge u c v) ∙
            sym (w.bits x s))
            (line_late y z u ∙
            sum_all (λ t. leb (low + t) z) (λ t. leb t x) p.places
            (all_map p.places (λ t b. leb_by (low + t) z t x (λ a. omega arith) (λ a. omega arith)) short) ∙
            p.means x (in_row x s)) ∙
            turns (bit_at last x) (bit_at last' x) ∙
            now_bits x s ∙
            sym
            (change_of op (shown on_sa (line_of m) y z begins (omega arith) u c v) (shown on_sb (line_of m) y z begins (omega arith) u c v)
            (shown on_pa (line_of m) y z begins (omega arith) u c v) (shown on_pb (line_of m) y z begins (omega arith) u c v))
          where
            turns : (a b : Bool) → (a ⊕ (b ⊕ a)) ≡ b
            turns true true = refl
            turns true false = refl
            turns false b = ⊕_false b

        means_line : (y z : ℕ) → sum (fits y z) (w.keys ++ line_keys_lem) ≡ new y z
        means_line y z = by (ltb y (line_of m / 2048)) refl (ltb z low) refl
          where
            by : (s : Bool) → ltb y (line_of m / 2048) ≡ s → (t : Bool) → ltb z low ≡ t → sum (fits y z) (w.keys ++ line_keys_lem) ≡ new y z
            by true s t o =
                let u = ltb-true y (line_of m / 2048) s in
                sum_append (fits y z) w.keys line_keys_lem ∙ ap₂ ◌⊕◌ (w.means y z) (line_early y z u) ∙ ⊕_false (old y z) ∙ sym (early y z u)
            by false s true o = means_hidden y z (ltb-false y (line_of m / 2048) s) (ltb-true z low o)
            by false s false o = means_shown y z (ltb-false y (line_of m / 2048) s) (ltb-false z low o)

        pub line_put : Lines op low words plane sa sb pa pb out₀ n ra' rb' ca' cb' last' out' r e f g h
        line_put =
            record {
              edge = line_of m + 2048;
              edged = omega arith;
              near = omega (arith, least_small);
              small = w.small;
              few_words = w.few_words;
              in_sa = on_sa;
              in_sb = on_sb;
              in_pa = on_pa;
              in_pb = on_pb;
              long = p.long ∙ w.long;
              bits = now_bits;
              keys = w.keys ++ line_keys_lem;
              rises = from_append 0 w.edge w.keys line_keys_lem w.rises w.under (omega arith)
                  (from_less w.edge (line_of m + low + 0) line_keys_lem (omega (arith, above)) (from_plus (line_of m + low) 0 p.places p.rises));
              under = all_append (λ x. x < line_of m + 2048) w.keys line_keys_lem (all_map w.keys (λ x u. omega (arith, above)) w.under)
                  (all_image (λ x. x < line_of m + 2048) (λ x. line_of m + low + x) p.places (all_map p.places (λ x u. omega arith) ranged));
              proper = all_append LineOk w.keys line_keys_lem w.proper
                  (all_image LineOk (λ x. line_of m + low + x) p.places
                  (all_map p.places (λ x u. in_range_lem (line_of m + low + x) (low + x) u.0.0 u.0.1 u.1)
                  (all_both (λ x. ((line_of m + low + x) / 2048 ≡ line_of m / 2048) × ((line_of m + low + x) % 2048 ≡ low + x)) (λ x. low + x ≤ 1024)
                  p.places placed ranged)));
              few = omega (
                arith,
                w.few,
                moved,
                length-append w.keys line_keys_lem,
                length-map p.places (λ x. line_of m + low + x),
                rising_short 0 (64 * words) p.places (omega arith) p.rises short,
                w.few_words,
              );
              means = means_line;
              put_out =
                  subst (λ (x : List ℕ). Put x out₀ n out' r) (sym (plus_append plane w.keys line_keys_lem))
                  (put_then w.put_out
                  (subst (λ (x : List ℕ). Put x out put out' r)
                  (ap (λ b. plus_base b p.places) (omega arith) ∙ plus_plus plane (line_of m + low) p.places) p.put));
            }
          where
            in_range_lem : (x b : ℕ) → x / 2048 ≡ line_of m / 2048 → x % 2048 ≡ b → b ≤ 1024 → LineOk x
            in_range_lem x b s t u = (omega (arith, least_small), (omega arith, omega arith))

-- ---- the end

-- a whole list, less its offset, seen at a cell
whole : (off : ℕ) (l : List ℕ) (p : ℕ × Number) → sum (line_fits p) (less_base off l) ≡ sum (λ k. fits p.0 p.1.0 (k - off)) l
whole off l p = sum_map (line_fits p) (λ k. k - off) l ∙ sum_ext (λ k. line_fits p (k - off)) (λ k. fits p.0 p.1.0 (k - off)) l
    (λ k. fits_line p (k - off))

whole_section : (l : List ℕ) (p : ℕ × Number) → sum (line_fits p) l ≡ sum (λ k. fits p.0 p.1.0 (k - 0)) l
whole_section l p = ap (sum (line_fits p)) (sym (less_zero l)) ∙ whole 0 l p

module _ {op low words plane : ℕ} {sa sb pa pb out₀ : List ℕ} {n : ℕ} {ra rb ca cb last out : List ℕ} {put i j k l : ℕ}
    (w : Lines op low words plane sa sb pa pb out₀ n ra rb ca cb last out put i j k l) where
  -- what is put out, where the change that is read is that of the whole lists
  changed : ((y z : ℕ) → change op (seen 0 sa i y z) (seen 0 sb j y z) (seen plane pa k y z) (seen plane pb l y z)
      ≡ change op (sum (λ x. fits y z (x - 0)) sa) (sum (λ x. fits y z (x - 0)) sb) (sum (λ x. fits y z (x - plane)) pa) (sum (λ x. fits y z (x - plane)) pb))
      → Changed op sa sb (less_base plane pa) (less_base plane pb) plane out₀ n out put
  changed all =
      record {
        keys = w.keys;
        rises = w.rises;
        proper = w.proper;
        means = λ p.
            sum_ext (line_fits p) (fits p.0 p.1.0) w.keys (fits_line p) ∙
            w.means p.0 p.1.0 ∙
            all p.0 p.1.0 ∙
            sym (change_of op (whole_section sa p) (whole_section sb p) (whole plane pa p) (whole plane pb p));
        put = w.put_out;
      }

  all_read : (off : ℕ) (x : List ℕ) (c : ℕ) → length x ≤ c → (y z : ℕ) → seen off x c y z ≡ sum (λ b. fits y z (b - off)) x
  all_read off x c h y z = ap (sum (λ b. fits y z (b - off))) (take_all c x h)

  pub changed_all : length sa + length sb + length pa + length pb ≤ i + j + k + l
      → Changed op sa sb (less_base plane pa) (less_base plane pb) plane out₀ n out put
  changed_all h =
      let a = w.in_sa.within in
      let b = w.in_sb.within in
      let c = w.in_pa.within in
      let d = w.in_pb.within in
      changed
      (λ y z. change_of op (all_read 0 sa i (omega arith) y z) (all_read 0 sb j (omega arith) y z) (all_read plane pa k (omega arith) y z)
      (all_read plane pb l (omega arith) y z))

  -- a plane that is read whole and whose row is empty turns nothing from the edge on
  turns_none : {x row : List ℕ} {c : ℕ} → Read plane low words x w.edge c row → All (λ b. b ≡ 0) row → 0 < words → (y z : ℕ) → w.edge / 2048 ≤ y
      → seen plane x c y z ≡ false
  turns_none {x} {row} {c} r none pos y z h = by (ltb z low) refl
    where
      by : (t : Bool) → ltb z low ≡ t → seen plane x c y z ≡ false
      by true t = hidden r w.edge y z w.edged (omega arith) h (ltb-true z low t)
      by false t = shown r w.edge y z w.edged (omega arith) h pos (ltb-false z low t) ∙ none_set row none (place_of low words z)

  pub changed_early : 0 < words → k + l ≡ length pa + length pb → All (λ b. b ≡ 0) ca → All (λ b. b ≡ 0) cb
      → Changed op sa sb (less_base plane pa) (less_base plane pb) plane out₀ n out put
  changed_early pos h za zb = changed (λ y z. by y z (ltb y (w.edge / 2048)) refl)
    where
      read_pa : (y z : ℕ) → seen plane pa k y z ≡ sum (λ x. fits y z (x - plane)) pa
      read_pa y z = all_read plane pa k (omega (arith, w.in_pb.within)) y z

      read_pb : (y z : ℕ) → seen plane pb l y z ≡ sum (λ x. fits y z (x - plane)) pb
      read_pb y z = all_read plane pb l (omega (arith, w.in_pa.within)) y z

      by : (y z : ℕ) (t : Bool) → ltb y (w.edge / 2048) ≡ t
          → change op (seen 0 sa i y z) (seen 0 sb j y z) (seen plane pa k y z) (seen plane pb l y z)
          ≡ change op (sum (λ x. fits y z (x - 0)) sa) (sum (λ x. fits y z (x - 0)) sb) (sum (λ x. fits y z (x - plane)) pa)
          (sum (λ x. fits y z (x - plane)) pb)
      by y z true t =
          let u = ltb-true y (w.edge / 2048) t in
          change_of op (sym (rest_hidden w.in_sa y z w.edged u)) (sym (rest_hidden w.in_sb y z w.edged u)) (read_pa y z) (read_pb y z)
      by y z false t =
          let u = ltb-false y (w.edge / 2048) t in
          let na = turns_none w.in_pa za pos y z u in
          let nb = turns_none w.in_pb zb pos y z u in
          change_quiet op (seen 0 sa i y z) (seen 0 sb j y z) na nb ∙
          sym (change_quiet op (sum (λ x. fits y z (x - 0)) sa) (sum (λ x. fits y z (x - 0)) sb) (sym (read_pa y z) ∙ na) (sym (read_pb y z) ∙ nb))
