-- A plane of the sweep by rows: the span of the numbers, and the state of the loop over planes, in which the section of the result is a list
-- that no slice holds.
--   least_of, greatest_of     the least and the greatest number of some keys, from a number on
--   Lent, Sweeping            what the loop over planes is lent; its state
--   Ends, span_low .. span_all    the least and the greatest numbers of two lists, and their span
--   turned, refused           one plane more; where a plane has no room, no whole result has room
--   begins, short, again, done                           the first turn of the loop, what a turn leaves, and both ends
--   asks_next, planes_of, few_keys, asks_a, asks_b       what each call of its body asks
-- Assumes nothing.
use mathlib.Core.Path.{◌≡◌, refl, sym, ◌∙◌, ap, ap₂, subst, subst₂}
use mathlib.Core.Bool.{Bool, ◌&&◌}
use mathlib.Core.List.{List, [], ◌∷◌, ◌++◌}
use Prim.Native.Nat.{ℕ, ◌+◌, ◌-◌, ◌*◌, ◌/◌, ◌%◌, ◌^◌, ◌≤◌, ◌<◌, min, max}
use Rattle.std.specs.List.{fold}
use native.Mathlib.Omega.{arith}
use lib.Dec.{eqb}
use lib.ListN.{length, take, drop, length-map, length-take}
use lib.Seq.{length-take-le}
use borrow.Author.Tests.{le-leb}
use Rattle.meaning.specs.Counting.{All}
use Rattle.meaning.proofs.Parity.{◌⊕◌, ⊕_self, ⊕_assoc, ⊕_comm, sum, sum_all}
use Rattle.meaning.proofs.Space.{all_map}
use Rattle.rising.specs.Merged.{From, merged, less_base, plus_base}
use Rattle.rising.proofs.Sums.{sum_merged, from_merged, all_merged, same_list}
use Rattle.turn.specs.Turn.{plane_of, NextOf, Advanced, Taken}
use Rattle.turn.proofs.Lists.{all_take, all_drop, from_drop, from_take, undo}
use Rattle.turn.proofs.Pieces.{least_one}
use Rattle.rows.proofs.Operations.{holds_out}
use Rattle.levels.specs.Level.{Number, Operand, Joined, line_fits, LineOk, plane_fits, PlaneOk}
use Rattle.levels.proofs.Stride.{planes}
use Rattle.levels.proofs.Levels.{At, at_start, at_turn, Section, Whole, ReadOf, next_a, next_b, on_a, on_b, refuse_room, joined_done, joined_short}
use Rattle.rows.specs.Rows.{holds_by}
use Rattle.levels.specs.Planes.{Spanned, Planes, Changed}

-- ---- the span of the numbers

-- the least and the greatest number of some keys, from a number on
least_of : {r : ℕ} (from : ℕ) (l : List ℕ) → r ≡ fold (λ m k. min m (k % 2048)) from l → (r ≤ from) × All (λ k. r ≤ k % 2048) l
least_of from [] e = (omega arith, tt)
least_of from (x ∷ l) e = let h = least_of (min from (x % 2048)) l e in (omega (arith, h.0), (omega (arith, h.0), h.1))

pub greatest_of : {r : ℕ} (from : ℕ) (l : List ℕ) → r ≡ fold (λ m k. max m (k % 2048)) from l → (from ≤ r) × All (λ k. k % 2048 ≤ r) l
greatest_of from [] e = (omega arith, tt)
greatest_of from (x ∷ l) e = let h = greatest_of (max from (x % 2048)) l e in (omega (arith, h.0), (omega (arith, h.0), h.1))

greatest_bound : {r : ℕ} (from : ℕ) (l : List ℕ) → r ≡ fold (λ m k. max m (k % 2048)) from l → from ≤ 1024 → All (λ k. k % 2048 ≤ 1024) l → r ≤ 1024
greatest_bound from [] e h u = omega arith
greatest_bound from (x ∷ l) e h u = greatest_bound (max from (x % 2048)) l e (omega (arith, u.0)) u.1

-- ---- numbers within a span

-- the number of a key on its line, from its place in a plane
number_of : (k : ℕ) → (k % 2099200) % 2048 ≡ k % 2048
number_of k = omega arith

number_less : (base k : ℕ) → base % 2099200 ≡ 0 → base ≤ k → (k - base) % 2048 ≡ k % 2048
number_less base k e h = omega arith

pub numbered : (l : List ℕ) → All PlaneOk l → All (λ k. k % 2048 ≤ 1024) l
numbered l = all_map l (λ k h. omega (arith, number_of k, h.1.1.0))

-- the words of a row that has the bits of a span
pub span_words : (low high : ℕ) → low ≤ high → high ≤ 1024 → (high - low) / 64 + 1 ≤ 17
span_words low high h k = omega arith

pub spanned : (low high : ℕ) → low ≤ high → (l : List ℕ) → All (λ k. low ≤ k % 2048) l → All (λ k. k % 2048 ≤ high) l
    → All (Spanned low ((high - low) / 64 + 1)) l
spanned low high h [] u v = tt
spanned low high h (x ∷ l) u v = ((u.0, omega (arith, v.0)), spanned low high h l u.1 v.1)

-- the least and the greatest numbers of two lists, the one from the other
pub record Ends (a b : List ℕ) (least low most high : ℕ) : Type 0 where
  pub least_a : least ≡ fold (λ m k. min m (k % 2048)) 1024 a
  pub least_b : low ≡ fold (λ m k. min m (k % 2048)) least b
  pub greatest_a : most ≡ fold (λ m k. max m (k % 2048)) low a
  pub greatest_b : high ≡ fold (λ m k. max m (k % 2048)) most b

module _ {a b : List ℕ} {least low most high : ℕ} (e : Ends a b least low most high) where
  pub span_low : low ≤ 1024
  span_low = omega (arith, least_of 1024 a e.least_a, least_of least b e.least_b)

  pub span_up : low ≤ high
  span_up = omega (arith, greatest_of low a e.greatest_a, greatest_of most b e.greatest_b)

  pub span_long : All PlaneOk a → All PlaneOk b → (high - low) / 64 + 1 ≤ 17
  span_long oa ob =
      span_words low high span_up
      (greatest_bound most b e.greatest_b (greatest_bound low a e.greatest_a span_low (numbered a oa)) (numbered b ob))

  pub span_all : All (Spanned low ((high - low) / 64 + 1)) a × All (Spanned low ((high - low) / 64 + 1)) b
  span_all =
      let la = least_of 1024 a e.least_a in
      let lb = least_of least b e.least_b in
      let ga = greatest_of low a e.greatest_a in
      let gb = greatest_of most b e.greatest_b in (
        spanned low high span_up a (all_map a (λ k h. omega arith) la.1) (all_map a (λ k h. omega arith) ga.1),
        spanned low high span_up b lb.1 gb.1,
      )

-- ---- the change of the operation

-- what was, with its change, is what is
changed_to : (x y : Bool) → (x ⊕ (y ⊕ x)) ≡ y
changed_to x y = ap (x ⊕◌) (⊕_comm y x) ∙ sym (⊕_assoc x x y) ∙ ap (◌⊕ y) (⊕_self x)

-- the change between a list and its merge with another is the other
merged_change : (l m : List ℕ) → From 0 l → From 0 m → merged l (merged l m) ≡ m
merged_change l m hl hm =
    same_list 0 0 (merged l (merged l m)) m (from_merged l (merged l m) 0 hl (from_merged l m 0 hl hm)) hm
    (λ k. sum_merged (eqb k) l (merged l m) ∙ ap (sum (eqb k) l ⊕◌) (sum_merged (eqb k) l m) ∙ undo (sum (eqb k) l) (sum (eqb k) m))

-- beyond all planes that are read, a cell sees only the places
past : (edge : ℕ) (q : ℕ × Number) (l : List ℕ) → All (λ k. k < edge) l → sum (plane_fits (edge, q)) l ≡ sum (λ k. line_fits q (k % 2099200)) l
past edge q l h =
    sum_all (plane_fits (edge, q)) (λ k. line_fits q (k % 2099200)) l
    (all_map l (λ k u. ap (◌&& line_fits q (k % 2099200)) (le-leb (k / 2099200) edge (omega arith))) h)

module _ (op : ℕ) {a b : List ℕ} {i j : ℕ} {sa sb sc o : List ℕ} (t : At planes (holds_by op) a b i j sa sb sc o) where
  -- the section of the result is the operation of the operands' sections
  means_section : (q : ℕ × Number) → sum (line_fits q) sc ≡ holds_by op (sum (line_fits q) sa) (sum (line_fits q) sb)
  means_section q =
      let w = t.swept in
      w.section (line_fits q) ∙
      sym (past t.edge q o w.under) ∙
      w.means (t.edge, q) ∙
      ap₂ (holds_by op)
      (past t.edge q (take i a) w.in_a.under ∙ sym (w.in_a.section (line_fits q)))
      (past t.edge q (take j b) w.in_b.under ∙ sym (w.in_b.section (line_fits q)))

  module _ {base e f : ℕ} (v : Advanced 2099200 a i b j base e f) {out : List ℕ} {n : ℕ} {out' : List ℕ} {r : ℕ}
      (g : Changed op sa sb (less_base base (plane_of a i e)) (less_base base (plane_of b j f)) base out n out' r) where
    -- the next section of the result
    abbrev next : List ℕ
    next = merged sc g.keys

    put_out : merged sc next ≡ g.keys
    put_out = merged_change sc g.keys t.swept.sorted g.rises

    next_section : Section planes (holds_by op) (next_a t v) (next_b t v) next
    next_section =
        record {
          rises = from_merged sc g.keys 0 t.swept.sorted g.rises;
          oks = all_merged LineOk sc g.keys t.swept.oks g.proper;
          means = λ q.
              sum_merged (line_fits q) sc g.keys ∙
              ap₂ ◌⊕◌ (means_section q) (g.means q) ∙
              changed_to (holds_by op (sum (line_fits q) sa) (sum (line_fits q) sb)) _ ∙
              ap₂ (holds_by op)
              (sym (sum_merged (line_fits q) sa (less_base base (plane_of a i e))))
              (sym (sum_merged (line_fits q) sb (less_base base (plane_of b j f))));
        }

    pub turned : At planes (holds_by op) a b e f (next_a t v) (next_b t v) next (o ++ plus_base base g.keys)
    turned = subst (λ (l : List ℕ). At planes (holds_by op) a b e f (next_a t v) (next_b t v) next (o ++ plus_base base l)) put_out (at_turn t v next_section)

    pub refused : (whole : List ℕ) → Whole planes (holds_by op) a b whole → length o + length g.keys ≤ length whole
    refused whole means = subst (λ (l : List ℕ). length o + length l ≤ length whole) put_out (refuse_room t v whole means next_section)

-- ---- the loop over planes

pub record Lent (a b out sa sb room : List ℕ) (low words : ℕ) : Type 0 where
  pub for_a : length a ≤ length sa
  pub for_b : length b ≤ length sb
  pub merge_a : length a ≤ length room
  pub merge_b : length b ≤ length room
  pub few_keys_a : length a ≤ 2 ^ 20
  pub few_keys_b : length b ≤ 2 ^ 20
  pub few_out : length out ≤ 2 ^ 20
  pub low_bound : low ≤ 1024
  pub words_bound : words ≤ 17
  pub span_a : All (Spanned low words) a
  pub span_b : All (Spanned low words) b

pub record Sweeping (op : ℕ) (a b out₀ sa₀ sb₀ room₀ : List ℕ) (low words : ℕ) (out sa sb room : List ℕ) (i j n na nb : ℕ) : Type 0 where
  pub lent : Lent a b out₀ sa₀ sb₀ room₀ low words
  pub long_out : length out ≡ length out₀
  pub long_sa : length sa ≡ length sa₀
  pub long_sb : length sb ≡ length sb₀
  pub long_room : length room ≡ length room₀
  pub filled : n ≤ length out₀
  pub few_a : na ≤ i
  pub few_b : nb ≤ j
  pub span_sa : All (Spanned low words) (take na sa)
  pub span_sb : All (Spanned low words) (take nb sb)
  pub sc : List ℕ
  pub state : At planes (holds_by op) a b i j (take na sa) (take nb sb) sc (take n out)

pub lends : {a b out sa sb room : List ℕ} {low words : ℕ} → low ≤ 1024 → words ≤ 17
    → (length a ≤ length sa) × (length b ≤ length sb) × (length a ≤ length room) × (length b ≤ length room)
    → (length a ≤ 2 ^ 20) × (length b ≤ 2 ^ 20) × (length out ≤ 2 ^ 20)
    → All (Spanned low words) a × All (Spanned low words) b → Lent a b out sa sb room low words
lends h k room few s =
    record {
      for_a = room.0;
      for_b = room.1;
      merge_a = room.2;
      merge_b = room.3;
      few_keys_a = few.0;
      few_keys_b = few.1;
      few_out = few.2;
      low_bound = h;
      words_bound = k;
      span_a = s.0;
      span_b = s.1;
    }

-- what each call of the loop's body asks
abbrev pub AsksNext : (a b : List ℕ) (i j : ℕ) → Type 0
AsksNext a b i j =
    ((0 < 2099200) × (2099200 ≤ 2099200)) ×
    (((i ≤ length a) × (j ≤ length b)) ×
    ((i + j < length a + length b) × ((From 0 a × From 0 b) × (All (λ k. k < 2151680000) a × All (λ k. k < 2151680000) b))))

abbrev pub FewKeys : (sa sb pa pb : List ℕ) (n : ℕ) → Type 0
FewKeys sa sb pa pb n = n + 1088 * (length sa + length sb + length pa + length pb) ≤ 2 ^ 60

abbrev pub AsksTake : (sec keys room : List ℕ) (n i e base : ℕ) → Type 0
AsksTake sec keys room n i e base =
    ((n ≤ length sec) × (i ≤ e) × (e ≤ length keys)) ×
    (((n + (e - i) ≤ length sec) × (n + (e - i) ≤ length room)) ×
    (All (λ k. base ≤ k) (plane_of keys i e) × (All (λ k. k < 2 ^ 32) (plane_of keys i e) × All (λ k. k < 2 ^ 32) (take n sec))))

-- of one operand: the keys of the next plane, and the section that takes them in
module _ {l : List ℕ} {edge i : ℕ} {sec : List ℕ} (r : ReadOf planes l edge i sec) {base e : ℕ}
    (begin : base % 2099200 ≡ 0) (nx : NextOf 2099200 l i base e) where
  rises_plane : From 0 (plane_of l i e)
  rises_plane = from_take 0 (e - i) (drop i l) (from_drop 0 i l r.operand.0)

  in_plane_lem : (Q : ℕ → Type 0) → All Q l → All Q (plane_of l i e)
  in_plane_lem Q h = all_take Q (e - i) (drop i l) (all_drop Q i l h)

  proper_plane : All (λ k. (base ≤ k) × LineOk (k - base)) (plane_of l i e)
  proper_plane = go (plane_of l i e) nx.in_it (in_plane_lem PlaneOk r.operand.1)
    where
      go : (k : List ℕ) → All (λ x. (base ≤ x) × (x < base + 2099200)) k → All PlaneOk k → All (λ x. (base ≤ x) × LineOk (x - base)) k
      go [] h u = tt
      go (x ∷ k) h u = ((h.0.0, subst LineOk (planes.stride.place base x begin h.0.0 h.0.1) u.0.1), go k h.1 u.1)

  span_plane : (low words : ℕ) → All (Spanned low words) l → All (λ k. Spanned low words (k - base)) (plane_of l i e)
  span_plane low words s = go (plane_of l i e) nx.in_it (in_plane_lem (Spanned low words) s)
    where
      go : (k : List ℕ) → All (λ x. (base ≤ x) × (x < base + 2099200)) k → All (Spanned low words) k → All (λ x. Spanned low words (x - base)) k
      go [] h u = tt
      go (x ∷ k) h u = (subst (λ (m : ℕ). (low ≤ m) × (m < low + 64 * words)) (sym (number_less base x begin h.0.0)) u.0, go k h.1 u.1)

  -- what taking the plane into the section asks
  asks : (taken : List ℕ) (free : List ℕ) (n : ℕ) → take n taken ≡ sec → n ≤ i → length l ≤ length taken → length l ≤ length free
      → AsksTake taken l free n i e base
  asks taken free n q few fits fits' = (
    (omega (arith, nx.from, nx.upto), nx.from, nx.upto),
    (
      (omega (arith, nx.from, nx.upto), omega (arith, nx.from, nx.upto)),
      (
        all_map (plane_of l i e) (λ k h. h.0) nx.in_it,
        (
          all_map (plane_of l i e) (λ k h. omega (arith, planes.bound k h)) (in_plane_lem PlaneOk r.operand.1),
          all_map (take n taken) (λ k h. omega (arith, planes.fit k h)) (subst (All LineOk) (sym q) r.oks),
        ),
      ),
    ),
  )

  span_taken : (low words : ℕ) → All (Spanned low words) l → All (Spanned low words) sec → All (Spanned low words) (merged sec (less_base base (plane_of l i e)))
  span_taken low words s u = all_merged (Spanned low words) sec (less_base base (plane_of l i e)) u (go (plane_of l i e) (span_plane low words s))
    where
      go : (k : List ℕ) → All (λ x. Spanned low words (x - base)) k → All (Spanned low words) (less_base base k)
      go [] h = tt
      go (x ∷ k) h = (h.0, go k h.1)

module _ {op : ℕ} {a b out₀ sa₀ sb₀ room₀ : List ℕ} {low words : ℕ} where
  pub begins : Operand PlaneOk a → Operand PlaneOk b → Lent a b out₀ sa₀ sb₀ room₀ low words
      → Sweeping op a b out₀ sa₀ sb₀ room₀ low words out₀ sa₀ sb₀ room₀ 0 0 0 0 0
  begins ka kb h =
      record {
        lent = h;
        long_out = refl;
        long_sa = refl;
        long_sb = refl;
        long_room = refl;
        filled = omega arith;
        few_a = omega arith;
        few_b = omega arith;
        span_sa = tt;
        span_sb = tt;
        sc = [];
        state = at_start planes (holds_out op) ka kb;
      }

  module _ {out sa sb room : List ℕ} {i j n na nb : ℕ} (w : Sweeping op a b out₀ sa₀ sb₀ room₀ low words out sa sb room i j n na nb) where
    bound_a : All (λ k. k < 2151680000) a
    bound_a = all_map a planes.bound w.state.swept.in_a.operand.1

    bound_b : All (λ k. k < 2151680000) b
    bound_b = all_map b planes.bound w.state.swept.in_b.operand.1

    pub within_a : na ≤ length sa
    within_a = omega (arith, w.few_a, w.state.swept.in_a.within, w.lent.for_a, w.long_sa)

    pub within_b : nb ≤ length sb
    within_b = omega (arith, w.few_b, w.state.swept.in_b.within, w.lent.for_b, w.long_sb)

    pub asks_next : i + j < length a + length b → AsksNext a b i j
    asks_next h =
        let ra = w.state.swept.in_a in
        let rb = w.state.swept.in_b in
        ((omega arith, omega arith), ((ra.within, rb.within), (h, ((ra.operand.0, rb.operand.0), (bound_a, bound_b)))))

    pub done : length a + length b ≤ i + j → Joined plane_fits PlaneOk (holds_by op) a b out₀ out n
    done h =
        let in_a = w.state.swept.in_a.within in
        let in_b = w.state.swept.in_b.within in
        joined_done w.long_out w.state (omega arith) (omega arith) w.filled

    module _ {base e f : ℕ} (v : Advanced 2099200 a i b j base e f) where
      pub base_small : base ≤ 2149580800
      base_small = omega (arith, v.low, v.begins, least_one (λ k. k < 2151680000) a b i j v.key v.least bound_a bound_b)

      pub planes_of : Planes low words base (take na sa) (take nb sb) (plane_of a i e) (plane_of b j f)
      planes_of =
          let ra = w.state.swept.in_a in
          let rb = w.state.swept.in_b in
          let g = v.begins in
          record {
            rises_sa = ra.rises;
            rises_sb = rb.rises;
            rises_pa = rises_plane ra g v.in_a;
            rises_pb = rises_plane rb g v.in_b;
            proper_sa = ra.oks;
            proper_sb = rb.oks;
            proper_pa = proper_plane ra g v.in_a;
            proper_pb = proper_plane rb g v.in_b;
            span_sa = w.span_sa;
            span_sb = w.span_sb;
            span_pa = span_plane ra g v.in_a low words w.lent.span_a;
            span_pb = span_plane rb g v.in_b low words w.lent.span_b;
          }

      pub few_keys : FewKeys (take na sa) (take nb sb) (plane_of a i e) (plane_of b j f) n
      few_keys =
          omega (
            arith,
            length-take na sa,
            length-take nb sb,
            length-take (e - i) (drop i a),
            length-take (f - j) (drop j b),
            v.in_a.upto,
            v.in_b.upto,
            w.few_a,
            w.few_b,
            w.state.swept.in_a.within,
            w.state.swept.in_b.within,
            w.filled,
            w.lent.few_keys_a,
            w.lent.few_keys_b,
            w.lent.few_out,
          )

      pub asks_a : (free : List ℕ) → length free ≡ length room₀ → AsksTake sa a free na i e base
      asks_a free h =
          asks w.state.swept.in_a v.begins v.in_a sa free na refl w.few_a
          (omega (arith, w.lent.for_a, w.long_sa)) (omega (arith, w.lent.merge_a))

      pub asks_b : (free : List ℕ) → length free ≡ length room₀ → AsksTake sb b free nb j f base
      asks_b free h =
          asks w.state.swept.in_b v.begins v.in_b sb free nb refl w.few_b
          (omega (arith, w.lent.for_b, w.long_sb)) (omega (arith, w.lent.merge_b))

      module _ {out' : List ℕ} {r : ℕ}
          (g : Changed op (take na sa) (take nb sb) (less_base base (plane_of a i e)) (less_base base (plane_of b j f)) base out n out' r) where
        -- no room for the change: no whole result has room
        pub short : length out < r → Joined plane_fits PlaneOk (holds_by op) a b out₀ out' r
        short h =
            joined_short planes (g.put.long ∙ w.long_out) (omega (arith, w.long_out))
            (λ whole means.
            omega (
              arith,
              refused op w.state v g whole means,
              g.put.count,
              length-map g.keys (λ k. base + k),
              length-take-le n out (omega (arith, w.filled, w.long_out)),
              w.long_out,
            ))

        pub again : r ≤ length out → {sa' sb' room' : List ℕ} {na' nb' : ℕ}
            → Taken sa na (plane_of a i e) base sa' na' → Taken sb nb (plane_of b j f) base sb' nb'
            → length sa' ≡ length sa → length sb' ≡ length sb → length room' ≡ length room
            → Sweeping op a b out₀ sa₀ sb₀ room₀ low words out' sa' sb' room' e f r na' nb'
        again h ta tb la lb lr =
            record {
              lent = w.lent;
              long_out = g.put.long ∙ w.long_out;
              long_sa = la ∙ w.long_sa;
              long_sb = lb ∙ w.long_sb;
              long_room = lr ∙ w.long_room;
              filled = omega (arith, w.long_out);
              few_a = omega (arith, ta.count, (on_a w.state v).short);
              few_b = omega (arith, tb.count, (on_b w.state v).short);
              span_sa = subst (All (Spanned low words)) (sym ta.front)
                  (span_taken w.state.swept.in_a v.begins v.in_a low words w.lent.span_a w.span_sa);
              span_sb = subst (All (Spanned low words)) (sym tb.front)
                  (span_taken w.state.swept.in_b v.begins v.in_b low words w.lent.span_b w.span_sb);
              sc = merged w.sc g.keys;
              state = subst (At planes (holds_by op) a b e f _ _ _) (sym (g.put.front h))
                  (subst₂ (λ (x y : List ℕ). At planes (holds_by op) a b e f x y (merged w.sc g.keys) (take n out ++ plus_base base g.keys))
                  (sym ta.front) (sym tb.front)
                  (turned op w.state v g));
            }
