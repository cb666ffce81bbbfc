-- One level of the sweep: what is put out so far is the whole result of the operands read so far.
--   ReadOf        how far an operand is read, and its section
--   Swept, At     the operands read so far, the section of what is put out, and what is put out; at a multiple of the stride
--   Section       a list that means the operation of two sections
--   at_start, at_turn, joined_done   nothing read; one plane more; all read
--   refuse_room                      where a plane has no room, no whole result has room
-- Assumes nothing.
use mathlib.Core.Path.{◌≡◌, refl, sym, ◌∙◌, ap, ap₂, subst}
use mathlib.Core.Bool.{Bool, true, false, ◌&&◌, cond, and_assoc}
use mathlib.Core.List.{List, [], ◌∷◌, ◌++◌}
use Prim.Native.Nat.{ℕ, suc, ◌+◌, ◌-◌, ◌*◌, ◌/◌, ◌%◌, ◌≤◌, ◌<◌, min}
use native.Mathlib.Nat.{add-zero, zero-mod, div-add-mod', mul-le-mul_right}
use native.Mathlib.Omega.{arith}
use lib.Dec.{leb, ltb}
use lib.ListN.{length, take, drop, length-append, length-map, length-take, take-append-drop}
use lib.Seq.{take-add, take_all}
use borrow.Author.Tests.{ltb-true, ltb-false, le-leb, lt-leb}
use Rattle.meaning.specs.Counting.{All, keep}
use Rattle.meaning.proofs.Parity.{◌⊕◌, odd_count, ⊕_false, sum, sum_append, sum_all, sum_ext, sum_map, sum_keep}
use Rattle.meaning.proofs.Integers.{leb_by}
use Rattle.meaning.proofs.Space.{all_map, all_append}
use Rattle.rising.specs.Merged.{From, merged, less_base, plus_base}
use Rattle.rising.proofs.Sums.{sum_merged, from_merged, all_merged, length_merged, no_longer}
use Rattle.turn.specs.Turn.{plane_of, NextOf, Advanced}
use Rattle.turn.proofs.Lists.{all_take, all_drop, from_drop, from_take, from_append, from_plus, from_minus, all_image, all_both, sum_none, undo, any}
use Rattle.turn.proofs.Pieces.{least_left, least_one}
use Rattle.levels.specs.Level.{over, OkOver, Operand, Joined}
use Rattle.levels.proofs.Stride.{Level}

keep_length : (p : ℕ → Bool) (l : List ℕ) → length (keep p l) ≤ length l
keep_length p [] = omega arith
keep_length p (x ∷ l) = go (p x) (keep_length p l)
  where
    go : (t : Bool) → length (keep p l) ≤ length l → length (cond t (x ∷ keep p l) (keep p l)) ≤ suc (length l)
    go true h = omega arith
    go false h = omega arith

-- ---- one level

module _ {Q : Type 0} {G : Q → ℕ → Bool} {Ok : ℕ → Type 0} {s : ℕ} (L : Level G Ok s) where
  -- how far an operand is read, with its section
  pub record ReadOf (l : List ℕ) (edge i : ℕ) (sec : List ℕ) : Type 0 where
    pub operand : Operand (OkOver s Ok) l
    pub within : i ≤ length l
    pub under : All (λ k. k < edge) (take i l)
    pub rest : All (λ k. edge ≤ k) (drop i l)
    pub rises : From 0 sec
    pub oks : All Ok sec
    pub section : (g : ℕ → Bool) → sum g sec ≡ sum (λ k. g (k % s)) (take i l)
    pub short : length sec ≤ i

  module _ (op : Bool → Bool → Bool) where
    -- a section of the result, from those of the operands
    pub record Section (x y c : List ℕ) : Type 0 where
      pub rises : From 0 c
      pub oks : All Ok c
      pub means : (q : Q) → sum (G q) c ≡ op (sum (G q) x) (sum (G q) y)

    -- a list that means the operation of two others
    abbrev pub Whole : List ℕ → List ℕ → List ℕ → Type 0
    Whole x y l = (p : ℕ × Q) → sum (over s G p) l ≡ op (sum (over s G p) x) (sum (over s G p) y)

    pub record Swept (a b : List ℕ) (edge i j : ℕ) (sa sb sc o : List ℕ) : Type 0 where
      pub in_a : ReadOf a edge i sa
      pub in_b : ReadOf b edge j sb
      pub sorted : From 0 sc
      pub oks : All Ok sc
      pub section : (g : ℕ → Bool) → sum g sc ≡ sum (λ k. g (k % s)) o
      pub rises : From 0 o
      pub under : All (λ k. k < edge) o
      pub proper : All (OkOver s Ok) o
      pub means : Whole (take i a) (take j b) o

    -- the state of a loop
    pub record At (a b : List ℕ) (i j : ℕ) (sa sb sc o : List ℕ) : Type 0 where
      pub edge : ℕ
      pub edged : edge % s ≡ 0
      pub swept : Swept a b edge i j sa sb sc o

  pub read_none : {l : List ℕ} → Operand (OkOver s Ok) l → ReadOf l 0 0 []
  read_none {l} h =
      record { operand = h; within = omega arith; under = tt; rest = any l; rises = tt; oks = tt; section = λ g. refl; short = omega arith }

  pub at_start : {op : Bool → Bool → Bool} {a b : List ℕ} → op false false ≡ false → Operand (OkOver s Ok) a → Operand (OkOver s Ok) b
      → At op a b 0 0 [] [] [] []
  at_start h ka kb =
      record {
        edge = 0;
        edged = zero-mod s;
        swept = record {
          in_a = read_none ka;
          in_b = read_none kb;
          sorted = tt;
          oks = tt;
          section = λ g. refl;
          rises = tt;
          under = tt;
          proper = tt;
          means = λ p. sym h;
        };
      }

  -- where every whole list is too long
  pub joined_short : {op : Bool → Bool → Bool} {a b before now : List ℕ} {r : ℕ} → length now ≡ length before → length before < r
      → ((whole : List ℕ) → Whole op a b whole → length before < length whole)
      → Joined (over s G) (OkOver s Ok) op a b before now r
  joined_short {op} {a} {b} long h all =
      record {
        long = long;
        rising = λ u. absurd (omega arith);
        proper = λ u. absurd (omega arith);
        means = λ u. absurd (omega arith);
        short = λ u l rises m. all l (λ p. sym (odd_count (over s G p) l) ∙ m p ∙ ap₂ op (odd_count (over s G p) a) (odd_count (over s G p) b));
      }

module _ {Q : Type 0} {G : Q → ℕ → Bool} {Ok : ℕ → Type 0} {s : ℕ} {L : Level G Ok s} where
  -- ---- an operand, one plane on

  module _ {l : List ℕ} {edge i base e : ℕ} {sec : List ℕ} (above : edge ≤ base) (begins : base % s ≡ 0) (r : ReadOf L l edge i sec)
      (n : NextOf s l i base e) where
    joined : take e l ≡ take i l ++ plane_of l i e
    joined = let q : e ≡ i + (e - i) = omega (arith, n.from) in ap (λ k. take k l) q ∙ take-add i (e - i) l

    proper_in : All (OkOver s Ok) (plane_of l i e)
    proper_in = all_take (OkOver s Ok) (e - i) (drop i l) (all_drop (OkOver s Ok) i l r.operand.1)

    places : All (λ k. k - base ≡ k % s) (plane_of l i e)
    places = all_map (plane_of l i e) (λ k h. sym (L.stride.place base k begins h.0 h.1)) n.in_it

    from_plane : From 0 (drop i l) → From 0 (less_base base (plane_of l i e))
    from_plane h = based_from (plane_of l i e) (from_take 0 (e - i) (drop i l) h) n.in_it
      where
        based_from : (k : List ℕ) → From 0 k → All (λ x. (base ≤ x) × (x < base + s)) k → From 0 (less_base base k)
        based_from [] f u = tt
        based_from (x ∷ k) f u =
            let q = from_minus base (suc x) k (omega (arith, u.0.0)) f.1 in
            (omega arith, subst (λ (z : ℕ). From z (less_base base k)) (omega (arith, u.0.0)) q)

    pub read_on : ReadOf L l (base + s) e (merged sec (less_base base (plane_of l i e)))
    read_on =
        record {
          operand = r.operand;
          within = n.upto;
          under = subst (All (λ k. k < base + s)) (sym joined)
              (all_append (λ k. k < base + s) (take i l) (plane_of l i e) (all_map (take i l) (λ k h. omega arith) r.under)
              (all_map (plane_of l i e) (λ k h. h.1) n.in_it));
          rest = n.after;
          rises = from_merged sec (less_base base (plane_of l i e)) 0 r.rises (from_plane (from_drop 0 i l r.operand.0));
          oks = all_merged Ok sec (less_base base (plane_of l i e)) r.oks
              (all_image Ok (λ k. k - base) (plane_of l i e)
              (all_map (plane_of l i e) (λ k h. subst Ok (sym h.0) h.1.1)
              (all_both (λ k. k - base ≡ k % s) (OkOver s Ok) (plane_of l i e) places proper_in)));
          section = λ g.
              sum_merged g sec (less_base base (plane_of l i e)) ∙
              ap₂ ◌⊕◌ (r.section g)
              (sum_map g (λ k. k - base) (plane_of l i e) ∙
              sum_all (λ k. g (k - base)) (λ k. g (k % s)) (plane_of l i e) (all_map (plane_of l i e) (λ k h. ap g h) places)) ∙
              sym (sum_append (λ k. g (k % s)) (take i l) (plane_of l i e)) ∙
              ap (sum (λ k. g (k % s))) (sym joined);
          short = omega (
            arith,
            length_merged sec (less_base base (plane_of l i e)),
            length-map (plane_of l i e) (λ k. k - base),
            length-take (e - i)
                (drop i l),
            r.short,
            n.from,
          );
        }

    -- before the plane nothing of it counts, and from it on all that is read lies at or below
    pub read_before : (p : ℕ × Q) → p.0 < base / s → sum (over s G p) (take e l) ≡ sum (over s G p) (take i l)
    read_before p h =
        ap (sum (over s G p)) joined ∙
        sum_append (over s G p) (take i l) (plane_of l i e) ∙
        ap (sum (over s G p) (take i l) ⊕◌)
        (sum_none (over s G p) (plane_of l i e)
        (all_map (plane_of l i e) (λ k u. ap (◌&& G p.1 (k % s)) (lt-leb (k / s) p.0
        (omega (arith, L.stride.plane base k begins u.0 u.1)))) n.in_it)) ∙
        ⊕_false (sum (over s G p) (take i l))

    pub read_after : (p : ℕ × Q) → base / s ≤ p.0 → sum (over s G p) (take e l) ≡ sum (G p.1) (merged sec (less_base base (plane_of l i e)))
    read_after p h =
        sum_all (over s G p) (λ k. G p.1 (k % s)) (take e l)
        (all_map (take e l) (λ k u. ap (◌&& G p.1 (k % s)) (le-leb (k / s) p.0 (omega (arith, L.stride.within base k begins u)))) read_on.under) ∙
        sym (read_on.section (G p.1))

    -- what is read up to the plane, seen at a cell, is the whole operand seen at the cell brought down to the plane
    pub read_cut : (x : ℕ) (q : Q) → sum (over s G (x, q)) (take e l) ≡ sum (over s G (min x (base / s), q)) l
    read_cut x q =
        sum_all (over s G (x, q)) (over s G (min x (base / s), q)) (take e l)
        (all_map (take e l)
        (λ k u. let w = L.stride.within base k begins u in ap (◌&& G q (k % s))
        (leb_by (k / s) x (k / s) (min x (base / s)) (λ h. omega arith) (λ h. omega arith)))
        read_on.under) ∙
        sym
        (ap (sum (over s G (min x (base / s), q))) (sym (take-append-drop e l)) ∙
        sum_append (over s G (min x (base / s), q)) (take e l) (drop e l) ∙
        ap (sum (over s G (min x (base / s), q)) (take e l) ⊕◌)
        (sum_none (over s G (min x (base / s), q)) (drop e l)
        (all_map (drop e l)
        (λ k u. let w = L.stride.beyond base k begins u in ap (◌&& G q (k % s)) (lt-leb (k / s) (min x (base / s)) (omega arith)))
        n.after)) ∙
        ⊕_false (sum (over s G (min x (base / s), q)) (take e l)))

  -- ---- one turn

  module _ {op : Bool → Bool → Bool} {a b : List ℕ} {i j : ℕ} {sa sb sc o : List ℕ} (t : At L op a b i j sa sb sc o) {base e f : ℕ}
      (v : Advanced s a i b j base e f) where
    abbrev w : Swept L op a b t.edge i j sa sb sc o
    w = t.swept

    whole_planes : (k : ℕ) → k % s ≡ 0 → k / s * s ≡ k
    whole_planes k h = sym (add-zero (k / s * s)) ∙ ap (k / s * s +◌) (sym h) ∙ div-add-mod' k s

    above : t.edge ≤ base
    above =
        let under = least_left (λ k. t.edge ≤ k) a b i j v.key v.least w.in_a.rest w.in_b.rest in
        let below : t.edge < base + s = omega (arith, v.high) in
        let q = mul-le-mul_right s (L.stride.within base t.edge v.begins below) in
        omega (arith, whole_planes t.edge t.edged, whole_planes base v.begins, q)

    ranged : base / s ≤ 1024
    ranged =
        subst (λ (n : ℕ). n ≤ 1024) (L.stride.plane base v.key v.begins v.low v.high)
        (least_one (OkOver s Ok) a b i j v.key v.least w.in_a.operand.1 w.in_b.operand.1).0

    abbrev pub next_a : List ℕ
    next_a = merged sa (less_base base (plane_of a i e))

    abbrev pub next_b : List ℕ
    next_b = merged sb (less_base base (plane_of b j f))

    pub on_a : ReadOf L a (base + s) e next_a
    on_a = read_on above v.begins w.in_a v.in_a

    pub on_b : ReadOf L b (base + s) f next_b
    on_b = read_on above v.begins w.in_b v.in_b

    before_a : (p : ℕ × Q) → p.0 < base / s → sum (over s G p) (take e a) ≡ sum (over s G p) (take i a)
    before_a = read_before above v.begins w.in_a v.in_a

    before_b : (p : ℕ × Q) → p.0 < base / s → sum (over s G p) (take f b) ≡ sum (over s G p) (take j b)
    before_b = read_before above v.begins w.in_b v.in_b

    after_a : (p : ℕ × Q) → base / s ≤ p.0 → sum (over s G p) (take e a) ≡ sum (G p.1) next_a
    after_a p h = read_after above v.begins w.in_a v.in_a p h

    after_b : (p : ℕ × Q) → base / s ≤ p.0 → sum (over s G p) (take f b) ≡ sum (G p.1) next_b
    after_b p h = read_after above v.begins w.in_b v.in_b p h

    module _ {c : List ℕ} (C : Section L op next_a next_b c) where
      abbrev pub change : List ℕ
      change = merged sc c

      abbrev pub grown : List ℕ
      grown = o ++ plus_base base change

      oks_change : All Ok change
      oks_change = all_merged Ok sc c w.oks C.oks

      -- the keys of the plane that is put out
      plane_of_lem : All (λ m. (base + m) / s ≡ base / s) change
      plane_of_lem = all_map change (λ m h. let u = L.fit m h in L.stride.plane base (base + m) v.begins (omega arith) (omega arith)) oks_change

      place_of : All (λ m. (base + m) % s ≡ m) change
      place_of = all_map change (λ m h. let u = L.fit m h in L.stride.place base (base + m) v.begins (omega arith) (omega arith) ∙ omega arith) oks_change

      section_grown : (g : ℕ → Bool) → sum g c ≡ sum (λ k. g (k % s)) grown
      section_grown g =
          sym
          (sum_append (λ k. g (k % s)) o (plus_base base change) ∙
          ap₂ ◌⊕◌ (sym (w.section g))
          (sum_map (λ k. g (k % s)) (λ k. base + k) change ∙
          sum_all (λ m. g ((base + m) % s)) g change (all_map change (λ m h. ap g h) place_of) ∙
          sum_merged g sc c) ∙
          undo (sum g sc) (sum g c))

      under_grown : All (λ k. k < base + s) grown
      under_grown =
          all_append (λ k. k < base + s) o (plus_base base change)
          (all_map o (λ k h. let q = above in omega arith) w.under)
          (all_image (λ k. k < base + s) (λ k. base + k) change (all_map change (λ m h. let u = L.fit m h in omega arith) oks_change))

      means_grown : Whole L op (take e a) (take f b) grown
      means_grown p = go (ltb p.0 (base / s)) refl
        where
          early : p.0 < base / s → sum (over s G p) (plus_base base change) ≡ false
          early h =
              sum_map (over s G p) (λ k. base + k) change ∙
              sum_none (λ m. over s G p (base + m)) change (all_map change
              (λ m u. ap (◌&& G p.1 ((base + m) % s)) (lt-leb ((base + m) / s) p.0 (omega arith))) plane_of_lem)

          late : base / s ≤ p.0 → sum (over s G p) grown ≡ sum (G p.1) c
          late h =
              sum_all (over s G p) (λ k. G p.1 (k % s)) grown
              (all_map grown (λ k u. ap (◌&& G p.1 (k % s)) (le-leb (k / s) p.0 (omega (arith, L.stride.within base k v.begins u)))) under_grown) ∙
              sym (section_grown (G p.1))

          go : (t : Bool) → ltb p.0 (base / s) ≡ t → sum (over s G p) grown ≡ op (sum (over s G p) (take e a)) (sum (over s G p) (take f b))
          go true t =
              let h = ltb-true p.0 (base / s) t in
              sum_append (over s G p) o (plus_base base change) ∙
              ap (sum (over s G p) o ⊕◌) (early h) ∙
              ⊕_false (sum (over s G p) o) ∙
              w.means p ∙
              ap₂ op (sym (before_a p h)) (sym (before_b p h))
          go false t =
              let h = ltb-false p.0 (base / s) t in
              late h ∙ C.means p.1 ∙ ap₂ op (sym (after_a p h)) (sym (after_b p h))

      turned : Swept L op a b (base + s) e f next_a next_b c grown
      turned =
          record {
            in_a = on_a;
            in_b = on_b;
            sorted = C.rises;
            oks = C.oks;
            section = section_grown;
            rises = from_append 0 base o (plus_base base change) w.rises (all_map o (λ k h. let q = above in omega arith) w.under) (omega arith)
                (subst (λ (m : ℕ). From m (plus_base base change)) (omega arith) (from_plus base 0 change (from_merged sc c 0 w.sorted C.rises)));
            under = under_grown;
            proper = all_append (OkOver s Ok) o (plus_base base change) w.proper
                (all_image (OkOver s Ok) (λ k. base + k) change
                (all_map change
                (λ m h. (subst (λ (x : ℕ). x ≤ 1024) (sym h.0.0) ranged, subst Ok (sym h.0.1) h.1))
                (all_both (λ m. ((base + m) / s ≡ base / s) × ((base + m) % s ≡ m)) Ok change
                (all_both (λ m. (base + m) / s ≡ base / s) (λ m. (base + m) % s ≡ m) change plane_of_lem place_of) oks_change)));
            means = means_grown;
          }

      pub at_turn : At L op a b e f next_a next_b c grown
      at_turn = record { edge = base + s; edged = L.stride.next base v.begins; swept = turned }

    -- ---- no room: every whole result is longer

    module _ (whole : List ℕ) (means : Whole L op a b whole) where
      -- of a whole result, the planes up to this one
      abbrev up_to : List ℕ
      up_to = keep (λ k. ltb k (base + s)) whole

      to_here : (k x : ℕ) → (ltb k (base + s) && leb (k / s) x) ≡ leb (k / s) (min x (base / s))
      to_here k x = go (ltb k (base + s)) refl
        where
          go : (t : Bool) → ltb k (base + s) ≡ t → (t && leb (k / s) x) ≡ leb (k / s) (min x (base / s))
          go true t = let u = L.stride.within base k v.begins (ltb-true k (base + s) t) in leb_by (k / s) x (k / s) (min x (base / s))
              (λ h. omega arith) (λ h. omega arith)
          go false t = let u = L.stride.beyond base k v.begins (ltb-false k (base + s) t) in sym (lt-leb (k / s) (min x (base / s)) (omega arith))

      means_here : Whole L op (take e a) (take f b) up_to
      means_here p =
          sum_keep (over s G p) (λ k. ltb k (base + s)) whole ∙
          sum_ext (λ k. ltb k (base + s) && over s G p k) (over s G (min p.0 (base / s), p.1)) whole
          (λ k. sym (and_assoc (ltb k (base + s)) (leb (k / s) p.0) (G p.1 (k % s))) ∙ ap (◌&& G p.1 (k % s)) (to_here k p.0)) ∙
          means (min p.0 (base / s), p.1) ∙
          ap₂ op
          (sym (read_cut above v.begins w.in_a v.in_a p.0 p.1))
          (sym (read_cut above v.begins w.in_b v.in_b p.0 p.1))

      pub refuse_room : {c : List ℕ} → Section L op next_a next_b c → length o + length (merged sc c) ≤ length whole
      refuse_room {c} C =
          let u = turned C in
          let h = no_longer 0 (grown C) up_to u.rises (L.apart (grown C) up_to (λ p. u.means p ∙ sym (means_here p))) in
          omega (arith, keep_length (λ k. ltb k (base + s)) whole, h, length-append o (plus_base base (merged sc c)), length-map (merged sc c) (λ k. base + k))

  -- ---- what a level's join promises

  module _ {op : Bool → Bool → Bool} {a b before now : List ℕ} {r : ℕ} (long : length now ≡ length before) where
    pub joined_done : {i j : ℕ} {sa sb sc : List ℕ} → At L op a b i j sa sb sc (take r now) → length a ≤ i → length b ≤ j → r ≤ length before
        → Joined (over s G) (OkOver s Ok) op a b before now r
    joined_done {i} {j} t h k room =
        record {
          long = long;
          rising = λ u. t.swept.rises;
          proper = λ u. t.swept.proper;
          means = λ u p.
              odd_count (over s G p) (take r now) ∙
              t.swept.means p ∙
              ap₂ (λ l m. op (sum (over s G p) l) (sum (over s G p) m)) (take_all i a h) (take_all j b k) ∙
              ap₂ op (sym (odd_count (over s G p) a)) (sym (odd_count (over s G p) b));
          short = λ u. absurd (omega arith);
        }
