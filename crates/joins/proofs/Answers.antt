-- From the one list of an operation to what a join comes to.
--   join_settled     two outcomes that the promise allows are equal: the values tell the answers apart
--   made, not_made   a list that fits in a result is placed as promised; one that does not fit is refused
--   map_refused, map_taken    what taking a list for a map comes to, its refusal in a join's variant
--   joined, no_room_lem, joined_or_not, first_refused, second_refused, bad_low, bad_high    the ends of a join
-- Assumes nothing.
use mathlib.Core.Path.{◌≡◌, refl, sym, ◌∙◌, ap, ap₂, subst}
use mathlib.Core.Bool.{Bool, true, false, ◌&&◌, cond, and-true, and-false}
use mathlib.Core.List.{List, ◌++◌, map}
use mathlib.Core.Option.{none, some}
use Prim.Native.Nat.{ℕ, zero, suc, ◌+◌, ◌-◌, ◌*◌, ◌/◌, ◌≤◌, ◌<◌, min}
use native.Mathlib.Omega.{arith}
use lib.Dec.{leb, eqb}
use lib.IntN.{ℤ}
use lib.ListN.{length, take, drop, length-map}
use borrow.Author.Tests.{le-leb, lt-leb, leb-true, leb-false, eqb-true, eqb-false, ne_eqb}
use Rattle.std.specs.Prelude.{Option, None, Some, Result, Ok, Err, ok_or, MatchResult, IfOk, IfErr}
use Rattle.meaning.specs.declared.Corner.{Corner}
use Rattle.meaning.specs.Counting.{All}
use Rattle.meaning.specs.Lists.{vertices, numbers, most_vertices}
use Rattle.meaning.specs.Operations.{Operation, union, overlap, without, exclusive, operation, joined_list}
use Rattle.meaning.specs.Verdicts.{Verdict, verdict, passes}
use Rattle.meaning.specs.declared.Refusal.{Refusal}
use Rattle.meaning.specs.Outcomes.{Values, Outcome, outcome, Nothing, nothing, done, refused, bad_operation, kept, named, checked, per_vertex, fits, placed}
use Rattle.meaning.proofs.Integers.{leb_by}
use Rattle.meaning.proofs.Outcomes.{verdict_by, verdict_back, checked_next, checked_refused, placed_fits, placed_short}
use Rattle.meaning.proofs.Made.{length_numbers}
use Rattle.lists.specs.declared.TravelMap.{TravelMap}
use Rattle.codes.specs.Keys.{key_of, of_key}
use Rattle.keys.specs.Parts.{KeyOk}
use Rattle.keys.proofs.Corners.{keys_ok}
use Rattle.rising.specs.Merged.{merged, less_base}
use Rattle.rising.proofs.Sums.{all_merged, length_merged}
use Rattle.turn.proofs.Lists.{less_zero, front_of}
use Rattle.sweep.specs.Room.{Filled, InRoom}
use Rattle.sweep.proofs.Whole.{Read, part, merged_result, read_room}
use Rattle.joins.specs.Join.{Joining, join_values, join_says, joined_by, join_outcome, JoinMade}
use Rattle.joins.specs.declared.JoinError.{JoinError}
use Rattle.joins.specs.declared.JoinError.TheVariants.{BadOperation, FirstRefused, SecondRefused, NoRoom}

-- ---- the values tell the answers apart

abbrev refused_as : (Refusal → JoinError) → Verdict → Joining
refused_as error (Ok tt) = Ok 0
refused_as error (Err r) = Err (error r)

-- the answer with these values: the operand names the list that was refused; without one the number decides
abbrev joining_by : ℕ → Values → Joining
joining_by zero s = cond (eqb s.number 0) (Ok s.count) (cond (eqb s.number 6) (Err NoRoom) (Err BadOperation))
joining_by (suc zero) s = refused_as FirstRefused (verdict_by s.number s.place)
joining_by (suc (suc n)) s = refused_as SecondRefused (verdict_by s.number s.place)

values_back : (r : Joining) → joining_by (join_values r).operand (join_values r) ≡ r
values_back (Ok n) = refl
values_back (Err BadOperation) = refl
values_back (Err (FirstRefused r)) = ap (refused_as FirstRefused) (verdict_back (Err r))
values_back (Err (SecondRefused r)) = ap (refused_as SecondRefused) (verdict_back (Err r))
values_back (Err NoRoom) = refl

pub join_settled : (op : ℕ) (a b before : List ℤ) (r s : Joining) (x y : List ℤ)
    → JoinMade op a b before r x → JoinMade op a b before s y → (r ≡ s) × (x ≡ y)
unfolding JoinMade
join_settled op a b before r s x y h k =
    let e : join_says r x ≡ join_says s y = h ∙ sym k in
    (sym (values_back r) ∙ ap (λ o. joining_by o.values.operand o.values) e ∙ values_back s, ap (λ o. o.left) e)

-- ---- room

pub triple_room : {n room : ℕ} → n ≡ min most_vertices (room / 3) → (n ≤ most_vertices) × (3 * n ≤ room)
triple_room e = (omega arith, omega arith)

-- room for as many as fit is room for the list
as_fits : (l : List Corner) (room most : ℕ) → most ≡ min most_vertices (room / 3) → leb (length l) most ≡ fits per_vertex l room
as_fits l room most e = go (leb (length l) most_vertices) refl
  where
    go : (t : Bool) → leb (length l) most_vertices ≡ t → leb (length l) most ≡ (leb (3 * length l) room && t)
    go true f =
        let h = leb-true (length l) most_vertices f in
        leb_by (length l) most (3 * length l) room (λ u. omega arith) (λ u. omega arith) ∙ sym (and-true (leb (3 * length l) room))
    go false f =
        lt-leb (length l) most (omega (arith, leb-false (length l) most_vertices f)) ∙ sym (and-false (leb (3 * length l) room))

some_none : {n : ℕ} → ◌≡◌ {A = Option ℕ} (Some n) None → ⊥
some_none h = cc

some_once : {m n : ℕ} → ◌≡◌ {A = Option ℕ} (Some m) (Some n) → m ≡ n
some_once h = cc

module _ {l : List Corner} {most : ℕ} {r : Option ℕ} {before after : List ℤ} (f : Filled l most before r after) where
  -- the list fits where there is a count, and does not where there is none
  fits_by : {n : ℕ} → r ≡ Some n → length l ≤ most
  fits_by h = go (leb (length l) most) refl
    where
      go : (t : Bool) → leb (length l) most ≡ t → length l ≤ most
      go true t = leb-true (length l) most t
      go false t = absurd (some_none (sym h ∙ (f.short (leb-false (length l) most t)).0))

  short_by : r ≡ None → most < length l
  short_by h = go (leb (length l) most) refl
    where
      go : (t : Bool) → leb (length l) most ≡ t → most < length l
      go true t = absurd (some_none (sym (f.fits (leb-true (length l) most t)).0 ∙ h))
      go false t = leb-false (length l) most t

  module _ (e : most ≡ min most_vertices (length before / 3)) where
    pub made : {n : ℕ} → r ≡ Some n → join_says (Ok n) after ≡ placed per_vertex numbers l before
    made h =
        let u = f.fits (fits_by h) in
        let g = sym (as_fits l (length before) most e) ∙ le-leb (length l) most (fits_by h) in
        ap₂ (λ n x. outcome (done n) nothing x) (some_once (sym h ∙ u.0)) (u.1 ∙ ap (λ n. numbers l ++ drop n before) (sym (length_numbers l))) ∙
        sym (placed_fits per_vertex numbers l before g)

    pub not_made : r ≡ None → join_says (Err NoRoom) after ≡ placed per_vertex numbers l before
    not_made h =
        let g = sym (as_fits l (length before) most e) ∙ lt-leb (length l) most (short_by h) in
        ap (join_says (Err NoRoom)) (f.short (short_by h)).1 ∙ sym (placed_short per_vertex numbers l before g)

  -- first in small room: a list that fits there fits; one that does not leaves all as it was
  pub small_fits : {more n : ℕ} → most ≤ more → r ≡ Some n → Filled l more before r after
  small_fits u h = let k = fits_by h in record { fits = λ v. f.fits k; short = λ v. absurd (omega arith) }

  pub small_kept : r ≡ None → after ≡ before
  small_kept h = (f.short (short_by h)).1

-- ---- exclusive or is one merge

module _ {a b : List ℤ} {ra rb : ℕ} {ka kb : List ℕ} (x : Read a ra ka) (y : Read b rb kb) where
  pub lengths : length (take ra ka) + length (take rb kb) ≤ 2048
  lengths = omega (arith, part x, part y, x.count, y.count, read_room (vertices a) x.valid, read_room (vertices b) y.valid)

  module _ (n : ℕ) (room now : List ℕ) (m : (n ≡ length (merged (take ra ka) (less_base 0 (take rb kb)))) ×
      (now ≡ merged (take ra ka) (less_base 0 (take rb kb)) ++ drop n room)) where
    front : take n now ≡ merged (map key_of (vertices a)) (map key_of (vertices b))
    front = front_of n (merged (take ra ka) (less_base 0 (take rb kb))) room now m.0 m.1 ∙ ap₂ merged x.front (less_zero (take rb kb) ∙ y.front)

    long : length (take n now) ≡ n
    long = ap length (front_of n (merged (take ra ka) (less_base 0 (take rb kb))) room now m.0 m.1) ∙ sym m.0

    result : map of_key (take n now) ≡ joined_list exclusive a b
    result = ap (map of_key) front ∙ merged_result 4 exclusive refl a b x.valid y.valid refl

    count : n ≡ length (joined_list exclusive a b)
    count = sym long ∙ sym (length-map (take n now) of_key) ∙ ap length result

    pub merge_within : n ≤ 2048
    merge_within = omega (arith, m.0, length_merged (take ra ka) (less_base 0 (take rb kb)), length-map (take rb kb) (λ k. k - 0), lengths)

    pub merge_ok : All KeyOk (take n now)
    merge_ok =
        subst (All KeyOk) (sym front)
        (all_merged KeyOk (map key_of (vertices a)) (map key_of (vertices b)) (keys_ok (vertices a) x.valid.corners)
        (keys_ok (vertices b) y.valid.corners))

    module _ {most : ℕ} {before : List ℤ} where
      pub merge_done : {after : List ℤ} → n ≤ most → after ≡ numbers (map of_key (take n now)) ++ drop (3 * length (take n now)) before
          → Filled (joined_list exclusive a b) most before (Some n) after
      merge_done h w =
          record { fits = λ u. (ap Some count, w ∙ ap₂ (λ l k. numbers l ++ drop (3 * k) before) result (long ∙ count)); short = λ u. absurd (omega (arith, count)) }

      pub merge_short : most < n → Filled (joined_list exclusive a b) most before None before
      merge_short h = record { fits = λ u. absurd (omega (arith, count)); short = λ u. (refl, refl) }

-- the operation with that number
pub exclusively : (a b : List ℤ) {most : ℕ} {r : Option ℕ} {before after : List ℤ} (op : ℕ) → op ≡ 4 → Filled (joined_list exclusive a b) most before r after
    → InRoom op a b most before r after
exclusively a b {most} {r} {before} {after} op e f o is =
    let q : exclusive ≡ o = opened (sym (ap operation e) ∙ is) in subst (λ (x : Operation). Filled (joined_list x a b) most before r after) q f
  where
    opened : {x y : Operation} → some x ≡ some y → x ≡ y
    opened {x} {y} h = cc

-- ---- the public function

-- an operation is one of 1 to 4
op_none : (op : ℕ) → (op ≡ 1 → ⊥) → (op ≡ 2 → ⊥) → (op ≡ 3 → ⊥) → (op ≡ 4 → ⊥) → operation op ≡ none
op_none op h k l m =
    ap (λ t. cond t (some union) (cond (eqb op 2) (some overlap) (cond (eqb op 3) (some without) (cond (eqb op 4) (some exclusive) none)))) (ne_eqb op 1 h) ∙
    ap (λ t. cond t (some overlap) (cond (eqb op 3) (some without) (cond (eqb op 4) (some exclusive) none))) (ne_eqb op 2 k) ∙
    ap (λ t. cond t (some without) (cond (eqb op 4) (some exclusive) none)) (ne_eqb op 3 l) ∙
    ap (λ t. cond t (some exclusive) none) (ne_eqb op 4 m)

op_some : (op : ℕ) → 1 ≤ op → op ≤ 4 → (o : Operation) × (operation op ≡ some o)
op_some op h k = go (eqb op 1) refl (eqb op 2) refl (eqb op 3) refl
  where
    by : (n : ℕ) (o : Operation) → operation n ≡ some o → op ≡ n → (o' : Operation) × (operation op ≡ some o')
    by n o e q = (o, ap operation q ∙ e)

    go : (s : Bool) → eqb op 1 ≡ s → (t : Bool) → eqb op 2 ≡ t → (u : Bool) → eqb op 3 ≡ u → (o : Operation) × (operation op ≡ some o)
    go true p t q u r = by 1 union refl (eqb-true op 1 p)
    go false p true q u r = by 2 overlap refl (eqb-true op 2 q)
    go false p false q true r = by 3 without refl (eqb-true op 3 r)
    go false p false q false r =
        let x = eqb-false op 1 p in
        let y = eqb-false op 2 q in
        let z = eqb-false op 3 r in
        by 4 exclusive refl (omega arith)

module _ (op : ℕ) (a b before : List ℤ) where
  unnamed : operation op ≡ none → JoinMade op a b before (Err BadOperation) before
  unfolding JoinMade
  unnamed e = sym (ap (λ x. named x (kept nothing before bad_operation) (joined_by a b before)) e)

  pub bad_low : op < 1 → JoinMade op a b before (Err BadOperation) before
  bad_low h = unnamed (op_none op (λ q. omega arith) (λ q. omega arith) (λ q. omega arith) (λ q. omega arith))

  pub bad_high : 4 < op → JoinMade op a b before (Err BadOperation) before
  bad_high h = unnamed (op_none op (λ q. omega arith) (λ q. omega arith) (λ q. omega arith) (λ q. omega arith))

  -- what a join comes to, by the operation, and then by the two lists
  module _ (o : Operation) (is : operation op ≡ some o) where
    pub by_operation : join_outcome op a b before ≡ joined_by a b before o
    by_operation = ap (λ x. named x (kept nothing before bad_operation) (joined_by a b before)) is

    abbrev after_first : Outcome Nothing (List ℤ)
    after_first = checked 2 (verdict b) (kept nothing before) (placed per_vertex numbers (joined_list o a b) before)

    pub by_first : passes (verdict a) ≡ false → join_outcome op a b before ≡ kept nothing before (refused 1 (verdict a))
    by_first g = by_operation ∙ checked_refused 1 (verdict a) (kept nothing before) after_first g

    module _ (ga : passes (verdict a) ≡ true) where
      passed_first : join_outcome op a b before ≡ after_first
      passed_first = by_operation ∙ checked_next 1 (verdict a) (kept nothing before) after_first ga

      pub by_second : passes (verdict b) ≡ false → join_outcome op a b before ≡ kept nothing before (refused 2 (verdict b))
      by_second g = passed_first ∙ checked_refused 2 (verdict b) (kept nothing before) (placed per_vertex numbers (joined_list o a b) before) g

      pub by_list : passes (verdict b) ≡ true → join_outcome op a b before ≡ placed per_vertex numbers (joined_list o a b) before
      by_list g = passed_first ∙ checked_next 2 (verdict b) (kept nothing before) (placed per_vertex numbers (joined_list o a b) before) g

  module _ (low : 1 ≤ op) (high : op ≤ 4) where
    pub first_refused : (r : Refusal) → verdict a ≡ Err r → JoinMade op a b before (Err (FirstRefused r)) before
    unfolding JoinMade
    first_refused r e =
        let (o, is) = op_some op low high in
        ap (λ v. kept nothing before (refused 1 v)) (sym e) ∙ sym (by_first o is (ap passes e))

    module _ (ga : passes (verdict a) ≡ true) where
      pub second_refused : (r : Refusal) → verdict b ≡ Err r → JoinMade op a b before (Err (SecondRefused r)) before
      unfolding JoinMade
      second_refused r e =
          let (o, is) = op_some op low high in
          ap (λ v. kept nothing before (refused 2 v)) (sym e) ∙ sym (by_second o is ga (ap passes e))

      module _ (gb : passes (verdict b) ≡ true) {most : ℕ} {r : Option ℕ} {after : List ℤ} (e : most ≡ min most_vertices (length before / 3))
          (f : InRoom op a b most before r after) where
        pub joined : {n : ℕ} → r ≡ Some n → JoinMade op a b before (Ok n) after
        unfolding JoinMade
        joined h = let (o, is) = op_some op low high in made (f o is) e h ∙ sym (by_list o is ga gb)

        pub no_room_lem : r ≡ None → JoinMade op a b before (Err NoRoom) after
        unfolding JoinMade
        no_room_lem h = let (o, is) = op_some op low high in not_made (f o is) e h ∙ sym (by_list o is ga gb)

        pub joined_or_not : JoinMade op a b before (ok_or r NoRoom) after
        joined_or_not = go r refl
          where
            go : (o : Option ℕ) → r ≡ o → JoinMade op a b before (ok_or o NoRoom) after
            go (Some n) h = joined h
            go None h = no_room_lem h

-- ---- a list taken for a map, its refusal in a join's variant

no_map : {m : TravelMap} {e : JoinError} → ◌≡◌ {A = Result TravelMap JoinError} (Err e) (Ok m) → ⊥
no_map h = cc

one_map : {m n : TravelMap} → ◌≡◌ {A = Result TravelMap JoinError} (Ok m) (Ok n) → m ≡ n
one_map h = cc

pub map_refused : (ns : List ℤ) (v : Result TravelMap Refusal) (error : Refusal → JoinError) {e : JoinError} → IfErr v (λ r. verdict ns ≡ Err r)
    → MatchResult v (λ m. ◌≡◌ {A = Result TravelMap JoinError} (Err e) (Ok m)) (λ r. e ≡ error r) → (r : Refusal) × (e ≡ error r) × (verdict ns ≡ Err r)
map_refused ns (Ok m) error q h = absurd (no_map h)
map_refused ns (Err r) error q h = (r, h, q)

pub map_taken : (ns : List ℤ) (v : Result TravelMap Refusal) (m : TravelMap) → IfOk v (λ n. n.list.now ≡ ns)
    → MatchResult v (λ n. ◌≡◌ {A = Result TravelMap JoinError} (Ok m) (Ok n)) (λ r. ⊥) → (m.list.now ≡ ns) × (passes (verdict ns) ≡ true)
map_taken ns (Ok n) m q h = let e = ap (λ x. x.list.now) (one_map h) ∙ q in (e, ap (λ x. passes (verdict x)) (sym e) ∙ ap passes m.passes)
map_taken ns (Err r) m q h = absurd h
