-- From the sweep's lists of keys to the one list of the operation.
--   result_keys      a rising list of keys in range that means the operation is the one list's
--   one_means        the keys of the one list mean the operation
--   swept, swept_short, merged_result   what a sweep with and without room, and a merge, show of the one list
--   map_valid, map_read     the vertices of a travel map are a valid list; working room that a travel map was read into
--   done, short      what the two ends of a join in working room leave
-- Assumes nothing.
use mathlib.Core.Path.{◌≡◌, refl, sym, ◌∙◌, ap, ap₂, subst, subst₂}
use mathlib.Core.Bool.{Bool, true, false, not, ◌&&◌, ◌||◌, and-true}
use mathlib.Core.List.{List, ◌++◌, map}
use mathlib.Core.Option.{some}
use Prim.Native.Nat.{ℕ, ◌*◌, ◌/◌, ◌%◌, ◌≤◌, ◌<◌}
use native.Mathlib.Nat.{div-one}
use native.Mathlib.Omega.{arith}
use lib.Dec.{leb}
use lib.IntN.{ℤ}
use lib.ListN.{length, take, drop, length-map}
use lib.Seq.{length-take-le}
use borrow.Author.Tests.{leb-true, leb-false}
use Rattle.std.specs.Prelude.{None, Some}
use Rattle.meaning.specs.Numbers.{cell, number}
use Rattle.meaning.specs.declared.Cell.{Cell}
use Rattle.meaning.specs.declared.Corner.{Corner}
use Rattle.meaning.specs.Counting.{All}
use Rattle.meaning.specs.Lists.{vertices, numbers, permitted, most_vertices, Valid}
use Rattle.meaning.specs.OneList.{WithinCodes}
use Rattle.meaning.specs.Operations.{Operation, operation, holds, join, joined_list}
use Rattle.meaning.proofs.Parity.{◌⊕◌, sum, sum_ext, odd_count}
use Rattle.meaning.proofs.Space.{all_map}
use Rattle.meaning.proofs.Maps.{valid_within, one_permits, one_rising, one_corners}
use Rattle.meaning.proofs.Making.{join_within}
use Rattle.meaning.proofs.Checked.{verdict_valid}
use Rattle.codes.specs.Keys.{key_of, of_key}
use Rattle.lists.specs.declared.TravelMap.{TravelMap}
use Rattle.keys.specs.Parts.{KeyOk, key_fits}
use Rattle.keys.proofs.Corners.{keys_ok, keys_rise, permitted_corners, one_keys_lem}
use Rattle.rising.specs.Merged.{From, merged}
use Rattle.rising.proofs.Sums.{sum_merged, from_merged, all_merged}
use Rattle.rows.specs.Rows.{or_exclusive, holds_by}
use Rattle.turn.proofs.Lists.{front_of}
use Rattle.levels.specs.Level.{Operand, plane_fits, PlaneOk, Joined}
use Rattle.sweep.specs.Room.{InRoom}

-- ---- keys of the sweep are keys of corners

pub key_of_plane : (k : ℕ) → KeyOk k → PlaneOk k
key_of_plane k h = (h.0, (h.1.0, (omega (arith, h.1.1), omega arith)))

pub plane_of_key : (k : ℕ) → PlaneOk k → KeyOk k
plane_of_key k h = (h.0, (h.1.0, omega (arith, h.1.1.0)))

fits_key : (x y z k : ℕ) → plane_fits (x, (y, (z, tt))) k ≡ key_fits x y z k
fits_key x y z k =
    ap (λ t. leb (k / 2099200) x && (leb (k % 2099200 / 2048) y && t)) (and-true (leb (k % 2099200 % 2048 / 1) z) ∙ ap (λ n. leb n z)
    (div-one (k % 2099200 % 2048)))

holds_by_lem : (op : ℕ) (o : Operation) → operation op ≡ some o → (s t : Bool) → holds_by op s t ≡ holds o s t
holds_by_lem op o e s t = ap (λ x. holds (or_exclusive x) s t) e

module _ (op : ℕ) (o : Operation) (is : operation op ≡ some o) (a b : List ℤ) (va : Valid (vertices a)) (vb : Valid (vertices b)) where
  abbrev keys_a : List ℕ
  keys_a = map key_of (vertices a)

  abbrev keys_b : List ℕ
  keys_b = map key_of (vertices b)

  abbrev cells : Cell → Bool
  cells = join o (permitted (vertices a)) (permitted (vertices b))

  within : WithinCodes cells
  within = join_within o (permitted (vertices a)) (permitted (vertices b)) (valid_within (vertices a) va) (valid_within (vertices b) vb)

  -- the operation of what the two lists permit, at a cell that is given by steps
  at_cell : (x y z : ℕ) → holds_by op (sum (plane_fits (x, (y, (z, tt)))) keys_a) (sum (plane_fits (x, (y, (z, tt)))) keys_b)
      ≡ cells (cell (number x) (number y) (number z))
  at_cell x y z =
      holds_by_lem op o is (sum (plane_fits (x, (y, (z, tt)))) keys_a) (sum (plane_fits (x, (y, (z, tt)))) keys_b) ∙
      ap₂ (holds o)
      (sum_ext (plane_fits (x, (y, (z, tt)))) (key_fits x y z) keys_a (fits_key x y z) ∙ sym (permitted_corners x y z (vertices a) va.corners))
      (sum_ext (plane_fits (x, (y, (z, tt)))) (key_fits x y z) keys_b (fits_key x y z) ∙ sym (permitted_corners x y z (vertices b) vb.corners))

  pub result_keys : (ks : List ℕ) → From 0 ks → All PlaneOk ks
      → ((p : ℕ × (ℕ × (ℕ × Unit {0}))) → sum (plane_fits p) ks ≡ holds_by op (sum (plane_fits p) keys_a) (sum (plane_fits p) keys_b))
      → map of_key ks ≡ joined_list o a b
  result_keys ks r ok m =
      one_keys_lem cells within ks r (all_map ks plane_of_key ok)
      (λ x y z. sym (sum_ext (plane_fits (x, (y, (z, tt)))) (key_fits x y z) ks (fits_key x y z)) ∙ m (x, (y, (z, tt))) ∙ at_cell x y z)

  abbrev one_keys : List ℕ
  one_keys = map key_of (joined_list o a b)

  one_from : From 0 one_keys
  one_from = keys_rise (joined_list o a b) (one_corners cells) (one_rising cells)

  one_means : (p : ℕ × (ℕ × (ℕ × Unit {0}))) → sum (plane_fits p) one_keys ≡ holds_by op (sum (plane_fits p) keys_a) (sum (plane_fits p) keys_b)
  one_means p =
      sum_ext (plane_fits p) (key_fits p.0 p.1.0 p.1.1.0) one_keys (fits_key p.0 p.1.0 p.1.1.0) ∙
      sym (permitted_corners p.0 p.1.0 p.1.1.0 (joined_list o a b) (one_corners cells)) ∙
      one_permits cells within (cell (number p.0) (number p.1.0) (number p.1.1.0)) ∙
      sym (at_cell p.0 p.1.0 p.1.1.0)

  -- what the sweep leaves
  pub swept : (room now : List ℕ) (n : ℕ) → Joined plane_fits PlaneOk (holds_by op) keys_a keys_b room now n → n ≤ length room
      → map of_key (take n now) ≡ joined_list o a b
  swept room now n j h =
      result_keys (take n now) (j.rising h) (j.proper h)
      (λ p. sym (odd_count (plane_fits p) (take n now)) ∙ j.means h p ∙ ap₂ (holds_by op) (odd_count (plane_fits p) keys_a) (odd_count (plane_fits p) keys_b))

  pub swept_short : (room now : List ℕ) (n : ℕ) → Joined plane_fits PlaneOk (holds_by op) keys_a keys_b room now n → length room < n
      → length room < length (joined_list o a b)
  swept_short room now n j h =
      omega (
        arith,
        length-map (joined_list o a b) key_of,
        j.short h one_keys one_from
            (λ p. odd_count (plane_fits p) one_keys ∙ one_means p ∙ ap₂ (holds_by op) (sym (odd_count (plane_fits p) keys_a)) (sym (odd_count (plane_fits p) keys_b))),
      )

  pub rises_a : From 0 keys_a
  rises_a = keys_rise (vertices a) va.corners va.rising

  pub rises_b : From 0 keys_b
  rises_b = keys_rise (vertices b) vb.corners vb.rising

  pub proper_a : All PlaneOk keys_a
  proper_a = all_map keys_a key_of_plane (keys_ok (vertices a) va.corners)

  pub proper_b : All PlaneOk keys_b
  proper_b = all_map keys_b key_of_plane (keys_ok (vertices b) vb.corners)

  -- exclusive or is the merge
  pub merged_result : op ≡ 4 → map of_key (merged keys_a keys_b) ≡ joined_list o a b
  merged_result e =
      result_keys (merged keys_a keys_b) (from_merged keys_a keys_b 0 rises_a rises_b) (all_merged PlaneOk keys_a keys_b proper_a proper_b)
      (λ p. sum_merged (plane_fits p) keys_a keys_b ∙ sym (ap (λ n. holds_by n (sum (plane_fits p) keys_a) (sum (plane_fits p) keys_b)) e ∙ exclusively
      (sum (plane_fits p) keys_a) (sum (plane_fits p) keys_b)))
    where
      exclusively : (s t : Bool) → (s && not t || not s && t) ≡ (s ⊕ t)
      exclusively true true = refl
      exclusively true false = refl
      exclusively false t = refl

-- ---- the keys of a list

-- a valid list, and working room whose front is its keys
pub record Read (a : List ℤ) (n : ℕ) (k : List ℕ) : Type 0 where
  pub valid : Valid (vertices a)
  pub count : n ≡ length (vertices a)
  pub front : take n k ≡ map key_of (vertices a)

pub was_read : (a : List ℤ) (n : ℕ) (old k : List ℕ) → Valid (vertices a) → (n ≡ length (vertices a)) × (k ≡ map key_of (vertices a) ++ drop n old) → Read a n k
was_read a n old k v e =
    record { valid = v; count = e.0; front = front_of n (map key_of (vertices a)) old k (e.0 ∙ sym (length-map (vertices a) key_of)) e.1 }

pub map_valid : (m : TravelMap) → Valid (vertices m.list.now)
map_valid m = ((verdict_valid m.list.now).0 m.passes).1

pub map_read : (m : TravelMap) (n : ℕ) (old k : List ℕ) → (n ≡ length (vertices m.list.now)) × (k ≡ map key_of (vertices m.list.now) ++ drop n old)
    → Read m.list.now n k
map_read m n old k = was_read m.list.now n old k (map_valid m)

module _ {a : List ℤ} {n : ℕ} {k : List ℕ} (r : Read a n k) where
  pub part : n ≡ length (take n k)
  part = r.count ∙ sym (ap length r.front ∙ length-map (vertices a) key_of)

  pub operand : Operand PlaneOk (take n k)
  operand =
      subst (Operand PlaneOk) (sym r.front)
      (keys_rise (vertices a) r.valid.corners r.valid.rising, all_map (map key_of (vertices a)) key_of_plane (keys_ok (vertices a) r.valid.corners))

pub read_room : (l : List Corner) → Valid l → length l ≤ 1024
unfolding most_vertices
read_room l v = v.few

-- ---- a join in working room

module _ (op most : ℕ) {a b : List ℤ} {ra rb : ℕ} {ka kb : List ℕ} (x : Read a ra ka) (y : Read b rb kb) (kr now : List ℕ) {n : ℕ} (hm : most ≤ length kr)
    (j : Joined plane_fits PlaneOk (holds_by op) (take ra ka) (take rb kb) kr now n) where
  on_keys : Joined plane_fits PlaneOk (holds_by op) (map key_of (vertices a)) (map key_of (vertices b)) kr now n
  on_keys = subst₂ (λ (x y : List ℕ). Joined plane_fits PlaneOk (holds_by op) x y kr now n) x.front y.front j

  pub fits : n ≤ most → n ≤ length now
  fits h = omega (arith, j.long)

  pub ok : n ≤ most → All KeyOk (take n now)
  ok h = all_map (take n now) plane_of_key (j.proper (omega arith))

  -- where the whole list was swept, its length is the answer
  whole : n ≤ length kr → (o : Operation) → operation op ≡ some o → n ≡ length (joined_list o a b)
  whole h o is =
      sym (length-take-le n now (omega (arith, j.long))) ∙ sym (length-map (take n now) of_key) ∙ ap length
      (swept op o is a b x.valid y.valid kr now n on_keys h)

  pub done : {before after : List ℤ} → n ≤ most → after ≡ numbers (map of_key (take n now)) ++ drop (3 * length (take n now)) before
      → InRoom op a b most before (Some n) after
  done {before} {after} h w o is =
      let e = swept op o is a b x.valid y.valid kr now n on_keys (omega arith) in
      let l = whole (omega arith) o is in
      record {
        fits = λ u. (ap Some l, w ∙ ap₂ (λ x k. numbers x ++ drop (3 * k) before) e (length-take-le n now (fits h) ∙ l));
        short = λ u. absurd (omega arith);
      }

  pub short : {before : List ℤ} → most < n → InRoom op a b most before None before
  short {before} h o is = let u = longer (leb n (length kr)) refl in record { fits = λ v. absurd (omega arith); short = λ v. (refl, refl) }
    where
      longer : (t : Bool) → leb n (length kr) ≡ t → most < length (joined_list o a b)
      longer true t = omega (arith, whole (leb-true n (length kr) t) o is)
      longer false t = omega (arith, swept_short op o is a b x.valid y.valid kr now n on_keys (leb-false n (length kr) t))
