-- Laws that docs/PORT.md names and that no proof cites.
--   held                 the keys of a list that was read lie within the working room
--   Working              so many keys for each operand, the result, the section of each operand, and a merge
--   equal_rooms, rooms   working room of equal lists; what the sweep asks of working room that two lists were read into
use mathlib.Core.Path.{◌≡◌, refl}
use mathlib.Core.List.{List}
use Prim.Native.Nat.{ℕ, ◌≤◌, ◌^◌}
use native.Mathlib.Omega.{arith}
use lib.IntN.{ℤ}
use lib.ListN.{length, take, length-take}
use Rattle.meaning.specs.Lists.{vertices}
use Rattle.sweep.proofs.Whole.{Read, part}

pub held : {a : List ℤ} {n : ℕ} {k : List ℕ} → Read a n k → n ≤ length k
held {n = n} {k} r = omega (arith, part r, length-take n k)

-- ---- working room

pub record Working (ka kb kr sa sb room : List ℕ) : Type 0 where
  pub few : length kr ≤ 1024
  pub is_ka : length ka ≡ length kr
  pub is_kb : length kb ≡ length kr
  pub is_sa : length sa ≡ length kr
  pub is_sb : length sb ≡ length kr
  pub is_room : length room ≡ length kr

pub equal_rooms : (z : List ℕ) → length z ≤ 1024 → Working z z z z z z
equal_rooms z h = record { few = h; is_ka = refl; is_kb = refl; is_sa = refl; is_sb = refl; is_room = refl }

pub rooms : {ka kb kr sa sb room : List ℕ} → Working ka kb kr sa sb room → {a b : List ℤ} {na nb : ℕ} {ka' kb' : List ℕ} → Read a na ka' → Read b nb kb'
    → length (vertices a) ≤ length kr → length (vertices b) ≤ length kr
    → ((length (take na ka') ≤ length sa) × (length (take nb kb') ≤ length sb) × (length (take na ka') ≤ length room) × (length (take nb kb') ≤ length room)) ×
    ((length (take na ka') ≤ 2 ^ 20) × (length (take nb kb') ≤ 2 ^ 20) × (length kr ≤ 2 ^ 20))
rooms w x y ha hb =
    let px = part x in
    let py = part y in
    let cx = x.count in
    let cy = y.count in (
      (omega (arith, w.is_sa), omega (arith, w.is_sb), omega (arith, w.is_room), omega (arith, w.is_room)),
      (omega (arith, w.few), omega (arith, w.few), omega (arith, w.few)),
    )
