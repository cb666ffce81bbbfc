-- The loops between lists of numbers and lists of keys.
--   Reading      the keys of the first i vertices are written
--   three, two   a corner's and a pair's numbers, written one by one
--   part         the next numbers are written into a part of a slice
-- Assumes nothing.
use mathlib.Core.Path.{◌≡◌, refl, sym, ◌∙◌, ap, subst}
use mathlib.Core.List.{List, [], ◌∷◌, ◌++◌, map, append_assoc}
use Prim.Native.Nat.{ℕ, suc, ◌+◌, ◌*◌, ◌≤◌, ◌<◌}
use native.Mathlib.Omega.{arith}
use native.Mathlib.Numerals.{add-one}
use borrow.Author.Tests.{le-leb}
use borrow.Rule.Slice.PartMut.{put_mid, same_len_mid}
use lib.IntN.{ℤ, pos}
use lib.ListN.{length, take, drop, set, get_or, length-drop, length-map}
use lib.Seq.{drop-cons, drop-drop, length-take-le}
use mir.Syntax.{w16}
use mir.Val.{to_z, of_z}
use mir.ValLaws.{to_z-of_z}
use Rattle.std.proofs.lemmas.Slice.{take-put_mid, drop-put_mid}
use Rattle.meaning.specs.Numbers.{number}
use Rattle.meaning.specs.Lists.{vertices}
use Rattle.codes.specs.Keys.{key_of, corner_at}
use Rattle.rising.proofs.Written.{Written, one, to_come, all}
use Rattle.codes.proofs.Laws.{number_fits_lem, is_number_number}
use Rattle.keys.proofs.Corners.{Corners}

-- ---- vertices from a place on

vertices_from : (ns : List ℤ) (i : ℕ) → 3 * i + 2 < length ns → vertices (drop (3 * i) ns) ≡ corner_at ns i ∷ vertices (drop (3 * (i + 1)) ns)
vertices_from ns i h =
    ap vertices
    (drop-cons ns (3 * i) (pos 0) (omega arith) ∙
    ap (get_or ns (3 * i) (pos 0) ∷◌)
    (ap (λ k. drop k ns) (sym (add-one (3 * i))) ∙
    drop-cons ns (3 * i + 1) (pos 0) (omega arith) ∙
    ap (get_or ns (3 * i + 1) (pos 0) ∷◌)
    (ap (λ k. drop k ns) two ∙
    drop-cons ns (3 * i + 2) (pos 0) (omega arith) ∙
    ap (λ k. get_or ns (3 * i + 2) (pos 0) ∷ drop k ns) three)))
  where
    two : suc (3 * i + 1) ≡ 3 * i + 2
    two = omega arith

    three : suc (3 * i + 2) ≡ 3 * (i + 1)
    three = omega arith

few_none : (ns : List ℤ) → length ns < 3 → vertices ns ≡ []
few_none [] h = refl
few_none (x ∷ []) h = refl
few_none (x ∷ y ∷ []) h = refl
few_none (x ∷ y ∷ z ∷ l) h = absurd (omega arith)

pub record Reading (ns : List ℤ) (before now : List ℕ) (i : ℕ) : Type 0 where
  pub room : i + length (vertices (drop (3 * i) ns)) ≤ length before
  pub corners : Corners (vertices (drop (3 * i) ns))
  pub written : Written (map key_of (vertices ns)) (map key_of (vertices (drop (3 * i) ns))) before now i

module _ (ns : List ℤ) (before now : List ℕ) (i : ℕ) (m : Reading ns before now i) where
  reading_room : 3 * i + 2 < length ns → i < length now
  reading_room h = omega (arith, m.room, m.written.long, ap length (vertices_from ns i h))

  pub reads : 3 * i + 2 < length ns → Reading ns before (set now i (key_of (corner_at ns i))) (i + 1)
  reads h =
      let e = vertices_from ns i h in
      record {
        room = omega (arith, m.room, ap length e);
        corners = (subst Corners e m.corners).1;
        written = one (key_of (corner_at ns i)) (to_come _ m.written (ap (map key_of) e)) (reading_room h);
      }

  pub reading_ends : {n : ℕ} → i ≡ n → length ns < 3 * i + 3 → (n ≡ length (vertices ns)) × (now ≡ map key_of (vertices ns) ++ drop n before)
  reading_ends e h =
      let r = all (to_come [] m.written (ap (map key_of) (few_none (drop (3 * i) ns) (omega (arith, length-drop (3 * i) ns))))) in
      (sym e ∙ r.0 ∙ length-map (vertices ns) key_of, r.1 ∙ ap (λ k. map key_of (vertices ns) ++ drop k before) e)

-- ---- numbers from steps

-- a number that was made from its steps, as it is stored and read back
pub stored : (r : ℤ) (n : ℕ) → n ≤ 1024 → r ≡ number n → to_z w16 (of_z w16 r) ≡ number n
stored r n h e =
    ap (λ z. to_z w16 (of_z w16 z)) e ∙ to_z-of_z w16 (number n) (number_fits_lem (number n) (is_number_number n ∙ le-leb n 1024 h))

-- ---- a corner and a pair, number by number

pub three : (l : List ℤ) → length l ≡ 3 → {x y z a b d : ℤ} → x ≡ a → y ≡ b → z ≡ d → set (set (set l 0 x) 1 y) 2 z ≡ a ∷ b ∷ d ∷ []
three [] h e f g = absurd (omega arith)
three (p ∷ []) h e f g = absurd (omega arith)
three (p ∷ q ∷ []) h e f g = absurd (omega arith)
three (p ∷ q ∷ r ∷ []) h e f g = λ j. e j ∷ f j ∷ g j ∷ []
three (p ∷ q ∷ r ∷ s ∷ l) h e f g = absurd (omega arith)

pub two : (l : List ℤ) → length l ≡ 2 → {x y a b : ℤ} → x ≡ a → y ≡ b → set (set l 0 x) 1 y ≡ a ∷ b ∷ []
two [] h e f = absurd (omega arith)
two (p ∷ []) h e f = absurd (omega arith)
two (p ∷ q ∷ []) h e f = λ j. e j ∷ f j ∷ []
two (p ∷ q ∷ r ∷ l) h e f = absurd (omega arith)

-- ---- a part of a slice written as a whole

module _ {A : Type 0} where
  pub part : (n k m : ℕ) (ys : List A) {whole rest before now : List A} → Written whole (ys ++ rest) before now n
      → length ys ≡ k → m ≡ n + k → m ≤ length before → Written whole rest before (put_mid n k now ys) m
  part n k m ys {whole} {rest} {before} {now} w e f h =
      record {
        front = ap (◌++ rest) (take-put_mid n k now ys m (omega arith) (omega (arith, w.long))) ∙ append_assoc (take n now) ys rest ∙ w.front;
        behind = drop-put_mid n k now ys m (omega arith) (omega (arith, w.long)) e ∙ further now ∙ ap (drop k) w.behind ∙ sym (further before);
        long = same_len_mid n k now ys (e ∙ sym (length-take-le k (drop n now) (omega (arith, w.long, length-drop n now)))) ∙ w.long;
        within = h;
      }
    where
      further : (l : List A) → drop m l ≡ drop k (drop n l)
      further l = ap (λ j. drop j l) f ∙ sym (drop-drop k n l)
