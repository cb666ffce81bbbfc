-- Laws that docs/PORT.md names and that no proof cites.
--   reading_begins, reading_corner     before the first vertex no key is written; the next vertex that is read is a corner
--   number_lowered                     the number that lies so many steps above the lowest, by the crossing
--   Spelling                           the corners of the first i keys are written, three numbers each; or their pairs, two numbers each
--   spelling_begins, spelling_ends     before the first key nothing is written; behind the last all is
use mathlib.Core.Path.{◌≡◌, sym, ◌∙◌, ap, subst}
use mathlib.Core.Bool.{true}
use mathlib.Core.List.{List, [], ◌∷◌, ◌++◌}
use Prim.Native.Nat.{ℕ, suc, ◌+◌, ◌*◌, ◌≤◌, ◌<◌}
use native.Mathlib.Omega.{arith}
use native.Mathlib.Nat.{mul-zero}
use native.Mathlib.Numerals.{add-one}
use borrow.Author.Tests.{le-leb}
use lib.IntN.{ℤ, pos}
use lib.ListN.{length, get_or, drop, drop_of_length-le}
use lib.Seq.{drop-cons}
use Rattle.meaning.specs.Numbers.{is_corner, number}
use Rattle.meaning.specs.Lists.{vertices}
use Rattle.codes.specs.Keys.{corner_at}
use Rattle.codes.specs.Lift.{lowered}
use Rattle.codes.proofs.Laws.{lifted_lowered, lifted_number, lifted_once, lowered_fits, number_fits_lem, is_number_number, steps_number}
use Rattle.rising.proofs.Written.{Written, none, to_come, all}
use Rattle.keys.proofs.Corners.{Corners}
use Rattle.keys.proofs.Filling.{Reading}

-- ---- vertices that are read

vertices_from : (ns : List ℤ) (i : ℕ) → 3 * i + 2 < length ns → vertices (drop (3 * i) ns) ≡ corner_at ns i ∷ vertices (drop (3 * (i + 1)) ns)
vertices_from ns i h =
    ap vertices
    (drop-cons ns (3 * i) (pos 0) (omega arith) ∙
    ap (get_or ns (3 * i) (pos 0) ∷◌)
    (ap (λ k. drop k ns) (sym (add-one (3 * i))) ∙
    drop-cons ns (3 * i + 1) (pos 0) (omega arith) ∙
    ap (get_or ns (3 * i + 1) (pos 0) ∷◌)
    (ap (λ k. drop k ns) two ∙
    drop-cons ns (3 * i + 2) (pos 0) (omega arith) ∙
    ap (λ k. get_or ns (3 * i + 2) (pos 0) ∷ drop k ns) three)))
  where
    two : suc (3 * i + 1) ≡ 3 * i + 2
    two = omega arith

    three : suc (3 * i + 2) ≡ 3 * (i + 1)
    three = omega arith

module _ (ns : List ℤ) (before : List ℕ) where
  pub reading_begins : Corners (vertices ns) → length (vertices ns) ≤ length before → Reading ns before before 0
  reading_begins h k = record { room = omega arith; corners = h; written = none _ before }

  module _ (now : List ℕ) (i : ℕ) (m : Reading ns before now i) where
    pub reading_corner : 3 * i + 2 < length ns → is_corner (corner_at ns i) ≡ true
    reading_corner h = (subst Corners (vertices_from ns i h) m.corners).0

-- ---- numbers from steps

pub number_lowered : (n : ℕ) → n ≤ 1024 → lowered (n + 32256) ≡ number n
number_lowered n h =
    let e = is_number_number n ∙ le-leb n 1024 h in
    lifted_once (lowered (n + 32256)) (number n) (lowered_fits (n + 32256) (omega arith)) (number_fits_lem (number n) e)
    (lifted_lowered (n + 32256) ∙ sym (lifted_number (number n) e ∙ ap (◌+ 32256) (steps_number n)))

-- ---- keys spelled out, so many numbers each

pub record Spelling (width : ℕ) (spell : List ℕ → List ℤ) (keys : List ℕ) (before now : List ℤ) (i n : ℕ) : Type 0 where
  pub read : i ≤ length keys
  pub place : n ≡ width * i
  pub room : width * length keys ≤ length before
  pub written : Written (spell keys) (spell (drop i keys)) before now n

module _ (width : ℕ) (spell : List ℕ → List ℤ) (keys : List ℕ) (before : List ℤ) where
  pub spelling_begins : width * length keys ≤ length before → Spelling width spell keys before before 0 0
  spelling_begins h = record { read = omega arith; place = sym (mul-zero width); room = h; written = none _ before }

  module _ (now : List ℤ) (i n : ℕ) (m : Spelling width spell keys before now i n) where
    pub spelling_ends : spell [] ≡ [] → length keys ≤ i → now ≡ spell keys ++ drop (width * length keys) before
    spelling_ends e h =
        let r = all (to_come [] m.written (ap spell (drop_of_length-le keys h) ∙ e)) in
        let is : i ≡ length keys = omega (arith, m.read) in
        r.1 ∙ ap (λ k. spell keys ++ drop k before) (m.place ∙ ap (λ k. width * k) is)
