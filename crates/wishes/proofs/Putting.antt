-- The loop over the wishes: the cells of the wishes so far stand at the front.
--   spelled                            the numbers of the cells nearest to wishes
--   wishes_from                        the wish that comes first, and those behind it
--   Putting                            so far; putting_begins, putting_room, puts, putting_ends
-- Assumes nothing.
use mathlib.Core.Path.{◌≡◌, refl, sym, ◌∙◌, ap, subst}
use mathlib.Core.List.{List, [], ◌∷◌, ◌++◌, map}
use Prim.Native.Nat.{ℕ, ◌+◌, ◌<◌}
use native.Mathlib.Omega.{arith}
use lib.IntN.{ℤ}
use lib.ListN.{length, drop, set, length-append}
use Rattle.meaning.specs.declared.Corner.{Corner}
use Rattle.meaning.specs.Lists.{vertices, permitted}
use Rattle.meaning.specs.Nearest.{Nearest}
use Rattle.meaning.specs.Verdicts.{Valid, verdict, passes}
use Rattle.rising.proofs.Written.{Written, none, several, to_come, all}
use Rattle.wishes.specs.Many.{wishes, cell_numbers}
use Rattle.wishes.specs.Each.{wish_from, NearestPut, Wishable, EachPut}
use Rattle.wishes.proofs.Each.{nearest_to, nearest_is, nearest_once, each_nearest}

abbrev pub spelled : List ℤ → List ℤ → List ℤ
spelled ns ws = cell_numbers (map (nearest_to ns) (wishes ws))

wishes_from : (wish left : List ℤ) → length wish ≡ 3 → wishes (wish ++ left) ≡ wish_from wish 0 ∷ wishes left
wishes_from [] left e = absurd (omega arith)
wishes_from (x ∷ []) left e = absurd (omega arith)
wishes_from (x ∷ y ∷ []) left e = absurd (omega arith)
wishes_from (x ∷ y ∷ z ∷ []) left e = refl
wishes_from (x ∷ y ∷ z ∷ t ∷ l) left e = absurd (omega arith)

-- numbers that are left make no wish if there are fewer than three
no_wish : (left : List ℤ) → length left < 3 → wishes left ≡ []
no_wish [] h = refl
no_wish (x ∷ []) h = refl
no_wish (x ∷ y ∷ []) h = refl
no_wish (x ∷ y ∷ z ∷ l) h = absurd (omega arith)

-- `left` is what is left of the wishes, `at` how many numbers are written
pub record Putting (ns ws before left now : List ℤ) (at : ℕ) : Type 0 where
  pub read : at + length left ≡ length ws
  pub written : Written (spelled ns ws) (spelled ns left) before now at

module _ (ns ws before : List ℤ) where
  pub putting_begins : Putting ns ws before ws before 0
  putting_begins = record { read = omega arith; written = none _ before }

  module _ (h : Wishable ns ws before) (wish left now : List ℤ) (at : ℕ) (m : Putting ns ws before (wish ++ left) now at) (three : length wish ≡ 3) where
    pub putting_room : at + 2 < length now
    putting_room = omega (arith, h.room, m.read, m.written.long, length-append wish left)

    -- one wish more, by the vertices that the keys give back
    pub puts : verdict ns ≡ Valid → (l : List Corner) → l ≡ vertices ns → (after : List ℤ) → NearestPut l (wish_from wish 0) at now after
        → Putting ns ws before left after (at + 3)
    puts valid l is after p =
        let w = wish_from wish 0 in
        let e : p.found ≡ nearest_to ns w =
        nearest_once ns (ap passes valid) h.some w p.found (nearest_to ns w)
        (λ q d y. subst (λ (j : List Corner). Nearest (permitted j) w p.found) is p.nearest) (nearest_is ns w) in
        let next : spelled ns (wish ++ left) ≡ cell_numbers (p.found ∷ []) ++ spelled ns left =
        ap (λ l. cell_numbers (map (nearest_to ns) l)) (wishes_from wish left three) ∙ ap (λ c. cell_numbers (c ∷ map (nearest_to ns) (wishes left))) (sym e) in
        let s = several (cell_numbers (p.found ∷ [])) (to_come _ m.written next) (omega (arith, h.room, m.read, length-append wish left)) in
        record {
          read = omega (arith, m.read, length-append wish left);
          written =
              subst (λ (o : List ℤ). Written (spelled ns ws) (spelled ns left) before o (at + 3)) (sym p.is)
              (subst (λ (i : ℕ). Written (spelled ns ws) (spelled ns left) before
              (set (set (set now at p.found.focus) (at + 1) p.found.first) (at + 2) p.found.second) i) up_three
              (subst (λ (i : ℕ). Written (spelled ns ws) (spelled ns left) before
              (set (set (set now at p.found.focus) (at + 1) p.found.first) i p.found.second) (at + 1 + 1 + 1)) up_two s));
        }
      where
        up_two : at + 1 + 1 ≡ at + 2
        up_two = omega arith

        up_three : at + 1 + 1 + 1 ≡ at + 3
        up_three = omega arith

  pub putting_ends : (left now : List ℤ) (at : ℕ) → Putting ns ws before left now at → length left < 3 → EachPut ns ws before now
  putting_ends left now at m k =
      let r = all (to_come [] m.written (ap (λ l. cell_numbers (map (nearest_to ns) l)) (no_wish left k))) in
      record {
        cells = map (nearest_to ns) (wishes ws);
        nearest = each_nearest ns (wishes ws);
        is = r.1 ∙ ap (λ n. spelled ns ws ++ drop n before) r.0;
      }
