-- Refusal 10 of the program's input: that of its map's text, or that of its wishes behind a map that is read whole.
--   InputTen           a line of the input, each up to its 0A, is the first of those due that is not the frame due there; or it is the 257th wish
--   input_ten          where 10 is given, it names such a line
--   ill_formed_first   and back: such a line gives 10 with its number, of every input that is not too long, before 11, 3, 4 and 5
--   ill_formed_written what is written then: the 06 line of 10 with that number
use mathlib.Core.Path.{◌≡◌, refl, sym, ◌∙◌, ap, subst}
use mathlib.Core.Bool.{Bool, true, false, cond}
use mathlib.Core.List.{List}
use Prim.Native.Nat.{ℕ, ◌≤◌}
use native.Mathlib.Omega.{arith}
use borrow.Author.Tests.{le-ltb}
use lib.Dec.{ltb}
use lib.IntN.{ℤ}
use lib.ListN.{length}
use Rattle.meaning.specs.Lists.{vertices}
use Rattle.reading.specs.Reading.{ill_formed, too_long, Text, refused, whole, map_text, wish_text}
use Rattle.reading.proofs.Places.{MapTen, map_ten, ten_map, WishTen, wish_ten, ten_wish, map_read, read_begins}
use Rattle.answers.specs.Answers.{refusal_line}
use Rattle.meaning.specs.Outcomes.{front}
use Rattle.text.specs.Program.{refusal, answers, with_wishes, with_map, most_bytes, response, Put, Responds}

pub data InputTen (s : List ℕ) (p : ℕ) : Type 0 where
  in_map : MapTen s p → InputTen s p
  in_wishes : (ns : List ℤ) → whole ns ≡ map_text s → WishTen s (length (vertices ns)) p → InputTen s p

not_answers : (a b : ℕ) (ns ws : List ℤ) → refusal a b ≡ answers ns ws → ⊥
not_answers a b ns ws e = let z : ◌≡◌ {A = ℕ} 0 1 = cc in omega arith

module _ (s : List ℕ) (p : ℕ) where
  in_text : (a b : ℕ) (t : Text) → t ≡ refused a b → refusal ill_formed p ≡ refusal a b → refused ill_formed p ≡ t
  in_text a b t e f = cc

  by_wish_text : (ns : List ℤ) → whole ns ≡ map_text s → (t : Text) → wish_text s (length (vertices ns)) ≡ t → refusal ill_formed p ≡ with_wishes ns t → InputTen s p
  by_wish_text ns e (refused a b) et f =
      in_wishes ns e (wish_ten s (length (vertices ns)) (read_begins s ns (map_read s ns e)) p (in_text a b (wish_text s (length (vertices ns))) et f))
  by_wish_text ns e (whole ws) et f = absurd (not_answers ill_formed p ns ws f)

  by_map_text : (t : Text) → map_text s ≡ t → refusal ill_formed p ≡ with_map s t → InputTen s p
  by_map_text (refused a b) et f = in_map (map_ten s p (in_text a b (map_text s) et f))
  by_map_text (whole ns) et f = by_wish_text ns (sym et) (wish_text s (length (vertices ns))) refl f

  by_length : (t : Bool) → refusal ill_formed p ≡ cond t (refusal too_long 0) (with_map s (map_text s)) → InputTen s p
  by_length true e = let z : ◌≡◌ {A = ℕ} ill_formed too_long = cc in absurd (omega arith)
  by_length false e = by_map_text (map_text s) refl e

  pub input_ten : refusal ill_formed p ≡ response s → InputTen s p
  unfolding response
  input_ten e = by_length (ltb most_bytes (length s)) e

module _ (s : List ℕ) (p : ℕ) (fits : length s ≤ most_bytes) where
  -- by what the map's text comes to
  in_place : InputTen s p → refusal ill_formed p ≡ with_map s (map_text s)
  in_place (in_map t) = ap (with_map s) (ten_map s p t)
  in_place (in_wishes ns e t) =
      ap (with_wishes ns) (ten_wish s (length (vertices ns)) (read_begins s ns (map_read s ns e)) p t) ∙ ap (with_map s) e

  pub ill_formed_first : InputTen s p → response s ≡ refusal ill_formed p
  unfolding response
  ill_formed_first t =
      ap (λ b. cond b (refusal too_long 0) (with_map s (map_text s))) (le-ltb most_bytes (length s) fits) ∙ sym (in_place t)

  pub ill_formed_written : InputTen s p → {before after : List ℕ} {n : ℕ} → Responds s before n after → after ≡ front (refusal_line ill_formed p) before
  ill_formed_written t {before} {after} {n} r =
      let put = subst (λ o. Put o before n after) (ill_formed_first t) r in
      put.contents ∙ ap (λ l. front l before) put.writes
