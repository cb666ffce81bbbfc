-- Numbers that occur an odd number of times in a list (document 01, "Codes, cells and corners": an even number on every line; and refusal 5).
--   occurs_oddly   the number at a place occurs an odd number of times in the whole list
--   first_odd      the first such place, or the list's length where there is none
use Rattle.std.specs.Prelude.{Bool, List, ℕ, eqb, length, get_or}
use Rattle.meaning.specs.Counting.{count, odd, first}

abbrev pub occurs_oddly : List ℕ → ℕ → Bool
occurs_oddly ks i = odd (count (λ k. eqb (get_or ks i 0) k) ks)

abbrev pub first_odd : List ℕ → ℕ
first_odd ks = first (occurs_oddly ks) (length ks)
