-- What one pass over the numbers of a list answers (inner).
--   vertex_at          the vertex whose three numbers begin at a place of the list
--   side               of the eight cells round a corner, those at or above a number on one axis, as a mask: all where the number
--                      lies below the corner's, those on the high side where it is the corner's, else none
--   over               of the eight cells round a corner, those that a vertex is at or below, as a mask
--   under, leading     a vertex with a focus number below a bound; how many vertices pass a test before the first that does not
use Rattle.std.specs.Prelude.{Bool, true, false, cond, List, [], ◌∷◌, map, ℕ, zero, suc, ◌+◌, ltb, ℤ, pos, get_or}
use Rattle.std.specs.Int.Signed.{le_z}
use Rattle.meaning.specs.Numbers.{corner}
use Rattle.meaning.specs.declared.Corner.{Corner}
use Rattle.meaning.specs.Lists.{at_or_below, beside, surrounding, weigh}
use Rattle.codes.specs.Lift.{lifted}

abbrev pub vertex_at : List ℤ → ℕ → Corner
vertex_at ns i = corner (get_or ns i (pos 0)) (get_or ns (i + 1) (pos 0)) (get_or ns (i + 2) (pos 0))

abbrev pub side : ℤ → ℤ → ℕ → ℕ
side u x high = cond (le_z u (beside false x)) 255 (cond (le_z u (beside true x)) high 0)

abbrev pub over : Corner → Corner → ℕ
over w v = weigh (map (λ c. at_or_below c w) (surrounding v))

abbrev pub under : ℕ → Corner → Bool
under bound v = ltb (lifted v.focus) bound

abbrev pub leading : {A : Type 0} → (A → Bool) → List A → ℕ
leading p [] = zero
leading p (v ∷ l) = cond (p v) (suc (leading p l)) zero
