-- Inner: what the functions over the numbers of one line answer.
--   Above              every number of a list lies at or above a base
--   numbers_of          the numbers on their lines of some pairs that count from a base
--   NotAt              a line whose cell at a code is not permitted: an even number of its numbers lie up to the code
--   Once               each of some numbers stands there an odd number of times
--   Behind             the rank of the code just behind a number, if the number is a code
--   row_words           the words of a row that has a bit for each number of a line of keys
--   Toggled            a row of which one bit is turned
--   Tells              a row that says of each number whether it occurs an odd number of times
use Rattle.std.specs.Prelude.{◌≡◌, true, false, List, map, ℕ, ◌+◌, ◌*◌, ◌≤◌, ◌<◌, leb, eqb, length, get_or}
use Rattle.meaning.specs.Counting.{◌⊕◌, sum}
use Rattle.rising.specs.Merged.{less_base}
use Rattle.rows.specs.Rows.{bit_at}
use Rattle.ranks.specs.declared.Scale.{Scale}
use Rattle.ranks.specs.Values.{axis_codes, value, behind}
use Rattle.cells.specs.Cells.{line_unit, rest}

abbrev pub Above : ℕ → List ℕ → Type 0
Above base l = (i : ℕ) → i < length l → base ≤ get_or l i 0

abbrev pub numbers_of : ℕ → List ℕ → List ℕ
numbers_of base l = map (rest line_unit) (less_base base l)

abbrev pub NotAt : ℕ → List ℕ → Type 0
NotAt code l = sum (λ k. leb k code) l ≡ false

abbrev pub Once : List ℕ → Type 0
Once l = (i : ℕ) → i < length l → sum (λ k. eqb k (get_or l i 0)) l ≡ true

abbrev pub Behind : Scale → ℕ → ℕ → ℕ → Type 0
Behind scale number base q = (number < axis_codes) × (q ≡ base + value scale (behind scale.wish number))

abbrev pub row_words : ℕ
row_words = 32

pub record Toggled (at : ℕ) (before after : List ℕ) : Type 0 where
  pub long : length after ≡ length before
  pub bits : (x : ℕ) → x < 64 * length before → bit_at after x ≡ (eqb at x ⊕ bit_at before x)

pub record Tells (numbers row : List ℕ) : Type 0 where
  pub long : length row ≡ row_words
  pub bits : (x : ℕ) → x < line_unit → bit_at row x ≡ sum (λ k. eqb k x) numbers
