-- The lines that the program writes (document 01, "Map text and the program").
--   refusal_bytes, answer_bytes   how many bytes an 06 line has, and an 05 line
--   refusal_line           an 06 line
--   cell_line, empty_line   the 05 line of a cell, and the one that the empty map gets
--   wish_at                wish i
--   AnswerLine            what the 05 line of a wish may be: the line of the nearest permitted cell
--   Answers               one 05 line for each of the first n wishes, in order
--   Filled                a line stands at the front of a room, and everything behind it is untouched
--   Written               an 05 line for each of the first n wishes stands at the front of a room, and everything behind them is untouched
use Rattle.std.specs.Prelude.{◌≡◌, Bool, List, [], ◌∷◌, ◌++◌, ℕ, zero, suc, ◌+◌, ◌*◌, ℤ, pos, length, get_or, take, drop}
use Rattle.meaning.specs.Numbers.{cell}
use Rattle.meaning.specs.declared.Cell.{Cell}
use Rattle.meaning.specs.declared.Corner.{Corner}
use Rattle.meaning.specs.Lists.{permitted}
use Rattle.meaning.specs.Outcomes.{empty_map}
use Rattle.meaning.specs.Nearest.{Nearest}
use Rattle.words.specs.Words.{word}
use Rattle.frames.specs.Frames.{line_end, two_digits, four_digits}

-- ---- lines

-- a tag and a number of two digits each, four digits for the place or for each code, and the 0A
abbrev pub refusal_bytes : ℕ
refusal_bytes = 9

abbrev pub answer_bytes : ℕ
answer_bytes = 17

abbrev pub refusal_line : ℕ → ℕ → List ℕ
refusal_line number place = two_digits 6 ++ (two_digits number ++ (four_digits place ++ (line_end ∷ [])))

abbrev pub answer_line : ℕ → Cell → List ℕ
answer_line number c =
    two_digits 5 ++
    (two_digits number ++ (four_digits (word c.focus) ++ (four_digits (word c.first) ++ (four_digits (word c.second) ++ (line_end ∷ [])))))

abbrev pub cell_line : Cell → List ℕ
cell_line c = answer_line 0 c

-- 0507000000000000
abbrev pub empty_line : List ℕ
empty_line = answer_line empty_map.number (cell (pos 0) (pos 0) (pos 0))

-- ---- answers

abbrev pub wish_at : List ℤ → ℕ → Cell
wish_at ws i = cell (get_or ws (3 * i) (pos 0)) (get_or ws (3 * i + 1) (pos 0)) (get_or ws (3 * i + 2) (pos 0))

pub record NearestLine (S : Cell → Bool) (w : Cell) (line : List ℕ) : Type 0 where
  pub at : Cell
  pub nearest : Nearest S w at
  pub is : line ≡ cell_line at

abbrev pub AnswerLine : List Corner → Cell → List ℕ → Type 0
AnswerLine [] w line = line ≡ empty_line
AnswerLine (v ∷ l) w line = NearestLine (permitted (v ∷ l)) w line

-- bytes that are a front and a line behind it
pub record Ends (Front Line : List ℕ → Type 0) (out : List ℕ) : Type 0 where
  pub front : List ℕ
  pub line : List ℕ
  pub before : Front front
  pub last : Line line
  pub is : out ≡ front ++ line

abbrev pub Answers : List Corner → List ℤ → ℕ → List ℕ → Type 0
Answers l ws zero out = out ≡ []
Answers l ws (suc n) out = Ends (Answers l ws n) (AnswerLine l (wish_at ws n)) out

-- ---- in the room lent

abbrev pub Filled : List ℕ → List ℕ → ℕ → List ℕ → Type 0
Filled line before n after = (n ≡ length line) × (after ≡ line ++ drop n before)

pub record Written (l : List Corner) (ws : List ℤ) (n : ℕ) (before after : List ℕ) : Type 0 where
  pub front : Answers l ws n (take (answer_bytes * n) after)
  pub behind : drop (answer_bytes * n) after ≡ drop (answer_bytes * n) before
  pub long : length after ≡ length before
