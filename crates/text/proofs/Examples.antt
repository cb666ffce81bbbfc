-- The printed case of document 01 and small cases of the refusals, as the definitions compute them: one table.
--   frame, lines         the line of a tag and numbers; lines one after the other
--   map_of                the text of a map: a count, vertices, a closing sum
--   inputs, comes_to     what is read, and what each comes to
use mathlib.Core.Path.{◌≡◌, refl}
use mathlib.Core.List.{List, [], ◌∷◌, ◌++◌, map}
use Prim.Native.Nat.{ℕ}
use lib.IntN.{pos, negsuc}
use Rattle.meaning.specs.Lists.{most_vertices}
use Rattle.meaning.specs.Verdicts.{verdict}
use Rattle.frames.specs.Frames.{digit0, four_at, line_at, two_digits, four_digits, line_end}
use Rattle.reading.specs.Reading.{map_text, wish_text, most_wishes}
use Rattle.text.specs.Program.{most_bytes, refusal, answers, response}

digits : List ℕ → List ℕ
digits [] = line_end ∷ []
digits (n ∷ l) = four_digits n ++ digits l

frame : ℕ → List ℕ → List ℕ
unfolding digits
frame tag l = two_digits tag ++ digits l

lines : List (List ℕ) → List ℕ
lines [] = []
lines (l ∷ r) = l ++ lines r

vertex_lines : List (List ℕ) → List (List ℕ)
vertex_lines [] = []
vertex_lines (v ∷ l) = frame 2 v ∷ vertex_lines l

map_of : ℕ → List (List ℕ) → ℕ → List ℕ
unfolding lines vertex_lines frame digits
map_of n l sum = frame 1 (n ∷ []) ++ (lines (vertex_lines l) ++ frame 3 (sum ∷ []))

-- the four corners of the unit square of shifts at a focus number
face : ℕ → List (List ℕ)
face x = (x ∷ 0 ∷ 0 ∷ []) ∷ (x ∷ 0 ∷ 1 ∷ []) ∷ (x ∷ 1 ∷ 0 ∷ []) ∷ (x ∷ 1 ∷ 1 ∷ []) ∷ []

-- the vertices of the printed case
printed : List (List ℕ)
unfolding face
printed = face 65535 ++ face 0

unfoldable pub inputs : List (List ℕ)
unfolding map_of printed face lines vertex_lines frame digits
inputs =
    -- the printed case
    (map_of 8 printed 12 ++ (frame 4 (65533 ∷ 0 ∷ 0 ∷ []) ++ frame 4 (5 ∷ 5 ∷ 5 ∷ []))) ∷
    -- no input; more than 1,024 vertices; the count is unsigned
    [] ∷
    frame 1 (1025 ∷ []) ∷
    frame 1 (32768 ∷ []) ∷
    -- a count too large, and too small
    map_of 9 printed 13 ∷
    map_of 7 printed 11 ∷
    -- a sum that leaves out the count, which comes before a vertex that is missing
    map_of 8 printed 4 ∷
    map_of 4 (face 0) 0 ∷
    -- an odd line; a vertex given twice; a number of 513
    map_of 4 (face 0) 8 ∷
    map_of 2 ((0 ∷ 0 ∷ 0 ∷ []) ∷ (0 ∷ 0 ∷ 0 ∷ []) ∷ []) 2 ∷
    map_of 1 ((513 ∷ 0 ∷ 0 ∷ []) ∷ []) 514 ∷
    -- the empty map with no wish, with a wish, and with a byte that begins a wish and does not end it
    map_of 0 [] 0 ∷
    (map_of 0 [] 0 ++ frame 4 (0 ∷ 0 ∷ 0 ∷ [])) ∷
    (map_of 0 [] 0 ++ (frame 4 (0 ∷ 0 ∷ 0 ∷ []) ++ (digit0 ∷ []))) ∷
    []

pub comes_to : map response inputs ≡
    (answers
    (negsuc 0 ∷ pos 0 ∷ pos 0 ∷ negsuc 0 ∷ pos 0 ∷ pos 1 ∷ negsuc 0 ∷ pos 1 ∷ pos 0 ∷ negsuc 0 ∷ pos 1 ∷ pos 1 ∷
    pos 0 ∷ pos 0 ∷ pos 0 ∷ pos 0 ∷ pos 0 ∷ pos 1 ∷ pos 0 ∷ pos 1 ∷ pos 0 ∷ pos 0 ∷ pos 1 ∷ pos 1 ∷ [])
    (negsuc 2 ∷ pos 0 ∷ pos 0 ∷ pos 5 ∷ pos 5 ∷ pos 5 ∷ []) ∷
    refusal 10 1 ∷
    refusal 2 0 ∷
    refusal 2 0 ∷
    refusal 10 10 ∷
    refusal 10 9 ∷
    refusal 11 0 ∷
    refusal 11 0 ∷
    refusal 5 0 ∷
    refusal 4 1 ∷
    refusal 3 0 ∷
    answers [] [] ∷
    answers [] (pos 0 ∷ pos 0 ∷ pos 0 ∷ []) ∷
    refusal 10 4 ∷
    [])
unfolding response map_text wish_text most_bytes most_vertices most_wishes verdict four_at line_at inputs
comes_to = refl
