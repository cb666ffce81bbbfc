-- What the program writes, of every input (document 01, "Map text and the program"; docs/DECISIONS.md, 5 to 10).
--   most_bytes             the most bytes of input: a full map and the most wishes
--   Response, response    what the input comes to: a refusal with its number and place; or the numbers of a map and of the wishes
--   with_wishes, with_map   the same, of what the text of the wishes and that of the map come to
--   Writes                what may be written: the 06 line and nothing else, or the answers. Nearest cells are unique, so this settles
--                         the output (proofs/Settled.antt)
--   Put                   what is written stands at the front of the room lent, and all behind it is untouched
--   Responds              the promise of the program's work: that of the response of its input
use Rattle.std.specs.Prelude.{◌≡◌, cond, List, ℕ, ◌+◌, ◌*◌, ◌/◌, ltb, ℤ, length}
use Rattle.meaning.specs.Lists.{vertices, most_vertices}
use Rattle.frames.specs.Frames.{long_line}
use Rattle.meaning.specs.Outcomes.{front}
use Rattle.reading.specs.Reading.{too_long, Text, refused, whole, map_text, wish_place, most_wishes, wish_text}
use Rattle.answers.specs.Answers.{refusal_line, Answers}

-- 19,214
unfoldable pub most_bytes : ℕ
most_bytes = wish_place most_vertices + long_line * most_wishes

pub data Response : Type 0 where
  refusal : ℕ → ℕ → Response
  answers : List ℤ → List ℤ → Response

abbrev pub with_wishes : List ℤ → Text → Response
with_wishes ns (refused number place) = refusal number place
with_wishes ns (whole ws) = answers ns ws

abbrev pub with_map : List ℕ → Text → Response
with_map s (refused number place) = refusal number place
with_map s (whole ns) = with_wishes ns (wish_text s (length (vertices ns)))

unfoldable pub response : List ℕ → Response
response s = cond (ltb most_bytes (length s)) (refusal too_long 0) (with_map s (map_text s))

-- ---- what is written

abbrev pub Writes : Response → List ℕ → Type 0
Writes (refusal number place) out = out ≡ refusal_line number place
Writes (answers ns ws) out = Answers (vertices ns) ws (length ws / 3) out

pub record Put (o : Response) (before : List ℕ) (n : ℕ) (after : List ℕ) : Type 0 where
  pub written : List ℕ
  pub writes : Writes o written
  pub count : n ≡ length written
  pub contents : after ≡ front written before

abbrev pub Responds : List ℕ → List ℕ → ℕ → List ℕ → Type 0
Responds input before n after = Put (response input) before n after
