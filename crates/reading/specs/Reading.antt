-- The text of a map and of wishes, read from bytes (document 01, "Map text and the program"; docs/DECISIONS.md, 1 to 7).
--   count_tag, vertex_tag, sum_tag, wish_tag   the second digits of the tags 01, 02, 03 and 04, as bytes
--   too_many, ill_formed, wrong_sum, too_long  document 01's numbers of the text's refusals: 2, 10, 11 and 12
--   Text                        what reading comes to: refused, with document 01's number and place; or the numbers read
--   is_ill, numbers_of            of a frame of three numbers: ill formed, where there are none; its numbers, in two's complement
--   ill_at, numbers_from          the same of frame i of a run that begins at a place, and of the first n frames
--   unless_ill                   refused 10 at the first ill formed line of a run, if there is one
--   closing_sum                  the sum of the count and all coordinates modulo 65,536
--   by_verdict, closed, counted  what the verdict, the closing line and line 1 come to, each before what follows it
--   vertex_place, sum_place       where the vertices' lines begin, and the closing line behind n of them
--   map_text                     the text of a map
--   wish_place, wish_lines        where the wishes begin; how many lines there are from there on
--   most_wishes, wish_text        the most wishes; the text of the wishes
use Rattle.std.specs.Prelude.{Bool, true, false, ◌||◌, cond, List, [], ◌∷◌, ◌++◌, ℕ, zero, suc, ◌+◌, ◌-◌, ◌*◌, ◌/◌, ◌%◌, ltb, leb, eqb, ℤ, length, Option, Some, None}
use Rattle.meaning.specs.Counting.{first}
use Rattle.meaning.specs.Lists.{most_vertices}
use Rattle.meaning.specs.Verdicts.{Verdict, verdict, passes, number_of, refusal_number, refusal_place}
use Rattle.meaning.specs.declared.Refusal.TheVariants.{TooMany}
use Rattle.frames.specs.Frames.{digit0, short_line, long_line, one_at, three_at}
use Rattle.words.specs.Words.{all_words, word, signed}

abbrev pub count_tag : ℕ
count_tag = digit0 + 1

abbrev pub vertex_tag : ℕ
vertex_tag = digit0 + 2

abbrev pub sum_tag : ℕ
sum_tag = digit0 + 3

abbrev pub wish_tag : ℕ
wish_tag = digit0 + 4

abbrev pub too_many : ℕ
too_many = number_of TooMany

abbrev pub ill_formed : ℕ
ill_formed = 10

abbrev pub wrong_sum : ℕ
wrong_sum = 11

abbrev pub too_long : ℕ
too_long = 12

pub data Text : Type 0 where
  refused : ℕ → ℕ → Text
  whole : List ℤ → Text

-- ---- runs of frames of three numbers

abbrev pub is_ill : Option (ℕ × ℕ × ℕ) → Bool
is_ill None = true
is_ill (Some v) = false

abbrev pub numbers_of : Option (ℕ × ℕ × ℕ) → List ℤ
numbers_of None = []
numbers_of (Some v) = signed v.0 ∷ signed v.1 ∷ signed v.2 ∷ []

abbrev pub ill_at : List ℕ → ℕ → ℕ → ℕ → Bool
ill_at s tag start i = is_ill (three_at s tag (start + long_line * i))

abbrev pub numbers_from : List ℕ → ℕ → ℕ → ℕ → List ℤ
numbers_from s tag start zero = []
numbers_from s tag start (suc n) = numbers_from s tag start n ++ numbers_of (three_at s tag (start + long_line * n))

-- of n lines, the first of which has that number
abbrev pub unless_ill : (ℕ → Bool) → ℕ → ℕ → Text → Text
unless_ill ill n line next = cond (ltb (first ill n) n) (refused ill_formed (line + first ill n)) next

-- ---- a map: line 1 and the closing line have one number each

abbrev pub total : List ℤ → ℕ
total [] = 0
total (z ∷ l) = word z + total l

abbrev pub closing_sum : ℕ → List ℤ → ℕ
closing_sum n ns = (n + total ns) % all_words

abbrev pub by_verdict : List ℤ → Verdict → Text
by_verdict ns v = cond (passes v) (whole ns) (refused (refusal_number v) (refusal_place v))

-- 10 at its line, the one after the vertices; 11; 3, 4, 5
abbrev pub closed : ℕ → List ℤ → Option ℕ → Text
closed n ns None = refused ill_formed (n + 2)
closed n ns (Some m) = cond (eqb m (closing_sum n ns)) (by_verdict ns (verdict ns)) (refused wrong_sum 0)

abbrev pub vertex_place : ℕ
vertex_place = short_line

abbrev pub sum_place : ℕ → ℕ
sum_place n = vertex_place + long_line * n

-- 10 at line 1; 2; 10 at the lines of the vertices
abbrev pub counted : List ℕ → Option ℕ → Text
counted s None = refused ill_formed 1
counted s (Some n) =
    cond (ltb most_vertices n) (refused too_many 0)
    (unless_ill (ill_at s vertex_tag vertex_place) n 2 (closed n (numbers_from s vertex_tag vertex_place n) (one_at s sum_tag (sum_place n))))

unfoldable pub map_text : List ℕ → Text
map_text s = counted s (one_at s count_tag 0)

-- ---- the wishes behind a map of n vertices

abbrev pub wish_place : ℕ → ℕ
wish_place n = sum_place n + short_line

-- any byte begins a line
abbrev pub wish_lines : List ℕ → ℕ → ℕ
wish_lines s n = (length s - wish_place n + (long_line - 1)) / long_line

unfoldable pub most_wishes : ℕ
most_wishes = 256

-- 10 at the first line that is ill formed; a 257th is
unfoldable pub wish_text : List ℕ → ℕ → Text
wish_text s n =
    unless_ill (λ i. leb most_wishes i || ill_at s wish_tag (wish_place n) i) (wish_lines s n) (n + 3)
    (whole (numbers_from s wish_tag (wish_place n) (wish_lines s n)))
