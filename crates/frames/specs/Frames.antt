-- Frames as bytes: a line of upper-case hexadecimal, ended by byte 0A (document 01, "Map text and the program").
--   digit0, digit9, digit_a, digit_f, line_end    the bytes of the digits 0, 9, A and F, and of a line's end
--   short_line, long_line      how many bytes a line of one number has, and one of three
--   digit_value               the value of an upper-case digit; of any other byte none
--   four_of, four_at           the number that four digits make, none if one of them is none; the four digits at a place
--   line_at                   a line of a tag, 0 and one digit, and so many digits more, whose 0A stands where it is due
--   one_at, three_at           the number, and the three numbers, of the frame at a place; none if there is no such frame: it is ill formed
--   digit_of                  the digit of a value below 16
--   two_digits, four_digits    a number as two and as four digits
-- A place counts the bytes before it. Tags are given by the byte of their second digit.
use Rattle.std.specs.Prelude.{Bool, ◌&&◌, cond, List, [], ◌∷◌, ℕ, ◌+◌, ◌-◌, ◌*◌, ◌/◌, ◌%◌, ltb, leb, eqb, length, get_or, Option, Some, None}

abbrev pub digit0 : ℕ
digit0 = 48

abbrev pub digit9 : ℕ
digit9 = 57

abbrev pub digit_a : ℕ
digit_a = 65

abbrev pub digit_f : ℕ
digit_f = 70

abbrev pub line_end : ℕ
line_end = 10

-- a tag's two digits, four digits a number, and the 0A
abbrev pub short_line : ℕ
short_line = 7

abbrev pub long_line : ℕ
long_line = 15

abbrev pub byte_at : List ℕ → ℕ → ℕ
byte_at s at = get_or s at 0

abbrev pub digit_value : ℕ → Option ℕ
digit_value b =
    cond (leb digit0 b && leb b digit9) (Some (b - digit0)) (cond (leb digit_a b && leb b digit_f) (Some (10 + (b - digit_a))) None)

abbrev pub four_of : Option ℕ → Option ℕ → Option ℕ → Option ℕ → Option ℕ
four_of (Some a) (Some b) (Some c) (Some d) = Some (((a * 16 + b) * 16 + c) * 16 + d)
four_of (Some a) (Some b) (Some c) None = None
four_of (Some a) (Some b) None d = None
four_of (Some a) None c d = None
four_of None b c d = None

unfoldable pub four_at : List ℕ → ℕ → Option ℕ
four_at s at =
    four_of (digit_value (byte_at s at)) (digit_value (byte_at s (at + 1))) (digit_value (byte_at s (at + 2))) (digit_value (byte_at s (at + 3)))

unfoldable pub line_at : List ℕ → ℕ → ℕ → ℕ → Bool
line_at s tag digits at =
    leb (at + digits + 3) (length s) && (eqb (byte_at s at) digit0 && (eqb (byte_at s (at + 1)) tag && eqb (byte_at s (at + 2 + digits)) line_end))

abbrev pub one_at : List ℕ → ℕ → ℕ → Option ℕ
one_at s tag at = cond (line_at s tag 4 at) (four_at s (at + 2)) None

abbrev pub together : Option ℕ → Option ℕ → Option ℕ → Option (ℕ × ℕ × ℕ)
together (Some a) (Some b) (Some c) = Some (a, b, c)
together (Some a) (Some b) None = None
together (Some a) None o = None
together None o p = None

abbrev pub three_at : List ℕ → ℕ → ℕ → Option (ℕ × ℕ × ℕ)
three_at s tag at = cond (line_at s tag 12 at) (together (four_at s (at + 2)) (four_at s (at + 6)) (four_at s (at + 10))) None

abbrev pub digit_of : ℕ → ℕ
digit_of d = cond (ltb d 10) (digit0 + d) (digit_a + (d - 10))

abbrev pub two_digits : ℕ → List ℕ
two_digits n = digit_of (n / 16 % 16) ∷ digit_of (n % 16) ∷ []

abbrev pub four_digits : ℕ → List ℕ
four_digits n = digit_of (n / 4096 % 16) ∷ digit_of (n / 256 % 16) ∷ digit_of (n / 16 % 16) ∷ digit_of (n % 16) ∷ []
