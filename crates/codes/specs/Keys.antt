-- A corner as one number that keeps the order of a list, and the pair of numbers that names a line.
--   key_of              a corner's key: its steps above the lowest number, with room for 1,025 lines a plane and 2,048 numbers a line
--   plane_of, rest_of    of a key: how many whole planes lie below it (the focus), and what is left (the place in its plane)
--   line_of, last_of     of a place in a plane: how many whole lines lie below it (the first shift), and what is left (the second shift)
--   of_key              the corner of a key
--   pair_key            the two numbers of a corner that are left when an axis is left out, as one number: corners on one line
--                      parallel to the axis have the same, others have not
--   corner_at           the corner of the numbers 3i, 3i + 1 and 3i + 2 of a list
use Rattle.std.specs.Prelude.{List, ℕ, ◌+◌, ◌*◌, ◌/◌, ◌%◌, ℤ, pos, get_or}
use Rattle.meaning.specs.Numbers.{Axis, corner, pair_of, number, steps}
use Rattle.meaning.specs.declared.Corner.{Corner}

abbrev pub key_of : Corner → ℕ
key_of v = steps v.focus * 2099200 + steps v.first * 2048 + steps v.second

abbrev pub plane_of : ℕ → ℕ
plane_of k = k / 2099200

abbrev pub rest_of : ℕ → ℕ
rest_of k = k % 2099200

abbrev pub line_of : ℕ → ℕ
line_of r = r / 2048

abbrev pub last_of : ℕ → ℕ
last_of r = r % 2048

abbrev pub of_key : ℕ → Corner
of_key k = corner (number (plane_of k)) (number (line_of (rest_of k))) (number (last_of (rest_of k)))

abbrev pub pair_key : Axis → Corner → ℕ
pair_key axis v = steps (pair_of axis v).one * 2048 + steps (pair_of axis v).two

abbrev pub corner_at : List ℤ → ℕ → Corner
corner_at ns i = corner (get_or ns (3 * i) (pos 0)) (get_or ns (3 * i + 1) (pos 0)) (get_or ns (3 * i + 2) (pos 0))
