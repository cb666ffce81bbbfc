-- What an answer of the reader means.
--   refused_number, refused_place   document 01's number of why a text is refused, and the place that it names
--   meant     with the list that it has filled: the refusal, or the numbers that stand at the front of the list, three for each frame read
--   AtMost    it has read at most so many frames
use Rattle.std.specs.Prelude.{List, ℕ, ◌*◌, ◌≤◌, ℤ, take, Result, Ok, Err}
use Rattle.meaning.specs.Verdicts.{number_of, place_of}
use Rattle.reading.specs.Reading.{ill_formed, wrong_sum, Text, refused, whole}
use Rattle.reading.specs.declared.Refused.{Refused}
use Rattle.reading.specs.declared.Refused.TheVariants.{List as OfList, IllFormed, WrongSum}

abbrev pub refused_number : Refused → ℕ
refused_number (OfList why) = number_of why
refused_number (IllFormed line) = ill_formed
refused_number WrongSum = wrong_sum

abbrev pub refused_place : Refused → ℕ
refused_place (OfList why) = place_of why
refused_place (IllFormed line) = line
refused_place WrongSum = 0

abbrev pub meant : Result ℕ Refused → List ℤ → Text
meant (Err why) l = refused (refused_number why) (refused_place why)
meant (Ok n) l = whole (take (3 * n) l)

abbrev pub AtMost : ℕ → Result ℕ Refused → Type 0
AtMost m (Err why) = Unit {0}
AtMost m (Ok n) = n ≤ m
