-- A signed number of 16 bits as its bits in two's complement, and back.
--   half_words, all_words   half of the numbers of 16 bits, and how many there are
--   word                  the bits of a signed number, as a number without sign: those of -3 are FFFD
--   signed                the signed number with these bits: FFFD is -3
use Rattle.std.specs.Prelude.{cond, ℕ, ◌-◌, ltb, ℤ, pos, negsuc}
use Rattle.std.proofs.Math.IntN.{sub_ℕ}

abbrev pub half_words : ℕ
half_words = 32768

abbrev pub all_words : ℕ
all_words = 65536

abbrev pub word : ℤ → ℕ
word (pos n) = n
word (negsuc n) = 65535 - n

abbrev pub signed : ℕ → ℤ
signed n = cond (ltb n half_words) (pos n) (sub_ℕ n all_words)
