-- What the working table of this crate says of its keys: inner wording, which no promise to users cites.
--   range        how many numbers 32 bits hold
--   IsKeyed        a key whose entries fit 32 bits
--   Room         how many slots a table may have
--   live         the entry that stands for a key that is in; one less stands for a key that was taken out, and 0 for none
--   holds        whether the table has an odd number of live entries of a key
--   Flipped      a key was put in or taken out: what the table holds of it has changed, and of no other key
--   Holds        the table holds just the keys that occur an odd number of times in a list
--   NoneOdd      no key of a list occurs an odd number of times in it
use Rattle.std.specs.Prelude.{◌≡◌, Bool, false, List, ℕ, ◌+◌, ◌*◌, ◌<◌, eqb, length}
use Rattle.std.specs.Bool.{xor}
use Rattle.meaning.specs.Counting.{count, odd}
use Rattle.chains.specs.Odd.{occurs_oddly}

abbrev pub range : ℕ
range = 4294967296

abbrev pub IsKeyed : ℕ → Type 0
IsKeyed key = key < 2147483647

pub record Room (slots : ℕ) : Type 0 where
  pub some : 0 < slots
  pub few : slots < range

abbrev pub live : ℕ → ℕ
live key = 2 * key + 3

unfoldable pub holds : List ℕ → ℕ → Bool
holds table key = odd (count (λ entry. eqb (live key) entry) table)

pub record Flipped (key : ℕ) (table after : List ℕ) : Type 0 where
  pub every : (j : ℕ) → holds after j ≡ xor (holds table j) (eqb j key)

pub record Holds (table keys : List ℕ) : Type 0 where
  pub every : (j : ℕ) → holds table j ≡ odd (count (λ k. eqb j k) keys)

abbrev pub NoneOdd : List ℕ → Type 0
NoneOdd keys = (k : ℕ) → k < length keys → occurs_oddly keys k ≡ false
