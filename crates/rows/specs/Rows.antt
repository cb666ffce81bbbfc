-- Inner: rows of bits, and what is put out of them.
--   holds_by           an operation by its number
--   bit, bit_at        a binary digit of a number; a bit of a row of words of 64 bits
--   up_to              the exclusive or of the digits of a number up to a place
--   Flipped           a row of which every bit from a place on is turned
--   TookLine          a row that has taken in the keys of a line: each turns the bits from its place on
--   Put               keys put out behind n keys, where there is room for them, and how many that makes
--   PutOnes           the places of the ones of a word, put out
--   change            whether the operation of two memberships turns, where each of them may turn
--   PutLine           the ends of the stretches of a line where the change is another than on the line before, put out
use Rattle.std.specs.Prelude.{◌≡◌, Bool, List, ◌++◌, ℕ, zero, suc, ◌+◌, ◌-◌, ◌*◌, ◌/◌, ◌%◌, ◌^◌, ◌≤◌, ◌<◌, leb, length, take, drop, get_or}
use Rattle.std.proofs.Math.Option.{Option, none, some}
use Rattle.meaning.specs.Counting.{All, ◌⊕◌, odd, sum}
use Rattle.meaning.specs.Operations.{Operation, exclusive, operation, holds}
use Rattle.rising.specs.Merged.{From, plus_base}
use Rattle.turn.specs.Turn.{plane_of}

-- a number that is none of an operation's stands for exclusive or
abbrev pub or_exclusive : Option Operation → Operation
or_exclusive none = exclusive
or_exclusive (some o) = o

abbrev pub holds_by : ℕ → Bool → Bool → Bool
holds_by op = holds (or_exclusive (operation op))

unfoldable pub bit : ℕ → ℕ → Bool
bit n k = odd (n / 2 ^ k)

abbrev pub bit_at : List ℕ → ℕ → Bool
bit_at row x = bit (get_or row (x / 64) 0) (x % 64)

abbrev pub up_to : ℕ → ℕ → Bool
up_to n zero = bit n 0
up_to n (suc k) = bit n (suc k) ⊕ up_to n k

pub record Flipped (at : ℕ) (before after : List ℕ) : Type 0 where
  pub long : length after ≡ length before
  pub bits : (x : ℕ) → x < 64 * length before → bit_at after x ≡ (leb at x ⊕ bit_at before x)

pub record TookLine (keys : List ℕ) (i start limit : ℕ) (before after : List ℕ) (e : ℕ) : Type 0 where
  pub from : i ≤ e
  pub upto : e ≤ length keys
  pub in_it : All (λ k. k < limit) (plane_of keys i e)
  pub left : All (λ k. limit ≤ k) (drop e keys)
  pub long : length after ≡ length before
  pub bits : (x : ℕ) → x < 64 * length before → bit_at after x ≡ (sum (λ k. leb (k - start) x) (plane_of keys i e) ⊕ bit_at before x)

pub record Put (l out : List ℕ) (n : ℕ) (out' : List ℕ) (r : ℕ) : Type 0 where
  pub long : length out' ≡ length out
  pub count : r ≡ n + length l
  pub front : r ≤ length out → take r out' ≡ take n out ++ l

pub record PutOnes (ones at : ℕ) (out : List ℕ) (n : ℕ) (out' : List ℕ) (r : ℕ) : Type 0 where
  pub places : List ℕ
  pub rises : From 0 places
  pub fits : All (λ k. k < 64) places
  pub means : (x : ℕ) → x < 64 → sum (λ k. leb k x) places ≡ up_to ones x
  pub put : Put (plus_base at places) out n out' r

abbrev pub change : ℕ → Bool → Bool → Bool → Bool → Bool
change op s t u v = holds_by op (s ⊕ u) (t ⊕ v) ⊕ holds_by op s t

pub record PutLine (op : ℕ) (ra rb ca cb last : List ℕ) (start : ℕ) (out : List ℕ) (n : ℕ) (last' out' : List ℕ) (r : ℕ) : Type 0 where
  pub places : List ℕ
  pub rises : From 0 places
  pub fits : All (λ k. k < 64 * length last) places
  pub means : (x : ℕ) → x < 64 * length last → sum (λ k. leb k x) places ≡ (bit_at last' x ⊕ bit_at last x)
  pub long : length last' ≡ length last
  pub bits : (x : ℕ) → x < 64 * length last → bit_at last' x ≡ change op (bit_at ra x) (bit_at rb x) (bit_at ca x) (bit_at cb x)
  pub put : Put (plus_base start places) out n out' r
