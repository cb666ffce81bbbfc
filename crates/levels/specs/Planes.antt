-- Inner: a plane of the sweep.
--   lesser_of  the lesser of two keys, either of which may be missing
--   Begun      a reading of a list of which nothing is read
--   HeadIs     the first key that is left of a list, less an offset, or none
--   InRow      a key at or above a start and, if it is below a limit, within so many words from it
--   AtLine     a reading whose keys of a line may be taken into a row of so many words
--   LineTaken  a reading that has taken the keys of a line into a row
--   Spanned    a key whose number lies within a span
--   Planes     two sections, and a plane's keys of each operand
--   Rows       the rows of a plane's sweep
--   Changed    the change that a plane makes, put out
use Rattle.std.specs.Prelude.{◌≡◌, List, Option, None, Some, MatchOption, ℕ, ◌+◌, ◌-◌, ◌*◌, ◌%◌, ◌^◌, ◌≤◌, ◌<◌, min, length, drop, get_or}
use Rattle.meaning.specs.Counting.{All, sum}
use Rattle.rising.specs.Merged.{From, plus_base}
use Rattle.rows.specs.Rows.{TookLine, Put, change}
use Rattle.levels.specs.declared.Reading.{Reading}
use Rattle.levels.specs.Level.{Number, line_fits, LineOk}

abbrev pub lesser_of : Option ℕ → Option ℕ → Option ℕ
lesser_of None y = y
lesser_of (Some x) None = Some x
lesser_of (Some x) (Some y) = Some (min x y)

pub record Begun (l : List ℕ) (base : ℕ) (r : Reading) : Type 0 where
  pub keys : r.keys.now ≡ l
  pub base_is : r.base ≡ base
  pub read : r.read ≡ 0

abbrev pub HeadIs : ℕ → List ℕ → ℕ → Option ℕ → Type 0
HeadIs off l i o = MatchOption o (length l ≤ i) (λ m. (i < length l) × (m ≡ get_or l i 0 - off))

abbrev pub InRow : ℕ → ℕ → ℕ → ℕ → Type 0
InRow start limit words k = (start ≤ k) × (k < limit → k < start + 64 * words)

pub record AtLine (line low words : ℕ) (r : Reading) : Type 0 where
  pub fits : r.base + line + 2048 < 2 ^ 32
  pub within : r.read ≤ length r.keys.now
  pub rises : From 0 r.keys.now
  pub in_row : All (InRow (r.base + line + low) (r.base + line + 2048) words) (drop r.read r.keys.now)

pub record LineTaken (line low : ℕ) (row row' : List ℕ) (r r' : Reading) : Type 0 where
  pub took : TookLine r.keys.now r.read (r.base + line + low) (r.base + line + 2048) row row' r'.read
  pub keys : r'.keys.now ≡ r.keys.now
  pub base : r'.base ≡ r.base

-- a key whose number lies from low on, within so many words
abbrev pub Spanned : ℕ → ℕ → ℕ → Type 0
Spanned low words k = (low ≤ k % 2048) × (k % 2048 < low + 64 * words)

pub record Planes (low words plane : ℕ) (sa sb pa pb : List ℕ) : Type 0 where
  pub rises_sa : From 0 sa
  pub rises_sb : From 0 sb
  pub rises_pa : From 0 pa
  pub rises_pb : From 0 pb
  pub proper_sa : All LineOk sa
  pub proper_sb : All LineOk sb
  pub proper_pa : All (λ k. (plane ≤ k) × LineOk (k - plane)) pa
  pub proper_pb : All (λ k. (plane ≤ k) × LineOk (k - plane)) pb
  pub span_sa : All (Spanned low words) sa
  pub span_sb : All (Spanned low words) sb
  pub span_pa : All (λ k. Spanned low words (k - plane)) pa
  pub span_pb : All (λ k. Spanned low words (k - plane)) pb

-- the rows of a plane's sweep are as long, and empty at the start
pub record Rows (words : ℕ) (ra rb ca cb last : List ℕ) : Type 0 where
  pub long_ra : length ra ≡ words
  pub long_rb : length rb ≡ words
  pub long_ca : length ca ≡ words
  pub long_cb : length cb ≡ words
  pub long_last : length last ≡ words
  pub none_ra : All (λ w. w ≡ 0) ra
  pub none_rb : All (λ w. w ≡ 0) rb
  pub none_ca : All (λ w. w ≡ 0) ca
  pub none_cb : All (λ w. w ≡ 0) cb
  pub none_last : All (λ w. w ≡ 0) last

pub record Changed (op : ℕ) (sa sb pa pb : List ℕ) (plane : ℕ) (out : List ℕ) (n : ℕ) (out' : List ℕ) (r : ℕ) : Type 0 where
  pub keys : List ℕ
  pub rises : From 0 keys
  pub proper : All LineOk keys
  pub means : (p : ℕ × Number)
      → sum (line_fits p) keys ≡ change op (sum (line_fits p) sa) (sum (line_fits p) sb) (sum (line_fits p) pa) (sum (line_fits p) pb)
  pub put : Put (plus_base plane keys) out n out' r
