-- The four lists that the sweep of a plane reads line by line.
--   Of              a reading is of a list, whose keys count from an offset
--   passed          a line that has no key of a list
--   Going           the state of the loop over lines
--   start           nothing read
--   asks_a .. asks_put     what each call of the loop's body asks
--   moved           a key is read
--   quiet, put_on, early   what a turn leaves, and where the loop ends early
--   heads, ended    the least of the first keys that are left; no key is left
-- Assumes nothing.
use mathlib.Core.Path.{◌≡◌, refl, sym, ◌∙◌, ap, subst, subst₂}
use mathlib.Core.List.{List}
use Prim.Native.Nat.{ℕ, zero, suc, ◌+◌, ◌*◌, ◌^◌, ◌≤◌, ◌<◌}
use native.Mathlib.Omega.{arith}
use lib.ListN.{length, take, drop, get_or, replicate}
use lib.Seq.{length-take-le}
use Rattle.std.specs.Prelude.{Option, None, Some}
use Rattle.meaning.specs.Counting.{All}
use Rattle.meaning.proofs.Space.{all_map}
use Rattle.rising.specs.Merged.{From, less_base}
use Rattle.rows.specs.Rows.{TookLine, PutLine}
use Rattle.turn.proofs.Lists.{all_take}
use Rattle.turn.proofs.Pieces.{run_stops}
use Rattle.rows.proofs.Flips.{took_none, took_all}
use Rattle.levels.specs.declared.Reading.{Reading}
use Rattle.levels.specs.Planes.{lesser_of, Begun, HeadIs, InRow, AtLine, LineTaken, Planes, Rows, Changed}
use Rattle.levels.proofs.Lines.{Read, Heads, Lines, line_of}
use Rattle.levels.proofs.Lines as laws

zeros : (n : ℕ) → All {A = ℕ} (λ w. w ≡ 0) (replicate n 0)
zeros zero = tt
zeros (suc n) = (refl, zeros n)

-- ---- one list

pub record Of (off : ℕ) (l : List ℕ) (r : Reading) : Type 0 where
  pub is_keys : r.keys.now ≡ l
  pub is_base : r.base ≡ off

module _ {off : ℕ} {l : List ℕ} {r : Reading} (o : Of off l r) where
  pub still : {line low : ℕ} {row row' : List ℕ} {r' : Reading} → LineTaken line low row row' r r' → Of off l r'
  still t = record { is_keys = t.keys ∙ o.is_keys; is_base = t.base ∙ o.is_base }

  pub head_is : (x : Option ℕ) → HeadIs r.base r.keys.now r.read x → HeadIs off l r.read x
  head_is x = subst₂ (λ (b : ℕ) (k : List ℕ). HeadIs b k r.read x) o.is_base o.is_keys

  pub took : {line low : ℕ} {row row' : List ℕ} {r' : Reading} → LineTaken line low row row' r r'
      → TookLine l r.read (off + line + low) (off + line + 2048) row row' r'.read
  took {line} {low} {row} {row'} {r'} t =
      subst₂ (λ (b : ℕ) (k : List ℕ). TookLine k r.read (b + line + low) (b + line + 2048) row row' r'.read)
      o.is_base o.is_keys t.took

  -- what taking a line asks
  pub asks : {line low words edge : ℕ} {row : List ℕ} → Read off low words l edge r.read row → off + line + 2048 < 2 ^ 32
      → All (InRow (off + line + low) (off + line + 2048) words) (drop r.read l) → AtLine line low (length row) r
  asks {line} {low} {words} w f h =
      subst (λ (n : ℕ). AtLine line low n r) (sym w.long)
      record {
        fits = omega (arith, o.is_base);
        within = omega (arith, ap length o.is_keys, w.within);
        rises = subst (From 0) (sym o.is_keys) w.rises;
        in_row = subst₂ (λ (b : ℕ) (k : List ℕ). All (InRow (b + line + low) (b + line + 2048) words) (drop r.read k)) (sym o.is_base) (sym o.is_keys) h;
      }

  -- and what its first key asks
  pub asks_head : {low words edge : ℕ} {row : List ℕ} → Read off low words l edge r.read row → All (λ k. r.base ≤ k) r.keys.now
  asks_head w = subst₂ (λ (b : ℕ) (k : List ℕ). All (λ x. b ≤ x) k) (sym o.is_base) (sym o.is_keys) (all_map l (λ k h. h.0) w.proper)

begun : {off : ℕ} {l : List ℕ} {r : Reading} → Begun l off r → Of off l r
begun b = record { is_keys = b.keys; is_base = b.base_is }

-- ---- a line that is passed over

-- the first key that is left lies beyond the line, and nothing is taken
pub passed : {line low words : ℕ} {r : Reading} {row : List ℕ} → AtLine line low words r → r.read < length r.keys.now
    → r.base + line + 2048 ≤ get_or r.keys.now r.read 0 → LineTaken line low row row r r
passed {line} {low} {words} {r} {row} w h u =
    let none = took_none r.keys.now r.read (r.base + line + low) (r.base + line + 2048) row w.within w.rises in
    record {
      took = took_all none (run_stops r.keys.now r.read (r.base + line + 2048) r.read none.running h u).3;
      keys = refl;
      base = refl;
    }

-- ---- a row

-- so many words of an array of zeros
abbrev zero_row : ℕ → List ℕ
zero_row words = take words (replicate 17 0)

row_long : (words : ℕ) → words ≤ 17 → length (zero_row words) ≡ words
row_long words h = length-take-le words (replicate 17 0) h

row_empty : (words : ℕ) → All (λ w. w ≡ 0) (zero_row words)
row_empty words = all_take (λ w. w ≡ 0) words (replicate 17 0) (zeros 17)

-- ---- four lists

pub record Going (op low words plane : ℕ) (sa sb pa pb out₀ : List ℕ) (n : ℕ) (a b c d : Reading) (ra rb ca cb last out : List ℕ) (put : ℕ) : Type 0 where
  pub of_sa : Of 0 sa a
  pub of_sb : Of 0 sb b
  pub of_pa : Of plane pa c
  pub of_pb : Of plane pb d
  pub lines : Lines op low words plane sa sb pa pb out₀ n ra rb ca cb last out put a.read b.read c.read d.read

pub start : {op low words plane : ℕ} {sa sb pa pb out : List ℕ} {n : ℕ} {a b c d : Reading} → Begun sa 0 a → Begun sb 0 b → Begun pa plane c
    → Begun pb plane d → Planes low words plane sa sb pa pb → low ≤ 1024 → words ≤ 17
    → Going op low words plane sa sb pa pb out n a b c d (zero_row words) (zero_row words) (zero_row words) (zero_row words) (zero_row words) out n
start {op} {low} {words} {plane} {sa} {sb} {pa} {pb} {out} {n} {a} {b} {c} {d} ba bb bc bd p h k =
    record {
      of_sa = begun ba;
      of_sb = begun bb;
      of_pa = begun bc;
      of_pb = begun bd;
      lines =
          subst₂ (λ (x y : ℕ). Lines op low words plane sa sb pa pb out n (zero_row words) (zero_row words) (zero_row words) (zero_row words)
          (zero_row words) out n x y c.read d.read) (sym ba.read) (sym bb.read)
          (subst₂ (λ (x y : ℕ). Lines op low words plane sa sb pa pb out n (zero_row words) (zero_row words) (zero_row words) (zero_row words)
          (zero_row words) out n 0 0 x y) (sym bc.read) (sym bd.read) (laws.lines_start p rows h k));
    }
  where
    rows : Rows words (zero_row words) (zero_row words) (zero_row words) (zero_row words) (zero_row words)
    rows =
        record {
          long_ra = row_long words k;
          long_rb = row_long words k;
          long_ca = row_long words k;
          long_cb = row_long words k;
          long_last = row_long words k;
          none_ra = row_empty words;
          none_rb = row_empty words;
          none_ca = row_empty words;
          none_cb = row_empty words;
          none_last = row_empty words;
        }

module _ {op low words plane : ℕ} {sa sb pa pb out₀ : List ℕ} {n : ℕ} {a b c d : Reading} {ra rb ca cb last out : List ℕ} {put : ℕ}
    (g : Going op low words plane sa sb pa pb out₀ n a b c d ra rb ca cb last out put) where
  module _ (x y u v : Option ℕ) (hx : HeadIs a.base a.keys.now a.read x) (hy : HeadIs b.base b.keys.now b.read y)
      (hu : HeadIs c.base c.keys.now c.read u) (hv : HeadIs d.base d.keys.now d.read v) where
    pub heads : {m : ℕ} → lesser_of (lesser_of x y) (lesser_of u v) ≡ Some m → Heads plane sa sb pa pb a.read b.read c.read d.read m
    heads = laws.heads g.lines x y u v (head_is g.of_sa x hx) (head_is g.of_sb y hy) (head_is g.of_pa u hu) (head_is g.of_pb v hv)

    pub ended : lesser_of (lesser_of x y) (lesser_of u v) ≡ None
        → Changed op sa sb (less_base plane pa) (less_base plane pb) plane out₀ n out put
    ended e =
        laws.changed_all g.lines
        (laws.none_left g.lines x y u v (head_is g.of_sa x hx) (head_is g.of_sb y hy) (head_is g.of_pa u hu) (head_is g.of_pb v hv) e)

  module _ {m : ℕ} (q : Heads plane sa sb pa pb a.read b.read c.read d.read m) where
    pub small : m ≤ 2098176
    small = laws.least_small g.lines q

    pub asks_a : AtLine (line_of m) low (length ra) a
    asks_a = asks g.of_sa g.lines.in_sa (omega (arith, small)) (laws.asks_sa g.lines q)

    pub asks_b : AtLine (line_of m) low (length rb) b
    asks_b = asks g.of_sb g.lines.in_sb (omega (arith, small)) (laws.asks_sb g.lines q)

    pub asks_c : plane ≤ 2149580800 → AtLine (line_of m) low (length ca) c
    asks_c h = asks g.of_pa g.lines.in_pa (omega (arith, small)) (laws.asks_pa g.lines q)

    pub asks_d : plane ≤ 2149580800 → AtLine (line_of m) low (length cb) d
    asks_d h = asks g.of_pb g.lines.in_pb (omega (arith, small)) (laws.asks_pb g.lines q)

    -- what putting out a line asks
    pub asks_put : plane ≤ 2149580800 → n + 1088 * (length sa + length sb + length pa + length pb) ≤ 2 ^ 60
        → (plane + line_of m + low + 64 * length last ≤ 2 ^ 32) × (put ≤ 2 ^ 61)
    asks_put h k = (omega (arith, small, g.lines.long, g.lines.few_words, g.lines.small), omega (arith, laws.put_bound g.lines, q.left))

    module _ {a' b' c' d' : Reading} {ra' rb' ca' cb' : List ℕ} (ta : LineTaken (line_of m) low ra ra' a a')
        (tb : LineTaken (line_of m) low rb rb' b b') (tc : LineTaken (line_of m) low ca ca' c c') (td : LineTaken (line_of m) low cb cb' d d') where
      pub moved : a.read + b.read + c.read + d.read < a'.read + b'.read + c'.read + d'.read
      moved = laws.moved g.lines q (took g.of_sa ta) (took g.of_sb tb) (took g.of_pa tc) (took g.of_pb td)

      pub few_read : c'.read + d'.read ≤ length pa + length pb
      few_read = omega (arith, (took g.of_pa tc).upto, (took g.of_pb td).upto)

      pub quiet : c'.read + d'.read ≡ 0 → Going op low words plane sa sb pa pb out₀ n a' b' c' d' ra' rb' ca' cb' last out put
      quiet e =
          record {
            of_sa = still g.of_sa ta;
            of_sb = still g.of_sb tb;
            of_pa = still g.of_pa tc;
            of_pb = still g.of_pb td;
            lines = laws.line_quiet g.lines q (took g.of_sa ta) (took g.of_sb tb) (took g.of_pa tc) (took g.of_pb td) e;
          }

      module _ {last' out' : List ℕ} {r : ℕ} (p : PutLine op ra' rb' ca' cb' last (plane + line_of m + low) out put last' out' r) where
        lines_on : Lines op low words plane sa sb pa pb out₀ n ra' rb' ca' cb' last' out' r a'.read b'.read c'.read d'.read
        lines_on = laws.line_put g.lines q (took g.of_sa ta) (took g.of_sb tb) (took g.of_pa tc) (took g.of_pb td) p

        pub put_on : Going op low words plane sa sb pa pb out₀ n a' b' c' d' ra' rb' ca' cb' last' out' r
        put_on =
            record {
              of_sa = still g.of_sa ta;
              of_sb = still g.of_sb tb;
              of_pa = still g.of_pa tc;
              of_pb = still g.of_pb td;
              lines = lines_on;
            }

        pub early : c'.read ≡ length c'.keys.now → d'.read ≡ length d'.keys.now → All (λ w. w ≡ 0) ca' → All (λ w. w ≡ 0) cb'
            → Changed op sa sb (less_base plane pa) (less_base plane pb) plane out₀ n out' r
        early h k zc zd =
            laws.changed_early lines_on (laws.some_words g.lines q)
            (omega (arith, ap length (still g.of_pa tc).is_keys, ap length (still g.of_pb td).is_keys)) zc zd
