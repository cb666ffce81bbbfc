-- The answer of nearest.
--   not_empty                       a valid list of some numbers has some vertices
--   answered                        the least rank, taken apart, is the answer
-- Assumes nothing.
use mathlib.Core.Path.{◌≡◌, ap}
use mathlib.Core.Bool.{false, false≢true}
use mathlib.Core.List.{List}
use Prim.Native.Nat.{ℕ, zero, suc, ◌/◌, ◌%◌, ◌<◌}
use native.Mathlib.Omega.{arith}
use lib.Dec.{eqb}
use lib.IntN.{ℤ}
use lib.ListN.{length}
use Rattle.meaning.specs.declared.Cell.{Cell}
use Rattle.meaning.specs.Lists.{vertices}
use Rattle.meaning.specs.Lists as Lists
use Rattle.meaning.specs.Verdicts.{Valid, verdict, passes}
use Rattle.std.specs.Prelude.{Ok}
use Rattle.meaning.proofs.Checked.{verdict_valid}
use Rattle.lists.proofs.Vertices.{length_vertices}
use Rattle.nearest.specs.Answer.{Answered}
use Rattle.nearest.specs.Ranks.{Ranked, found_at}
use Rattle.nearest.proofs.Promise.{answered_cell}
use Rattle.nearest.proofs.Ranks.{ranked_nearest}

pub valid_list : (ns : List ℤ) → verdict ns ≡ Valid → Lists.Valid (vertices ns)
valid_list ns e = ((verdict_valid ns).0 e).1

pub not_empty : (ns : List ℤ) → verdict ns ≡ Valid → false ≡ eqb (length ns) 0 → 0 < length (vertices ns)
not_empty ns e h = by (length ns) (length (vertices ns)) (length_vertices ns) ((verdict_valid ns).0 e).0 h
  where
    by : (m n : ℕ) → n ≡ m / 3 → m % 3 ≡ 0 → false ≡ eqb m 0 → 0 < n
    by zero n p q k = absurd (false≢true k)
    by (suc m) n p q k = omega arith

pub answered : (ns : List ℤ) (w : Cell) (r : ℕ) → verdict ns ≡ Valid → Ranked (vertices ns) w r → Answered ns w (Ok (found_at r))
answered ns w r e h = let n = ranked_nearest (vertices ns) (valid_list ns e) w r h in answered_cell ns w (ap passes e) (found_at r) n.0 n.1
