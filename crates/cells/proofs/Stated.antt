-- Laws that docs/PORT.md names and that no proof cites.
--   turned_none     no high part: no rank is better
--   among_none      no number: no rank is better
--   tells_all       a row that tells of the numbers at the first places, where these are all
use mathlib.Core.Path.{subst}
use mathlib.Core.List.{List}
use Prim.Native.Nat.{ℕ, ◌≤◌}
use native.Mathlib.Omega.{arith}
use lib.ListN.{length, take}
use lib.Seq.{take_all}
use Rattle.ranks.specs.declared.Scale.{Scale}
use Rattle.cells.specs.Cells.{Best, Depth, Turned}
use Rattle.cells.specs.Line.{Tells}
use Rattle.cells.proofs.Best.{best_none}
use Rattle.cells.proofs.Line.{Among}

module _ {unit : ℕ} {scale : Scale} {D : Depth} {l : List ℕ} {base : ℕ} where
  pub turned_none : {low high' m : ℕ} → high' ≤ low → Best (Turned unit scale D l low high' base) m m
  turned_none {low} {high'} {m} h = best_none (Turned unit scale D l low high' base) m (λ q t. absurd (omega (arith, t.from, t.below)))

module _ {scale : Scale} {l : List ℕ} {base : ℕ} where
  pub among_none : {m : ℕ} → Best (Among scale l 0 base) m m
  among_none {m} = best_none (Among scale l 0 base) m (λ q t. absurd (omega (arith, t.below)))

pub tells_all : (l row : List ℕ) (i : ℕ) → length l ≤ i → Tells (take i l) row → Tells l row
tells_all l row i h t = subst (λ (m : List ℕ). Tells m row) (take_all i l h) t
