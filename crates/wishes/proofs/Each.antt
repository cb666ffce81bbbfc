-- Cells that are the nearest to wishes, one for each.
--   nearest_to_lem                  every wish has a nearest cell, if the list is a map that permits any
--   each_nearest, each_once         wishes have nearest cells; of a map with a vertex they are the only ones
--   each_long                       as many as wishes
--   length_wishes, length_cells     how many wishes numbers are, and how many numbers cells are
-- Assumes nothing.
use mathlib.Core.Path.{◌≡◌, refl, sym, ◌∙◌, ap, ap₂, subst}
use mathlib.Core.Bool.{Bool, true, false, true≢false, false≢true}
use mathlib.Core.List.{List, [], ◌∷◌, map}
use Prim.Native.Nat.{◌*◌, ◌/◌, ◌<◌}
use native.Mathlib.Omega.{arith}
use lib.IntN.{ℤ}
use lib.ListN.{length}
use Rattle.meaning.specs.declared.Cell.{Cell}
use Rattle.meaning.specs.declared.Corner.{Corner}
use Rattle.meaning.specs.Lists.{vertices, permitted, Rising}
use Rattle.meaning.specs.Verdicts.{verdict, passes}
use Rattle.meaning.specs.Nearest.{IsNearest}
use Rattle.meaning.proofs.Checked.{passes_valid}
use Rattle.meaning.proofs.Closest.{nearest_exists, nearest_unique}
use Rattle.meaning.proofs.Maps.{valid_within, some_permitted}
use Rattle.wishes.specs.Many.{wishes, cell_numbers, EachNearest}

-- ---- one wish

pub nearest_to_lem : (ns : List ℤ) (w : Cell) → (c : Cell) × IsNearest ns w c
nearest_to_lem ns w = by (passes (verdict ns)) refl (vertices ns) refl
  where
    by : (t : Bool) → passes (verdict ns) ≡ t → (l : List Corner) → vertices ns ≡ l → (c : Cell) × IsNearest ns w c
    by false p l q = (w, λ e. absurd (true≢false (sym e ∙ p)))
    by true p [] q = (w, λ e d m. absurd (false≢true (ap (λ k. permitted k d) (sym q) ∙ m)))
    by true p (v ∷ l) q =
        let valid = passes_valid ns p in
        let (c, m) = some_permitted v l (subst Rising q valid.rising) in
        let (d, n) = nearest_exists (permitted (vertices ns)) (valid_within (vertices ns) valid) w c (ap (λ k. permitted k c) q ∙ m) in
        (d, λ e x y. n)

-- the cell that is the nearest to a wish
pub nearest_to : List ℤ → Cell → Cell
nearest_to ns w = (nearest_to_lem ns w).0

pub nearest_is : (ns : List ℤ) (w : Cell) → IsNearest ns w (nearest_to ns w)
unfolding nearest_to
nearest_is ns w = (nearest_to_lem ns w).1

module _ (ns : List ℤ) (p : passes (verdict ns) ≡ true) where
  -- a map with a vertex permits a cell
  pub permits_some : 0 < length (vertices ns) → (c : Cell) × (permitted (vertices ns) c ≡ true)
  permits_some h = by (vertices ns) (passes_valid ns p).rising h
    where
      by : (l : List Corner) → Rising l → 0 < length l → (c : Cell) × (permitted l c ≡ true)
      by [] r k = absurd (omega arith)
      by (v ∷ l) r k = some_permitted v l r

  pub nearest_once : 0 < length (vertices ns) → (w a b : Cell) → IsNearest ns w a → IsNearest ns w b → a ≡ b
  nearest_once h w a b x y = let (c, m) = permits_some h in nearest_unique (permitted (vertices ns)) w a b (x p c m) (y p c m)

-- ---- many wishes

module _ (ns : List ℤ) where
  pub each_nearest : (ws : List Cell) → EachNearest ns ws (map (nearest_to ns) ws)
  each_nearest [] = tt
  each_nearest (w ∷ ws) = (nearest_is ns w, each_nearest ws)

  pub each_long : (ws cs : List Cell) → EachNearest ns ws cs → length cs ≡ length ws
  each_long [] [] h = refl
  each_long [] (c ∷ cs) h = absurd h
  each_long (w ∷ ws) [] h = absurd h
  each_long (w ∷ ws) (c ∷ cs) h = omega (arith, each_long ws cs h.1)

  pub each_once : passes (verdict ns) ≡ true → 0 < length (vertices ns) → (ws cs ds : List Cell) → EachNearest ns ws cs → EachNearest ns ws ds → cs ≡ ds
  each_once p k [] [] [] h g = refl
  each_once p k [] [] (d ∷ ds) h g = absurd g
  each_once p k [] (c ∷ cs) ds h g = absurd h
  each_once p k (w ∷ ws) [] ds h g = absurd h
  each_once p k (w ∷ ws) (c ∷ cs) [] h g = absurd g
  each_once p k (w ∷ ws) (c ∷ cs) (d ∷ ds) h g =
      ap₂ ◌∷◌ (nearest_once ns p k w c d h.0 g.0) (each_once p k ws cs ds h.1 g.1)

pub length_wishes : (ws : List ℤ) → length (wishes ws) ≡ length ws / 3
length_wishes [] = refl
length_wishes (x ∷ []) = refl
length_wishes (x ∷ y ∷ []) = refl
length_wishes (x ∷ y ∷ z ∷ l) = omega (arith, length_wishes l)

pub length_cells : (cs : List Cell) → length (cell_numbers cs) ≡ 3 * length cs
length_cells [] = refl
length_cells (c ∷ cs) = omega (arith, length_cells cs)
