-- A box, cell by cell: what stands in a result that the promise calls done.
--   box_stands    the ends are good, and the eight vertices stand at the front of the result
--   box_cells_lem     the first 24 numbers are eight vertices, a map of the cells of the box; everything behind them is untouched
-- Assumes nothing.
use mathlib.Core.Path.{◌≡◌, refl, ◌∙◌, ap, subst}
use mathlib.Core.Bool.{Bool, true, false}
use mathlib.Core.List.{List}
use Prim.Native.Nat.{ℕ, ◌*◌}
use native.Mathlib.Omega.{arith}
use lib.IntN.{ℤ}
use lib.ListN.{length, take, drop}
use Rattle.meaning.specs.Lists.{vertices, numbers}
use Rattle.meaning.specs.Made.{MapOf}
use Rattle.meaning.specs.Outcomes.{per_vertex}
use Rattle.meaning.proofs.Made.{length_numbers, Stands, placed_stands, stands_behind, front_map, front_count}
use Rattle.boxes.specs.Box.{good_ends, box_set, box_vertices, box_values, BoxMade}
use Rattle.std.specs.Prelude.{Ok}
use Rattle.boxes.proofs.Boxes.{by_ends, box_within, box_one}

-- how many vertices a box that is done has: eight
abbrev eight : ℕ
eight = (box_values (Ok tt)).count

module _ (ends : List (List ℤ)) (before after : List ℤ) (made : BoxMade ends before (Ok tt) after) where
  pub box_stands : (good_ends ends ≡ true) × Stands per_vertex numbers (box_vertices ends) before eight after
  unfolding BoxMade
  box_stands = go (good_ends ends) refl
    where
      go : (t : Bool) → good_ends ends ≡ t → (good_ends ends ≡ true) × Stands per_vertex numbers (box_vertices ends) before eight after
      go true g = (g, placed_stands per_vertex numbers (box_vertices ends) before eight after (made ∙ by_ends ends before true g))
      go false g = absurd (omega (arith, ap (λ o. o.values.number) (made ∙ by_ends ends before false g)))

  pub box_cells_lem : MapOf (box_set ends) (vertices (take (per_vertex * 8) after)) × (length (vertices (take (per_vertex * 8) after)) ≡ 8) ×
      (drop (per_vertex * 8) after ≡ drop (per_vertex * 8) before)
  box_cells_lem =
      let (good, s) = box_stands in
      let within = box_within ends good in
      let one = subst (λ l. Stands per_vertex numbers l before eight after) (box_one ends good) s in (
        front_map (box_set ends) within before eight after one,
        front_count (box_set ends) within before eight after one,
        stands_behind per_vertex numbers length_numbers (box_vertices ends) before eight after s,
      )
