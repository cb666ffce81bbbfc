-- The nearest cells to many wishes of one map (document 01, demand 3; docs/DECISIONS.md, 53).
--   wishes, cell_numbers         from a list of numbers to its wishes, three numbers each, focus first; from cells to their numbers
--   EachNearest                 cells that are the nearest to wishes, one for each, in their order
--   Wished                       what many wishes are answered: that the cells stand at the front of the result, one for each wish, or why not
--   many_values, many_says        document 01's values of each case of the answer; what an answer and the contents at exit come to
--   many_outcome                 1 to 5 of the list; then 1 of the wishes, as the second list; then 7 of the empty list; then 6 where the cells do
--                               not fit; else done: the cells stand at the front of the result
--   ManyAnswered                the promise
use Rattle.std.specs.Prelude.{◌≡◌, cond, List, [], ◌∷◌, ◌*◌, ◌%◌, leb, eqb, ℤ, length, Result, Ok, Err}
use Rattle.meaning.specs.Numbers.{cell}
use Rattle.meaning.specs.declared.Cell.{Cell}
use Rattle.meaning.specs.declared.Corner.{Corner}
use Rattle.meaning.specs.Lists.{vertices}
use Rattle.meaning.specs.Verdicts.{verdict}
use Rattle.meaning.specs.declared.Refusal.TheVariants.{NotTriples}
use Rattle.meaning.specs.Nearest.{IsNearest}
use Rattle.meaning.specs.Outcomes.{Values, Outcome, outcome, Nothing, nothing, done, refused, empty_map, no_room, kept, checked, per_vertex, front}
use Rattle.wishes.specs.declared.WishError.{WishError}
use Rattle.wishes.specs.declared.WishError.TheVariants.{Refused, NotWishes, Empty, NoRoom}

abbrev pub wishes : List ℤ → List Cell
wishes [] = []
wishes (x ∷ []) = []
wishes (x ∷ y ∷ []) = []
wishes (x ∷ y ∷ z ∷ l) = cell x y z ∷ wishes l

abbrev pub cell_numbers : List Cell → List ℤ
cell_numbers [] = []
cell_numbers (c ∷ l) = c.focus ∷ c.first ∷ c.second ∷ cell_numbers l

abbrev pub EachNearest : List ℤ → List Cell → List Cell → Type 0
EachNearest ns [] [] = Unit {0}
EachNearest ns [] (c ∷ cs) = ⊥
EachNearest ns (w ∷ ws) [] = ⊥
EachNearest ns (w ∷ ws) (c ∷ cs) = IsNearest ns w c × EachNearest ns ws cs

abbrev pub Wished : Type 0
Wished = Result (Unit {0}) WishError

-- no list of vertices is made, so that the count is 0; wishes that do not come in threes are a second list whose length is no multiple of 3
abbrev pub many_values : Wished → Values
many_values (Ok u) = done 0
many_values (Err (Refused r)) = refused 1 (Err r)
many_values (Err NotWishes) = refused 2 (Err NotTriples)
many_values (Err Empty) = empty_map
many_values (Err NoRoom) = no_room

abbrev pub many_says : Wished → List ℤ → Outcome Nothing (List ℤ)
many_says r after = outcome (many_values r) nothing after

-- of a map's vertices, where the cells are the nearest to the wishes if there is a vertex
abbrev pub many_of : List Corner → List Cell → List ℤ → Outcome Nothing (List ℤ)
many_of [] cs before = kept nothing before empty_map
many_of (v ∷ l) cs before =
    cond (leb (per_vertex * length cs) (length before)) (outcome (done 0) nothing (front (cell_numbers cs) before)) (kept nothing before no_room)

abbrev pub many_outcome : List ℤ → List ℤ → List Cell → List ℤ → Outcome Nothing (List ℤ)
many_outcome ns ws cs before =
    checked 1 (verdict ns) (kept nothing before)
    (cond (eqb (length ws % per_vertex) 0) (many_of (vertices ns) cs before) (kept nothing before (refused 2 (Err NotTriples))))

-- cells that are the nearest to the wishes, if the list is a map that permits any; and what the call comes to with them
pub record ManyAnswered (ns ws before : List ℤ) (r : Wished) (after : List ℤ) : Type 0 where
  pub cells : List Cell
  pub nearest : EachNearest ns (wishes ws) cells
  pub is : many_says r after ≡ many_outcome ns ws cells before
