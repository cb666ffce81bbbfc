-- Inner: the cells of lists of numbers and their ranks, what the parts of the search for the nearest cell lend each other.
--   line_unit, plane_unit             how far two neighbouring lines, and two neighbouring planes, lie apart as keys
--   Best                            the least of a number and the ranks of a set
--   Depth, point, over              what lies inside: nothing more; one axis more, where a number has a high part and a rest
--   Rank                            the rank of a cell that a list permits, from a base up
--   high, rest                      the parts of a number that counts by a unit
--   axis_over, line_in, section_in, map_in     the cells of a line, of a section and of a map
--   Part                            the rank of a cell that is permitted by the rests of those numbers of a list that pass a test
--   Here                            a cell at the wish's code: of the numbers with a high part up to it
--   Turned                          a cell just behind a high part between two: of the numbers with that high part, by themselves
--   high_at                          the high part of the number at a place, or the end
--   Cut                             a place where no run of one high part goes on
--   Run                             the numbers from one place to below another have one high part
--   Edge                            a cut up to which all high parts are at most a code, and behind which none is
use Rattle.std.specs.Prelude.{◌≡◌, ◌⊎◌, Bool, true, ◌&&◌, cond, List, ℕ, ◌+◌, ◌/◌, ◌%◌, ◌≤◌, ◌<◌, min, leb, ltb, eqb, length, get_or}
use Rattle.meaning.specs.Counting.{sum}
use Rattle.ranks.specs.declared.Scale.{Scale}
use Rattle.ranks.specs.Values.{axis_codes, value, behind}

-- ---- the least of ranks

pub record Best (R : ℕ → Type 0) (m r : ℕ) : Type 0 where
  pub low : r ≤ m
  pub least : (q : ℕ) → R q → r ≤ q
  pub from : (r ≡ m) ⊎ R r

-- ---- cells

pub record Depth : Type 1 where
  pub Rest : Type 0
  pub ok : Rest → Type 0
  pub test : Rest → ℕ → Bool
  pub worth : Rest → ℕ

abbrev pub point : Depth
point = record { Rest = Unit {0}; ok = λ t. Unit {0}; test = λ t k. true; worth = λ t. 0 }

abbrev pub over : (ℕ → ℕ) → (ℕ → ℕ) → (ℕ → ℕ) → Depth → Depth
over hi lo v D =
    record {
      Rest = ℕ × D.Rest;
      ok = λ t. (t.0 < axis_codes) × D.ok t.1;
      test = λ t k. leb (hi k) t.0 && D.test t.1 (lo k);
      worth = λ t. v t.0 + D.worth t.1;
    }

pub record Rank (D : Depth) (l : List ℕ) (base q : ℕ) : Type 0 where
  pub at : D.Rest
  pub within : D.ok at
  pub member : sum (D.test at) l ≡ true
  pub is : q ≡ base + D.worth at

-- ---- lists of numbers with a high part

abbrev pub line_unit : ℕ
line_unit = 2048

abbrev pub plane_unit : ℕ
plane_unit = 2099200

-- the parts of a number that counts by a unit
abbrev pub high : ℕ → ℕ → ℕ
high unit k = k / unit

abbrev pub rest : ℕ → ℕ → ℕ
rest unit k = k % unit

abbrev pub axis_over : ℕ → Scale → Depth → Depth
axis_over unit scale D = over (high unit) (rest unit) (value scale) D

abbrev pub line_in : Scale → Depth
line_in second = axis_over 1 second point

abbrev pub section_in : Scale → Scale → Depth
section_in first second = axis_over line_unit first (line_in second)

abbrev pub map_in : Scale → Scale → Scale → Depth
map_in focus first second = axis_over plane_unit focus (section_in first second)

-- ---- the cells at the wish's code, and those just behind a high part

pub record Part (p : ℕ → Bool) (lo : ℕ → ℕ) (D : Depth) (l : List ℕ) (base q : ℕ) : Type 0 where
  pub at : D.Rest
  pub within : D.ok at
  pub member : sum (λ k. p k && D.test at (lo k)) l ≡ true
  pub is : q ≡ base + D.worth at

abbrev pub Here : ℕ → Scale → Depth → List ℕ → ℕ → ℕ → Type 0
Here unit scale D l base q = Part (λ k. leb (high unit k) scale.wish) (rest unit) D l (base + value scale scale.wish) q

pub record Turned (unit : ℕ) (scale : Scale) (D : Depth) (l : List ℕ) (low high' base q : ℕ) : Type 0 where
  pub number : ℕ
  pub from : low ≤ number
  pub below : number < high'
  pub cell : Part (λ k. eqb (high unit k) number) (rest unit) D l (base + value scale (behind scale.wish number)) q

abbrev pub high_at : (ℕ → ℕ) → List ℕ → ℕ → ℕ
high_at hi l i = cond (ltb i (length l)) (min (hi (get_or l i 0)) axis_codes) axis_codes

pub record Cut (hi : ℕ → ℕ) (l : List ℕ) (i : ℕ) : Type 0 where
  pub within : i ≤ length l
  pub apart : (j k : ℕ) → j < i → i ≤ k → k < length l → hi (get_or l j 0) < hi (get_or l k 0)

pub record Run (hi : ℕ → ℕ) (l : List ℕ) (i e : ℕ) : Type 0 where
  pub some : i < e
  pub within : e ≤ length l
  pub same : (k : ℕ) → i ≤ k → k < e → hi (get_or l k 0) ≡ hi (get_or l i 0)

pub record Edge (hi : ℕ → ℕ) (l : List ℕ) (code i : ℕ) : Type 0 where
  pub within : i ≤ length l
  pub upto : (j : ℕ) → j < i → hi (get_or l j 0) ≤ code
  pub beyond : (j : ℕ) → i ≤ j → j < length l → code < hi (get_or l j 0)
