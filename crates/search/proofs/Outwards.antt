-- The planes of a map.
--   plane_rising, plane_pairs        the keys of a plane, less the plane's first, are its pairs, and they rise
--   from_rising, run_on_list, edge_on_list     what is said of a list less 0 is said of the list
--   Sunk, sunk-..                    the cells behind the planes below a place
--   section_cells, section_rising, section_few    the cells at the wish's focus, from either side of it
-- Assumes nothing.
use mathlib.Core.Path.{◌≡◌, refl, sym, ◌∙◌, ap, ap₂, subst}
use mathlib.Core.Logic.{inl, inr}
use mathlib.Core.Bool.{Bool, false, ◌&&◌}
use mathlib.Core.List.{List, [], ◌∷◌, map}
use Prim.Native.Nat.{ℕ, suc, ◌+◌, ◌-◌, ◌*◌, ◌≤◌, ◌<◌}
use native.Mathlib.Omega.{arith}
use native.Mathlib.Nat.{div-add-mod', div-mul-le_self}
use lib.Dec.{leb}
use lib.ListN.{length, get_or, take, drop, take-append-drop}
use borrow.Author.Tests.{le-leb, lt-leb}
use Rattle.meaning.proofs.Parity.{⊕_self, ⊕_cancel, sum, sum_append, sum_map}
use Rattle.rising.specs.Merged.{From, less_base, norm}
use Rattle.rising.proofs.Sums.{from_less, sum_norm, norm_from}
use Rattle.rising.proofs.Order.{less_none, front_few}
use Rattle.ranks.specs.declared.Scale.{Scale}
use Rattle.ranks.specs.Values.{axis_codes, value, behind}
use Rattle.cells.specs.Cells.{Best, Depth, Rank, Here, Turned, high, rest, high_at, Cut, Run, Edge, plane_unit}
use Rattle.cells.specs.Line.{Above}
use Rattle.cells.proofs.Axis.{part_of, turned_down}
use Rattle.squares.specs.Rising.{Rising, RunTo}
use Rattle.squares.proofs.Runs.{run_of, run_at, length_run, from_take, from_drop, sum_upto}
use Rattle.squares.proofs.Walk.{turned_run, turned_ends}
use Rattle.search.specs.Search.{Even, OneSide}

-- ---- the keys of a plane

less_rising : (base m : ℕ) (l : List ℕ) → From m l → Above base l → From (m - base) (less_base base l)
less_rising base m [] h a = tt
less_rising base m (x ∷ l) h a =
    let k : base ≤ x = a 0 (omega arith) in (
      omega (arith, h.0),
      from_less (suc (x - base)) (suc x - base) (less_base base l) (omega arith) (less_rising base (suc x) l h.1 (λ i p. a (suc i) (omega arith))),
    )

rests : (unit n : ℕ) (l : List ℕ) → ((k : ℕ) → k < length l → high unit (get_or l k 0) ≡ n) → less_base (n * unit) l ≡ map (rest unit) l
rests unit n [] h = refl
rests unit n (x ∷ l) h =
    ap₂ ◌∷◌ (omega (arith, div-add-mod' x unit, ap (◌* unit) (h 0 (omega arith)))) (rests unit n l (λ k p. h (suc k) (omega arith)))

module _ (unit : ℕ) (l : List ℕ) (i e : ℕ) (rises : From 0 l) (run : Run (high unit) l i e) where
  abbrev number : ℕ
  number = high unit (get_or l i 0)

  in_plane_lem : (k : ℕ) → k < length (run_of l i e) → high unit (get_or (run_of l i e) k 0) ≡ number
  in_plane_lem k p =
      let q : k < e - i = omega (arith, length_run l i e run.within) in
      ap (high unit) (run_at l i e k q) ∙ run.same (i + k) (omega arith) (omega arith)

  above : Above (number * unit) (run_of l i e)
  above k p = omega (arith, div-mul-le_self (get_or (run_of l i e) k 0) unit, ap (◌* unit) (in_plane_lem k p))

  pub plane_rising : Rising (number * unit) (run_of l i e)
  plane_rising =
      record {
        above = above;
        rising =
            from_less 0 (0 - number * unit) (less_base (number * unit) (run_of l i e)) (omega arith)
            (less_rising (number * unit) 0 (run_of l i e) (from_take 0 (e - i) (drop i l) (from_drop 0 i l rises)) above);
      }

  pub plane_pairs : less_base (number * unit) (run_of l i e) ≡ map (rest unit) (run_of l i e)
  plane_pairs = rests unit number (run_of l i e) in_plane_lem

-- ---- a list that counts from 0

pub from_rising : (l : List ℕ) → From 0 l → Rising 0 l
from_rising l h = record { above = λ i p. omega arith; rising = subst (From 0) (sym (less_none l)) h }

pub run_on_list : (unit : ℕ) (l : List ℕ) (i e : ℕ) → RunTo unit 0 l i e → Run (high unit) l i e × Cut (high unit) l e
run_on_list unit l i e r =
    (subst (λ (m : List ℕ). Run (high unit) m i e) (less_none l) r.run, subst (λ (m : List ℕ). Cut (high unit) m e) (less_none l) r.cut)

pub edge_on_list : (unit code : ℕ) (l : List ℕ) (i : ℕ) → Edge (high unit) (less_base 0 l) code i → Edge (high unit) l code i
edge_on_list unit code l i h = subst (λ (m : List ℕ). Edge (high unit) m code i) (less_none l) h

-- ---- from the wish outwards

-- the cells behind the runs from a place up to a bound
pub record Sunk (unit : ℕ) (scale : Scale) (D : Depth) (l : List ℕ) (base to best i found : ℕ) : Type 0 where
  pub cut : Cut (high unit) l i
  pub order : high_at (high unit) l i ≤ to
  pub seen : Best (Turned unit scale D l (high_at (high unit) l i) to base) best found

pub sunk_on : {unit : ℕ} {scale : Scale} {D : Depth} {l : List ℕ} {base to best i found j r : ℕ} → 0 < unit → From 0 l
    → Sunk unit scale D l base to best i found → Run (high unit) l j i → Cut (high unit) l j → high unit (get_or l j 0) < axis_codes
    → Best (Rank D (map (rest unit) (run_of l j i)) (base + value scale (behind scale.wish (high unit (get_or l j 0))))) found r
    → Sunk unit scale D l base to best j r
sunk_on {unit} {scale} {D} {l} {base} u rises sunk run before low h =
    let ends = turned_ends unit scale D l base u rises run before sunk.cut low in
    record {
      cut = before;
      order = omega (arith, sunk.order, ends);
      seen = turned_down ends sunk.order sunk.seen (turned_run unit scale D l base u rises run before sunk.cut low h);
    }

-- ---- the section at the wish

-- of an even list both sides have the same section
other_side : (f : ℕ → Bool) (l : List ℕ) (place : ℕ) → sum f l ≡ false → sum f (take place l) ≡ sum f (drop place l)
other_side f l place e =
    ⊕_cancel (sum f (take place l)) (sum f (take place l)) (sum f (drop place l))
    (⊕_self (sum f (take place l)) ∙ sym (sym (sum_append f (take place l) (drop place l)) ∙ ap (sum f) (take-append-drop place l) ∙ e))

module _ (scale : Scale) (D : Depth) (l : List ℕ) (place : ℕ) (edge : Edge (high plane_unit) l scale.wish place) (even : Even D l) where
  up_to : (t : D.Rest) → sum (λ k. leb (high plane_unit k) scale.wish && D.test t (rest plane_unit k)) l ≡ sum (λ k. D.test t (rest plane_unit k)) (take place l)
  up_to t =
      sum_upto (λ k. leb (high plane_unit k) scale.wish && D.test t (rest plane_unit k)) (λ k. D.test t (rest plane_unit k)) l place
      (λ j p q. ap (◌&& D.test t (rest plane_unit (get_or l j 0))) (le-leb (high plane_unit (get_or l j 0)) scale.wish (edge.upto j p)))
      (λ j p q. ap (◌&& D.test t (rest plane_unit (get_or l j 0))) (lt-leb (high plane_unit (get_or l j 0)) scale.wish (edge.beyond j p q)))

  ordered : (t : D.Rest) (m : List ℕ) → sum (λ k. D.test t (rest plane_unit k)) m ≡ sum (D.test t) (norm (map (rest plane_unit) m))
  ordered t m = sym (sum_norm (D.test t) (map (rest plane_unit) m) ∙ sum_map (D.test t) (rest plane_unit) m)

  -- the pairs in the room have the cells at the wish's focus
  pub section_cells : (room : List ℕ) (n : ℕ) → OneSide l place room n → (base : ℕ) {m r : ℕ}
      → Best (Rank D (take n room) (base + value scale scale.wish)) m r → Best (Here plane_unit scale D l base) m r
  section_cells room n (inl f) base =
      part_of (λ t. up_to t ∙ ordered t (take place l) ∙ ap (sum (D.test t)) (sym f.contents))
  section_cells room n (inr f) base =
      part_of (λ t. up_to t ∙ other_side (λ k. D.test t (rest plane_unit k)) l place (even t) ∙ ordered t (drop place l) ∙ ap (sum (D.test t)) (sym f.contents))

-- and they rise
pub section_rising : (l : List ℕ) (place : ℕ) (room : List ℕ) (n : ℕ) → OneSide l place room n → Rising 0 (take n room)
section_rising l place room n (inl f) = from_rising (take n room) (subst (From 0) (sym f.contents) (norm_from (map (rest plane_unit) (take place l))))
section_rising l place room n (inr f) = from_rising (take n room) (subst (From 0) (sym f.contents) (norm_from (map (rest plane_unit) (drop place l))))

-- and are no more than the room holds
pub section_few : (l : List ℕ) (place : ℕ) (room : List ℕ) (n : ℕ) → OneSide l place room n → n ≤ length room
section_few l place room n (inl f) = front_few f
section_few l place room n (inr f) = front_few f
