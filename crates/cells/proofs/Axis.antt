-- The least rank along an axis, for any axis: the lesser of the cells at the wish's code and of those just behind each high part, each high part's
-- own numbers taken by themselves.
--   rank_stop                  no cell is better than the base
--   part_of                    the cells of a part of a list are those of a list that stands for it
--   turned_stop                no high part that is better
--   turned_two, turned_down    two stretches of high parts, from below or from above
--   wish_least, turned_past    the wish's own code has the least value; nothing is better than a cell there
--   axis_least                 the law
-- Assumes nothing.
use mathlib.Core.Path.{◌≡◌, refl, sym, ◌∙◌}
use mathlib.Core.Logic.{◌⊎◌, inl, inr}
use mathlib.Core.Bool.{Bool, true, false, ◌&&◌}
use mathlib.Core.List.{List}
use Prim.Native.Nat.{ℕ, ◌+◌, ◌≤◌, ◌<◌}
use native.Mathlib.Omega.{arith}
use lib.Dec.{leb, ltb, eqb}
use borrow.Author.Tests.{leb-true, leb-false, ltb-true, ltb-false}
use Rattle.meaning.proofs.Parity.{sum}
use Rattle.ranks.specs.declared.Scale.{Scale}
use Rattle.ranks.specs.Values.{axis_codes, value, behind}
use Rattle.ranks.proofs.Costs.{Away, value_away}
use Rattle.cells.specs.Cells.{Best, Depth, Rank, Part, Here, Turned, high, rest, axis_over}
use Rattle.cells.proofs.Best.{best_none, best_then, best_like, best_same}
use Rattle.cells.proofs.Turns.{Reached, to_turn, to_code, turns_sum}

pub rank_stop : (D : Depth) (l : List ℕ) (base m : ℕ) → m ≤ base → Best (Rank D l base) m m
rank_stop D l base m h = best_none (Rank D l base) m (λ q t. omega (arith, t.is))

-- the cells of a part of a list are those of a list with the same sums
pub part_of : {p : ℕ → Bool} {lo : ℕ → ℕ} {D : Depth} {l s : List ℕ} {base m r : ℕ}
    → ((t : D.Rest) → sum (λ k. p k && D.test t (lo k)) l ≡ sum (D.test t) s) → Best (Rank D s base) m r → Best (Part p lo D l base) m r
part_of {p} {lo} {D} {l} {s} {base} {m} {r} same =
    best_same (Rank D s base) (Part p lo D l base) m r
    (λ q t. record { at = t.at; within = t.within; member = same t.at ∙ t.member; is = t.is })
    (λ q t. record { at = t.at; within = t.within; member = sym (same t.at) ∙ t.member; is = t.is })

module _ {unit : ℕ} {scale : Scale} {D : Depth} {l : List ℕ} {base : ℕ} where
  -- nothing behind the high parts of a stretch is better
  pub turned_stop : {low high' m : ℕ}
      → ((e : ℕ) (t : D.Rest) → low ≤ e → e < high' → sum (λ k. eqb (high unit k) e && D.test t (rest unit k)) l ≡ true
      → m ≤ base + value scale (behind scale.wish e))
      → Best (Turned unit scale D l low high' base) m m
  turned_stop {low} {high'} {m} h =
      best_none (Turned unit scale D l low high' base) m
      (λ q t. omega (arith, h t.number t.cell.at t.from t.below t.cell.member, t.cell.is))

  within_of : {x y a b q : ℕ} (t : Turned unit scale D l x y base q) → a ≤ t.number → t.number < b → Turned unit scale D l a b base q
  within_of t h k = record { number = t.number; from = h; below = k; cell = t.cell }

  lower_of : {x y z : ℕ} → y ≤ z → (q : ℕ) → Turned unit scale D l x y base q → Turned unit scale D l x z base q
  lower_of k q t = within_of t t.from (omega (arith, t.below))

  upper_of : {x y z : ℕ} → x ≤ y → (q : ℕ) → Turned unit scale D l y z base q → Turned unit scale D l x z base q
  upper_of h q t = within_of t (omega (arith, t.from)) t.below

  one_of : {x y z : ℕ} (q : ℕ) → Turned unit scale D l x z base q → Turned unit scale D l x y base q ⊎ Turned unit scale D l y z base q
  one_of {x} {y} {z} q t = side (ltb t.number y) refl
    where
      side : (b : Bool) → ltb t.number y ≡ b → Turned unit scale D l x y base q ⊎ Turned unit scale D l y z base q
      side true e = inl (within_of t t.from (ltb-true t.number y e))
      side false e = inr (within_of t (ltb-false t.number y e) t.below)

  pub turned_two : {x y z m r s : ℕ} → x ≤ y → y ≤ z → Best (Turned unit scale D l x y base) m r → Best (Turned unit scale D l y z base) r s → Best (Turned unit scale D l x z base) m s
  turned_two {x} {y} {z} {m} {r} {s} h k =
      best_then (Turned unit scale D l x y base) (Turned unit scale D l y z base) (Turned unit scale D l x z base) m r s (lower_of k) (upper_of h) one_of

  -- the upper one first
  pub turned_down : {x y z m r s : ℕ} → x ≤ y → y ≤ z → Best (Turned unit scale D l y z base) m r → Best (Turned unit scale D l x y base) r s → Best (Turned unit scale D l x z base) m s
  turned_down {x} {y} {z} {m} {r} {s} h k =
      best_then (Turned unit scale D l y z base) (Turned unit scale D l x y base) (Turned unit scale D l x z base) m r s (upper_of h) (lower_of k) (λ q t. other (one_of q t))
    where
      other : {P Q : Type 0} → P ⊎ Q → Q ⊎ P
      other (inl a) = inr a
      other (inr b) = inl b

-- ---- the law

-- the wish's own code has the least value
pub wish_least : (scale : Scale) (c : ℕ) → value scale scale.wish ≤ value scale c
wish_least scale c = go (leb w c) refl
  where
    w : ℕ
    w = scale.wish

    go : (t : Bool) → leb w c ≡ t → value scale w ≤ value scale c
    go true e = (value_away scale).up w c (omega arith) (leb-true w c e)
    go false e = (value_away scale).down c w (omega (arith, leb-false w c e)) (omega arith)

-- nothing is better than a cell at the wish's code
pub turned_past : {unit : ℕ} {scale : Scale} {D : Depth} {l : List ℕ} {base low high' m : ℕ} → m ≤ base + value scale scale.wish
    → Best (Turned unit scale D l low high' base) m m
turned_past {unit} {scale} h = turned_stop (λ e t p q n. omega (arith, wish_least scale (behind scale.wish e)))

module _ (unit : ℕ) (scale : Scale) (D : Depth) (l : List ℕ) (base : ℕ) where
  abbrev w : ℕ
  w = scale.wish

  abbrev v : ℕ → ℕ
  v = value scale

  away : Away w v
  away = value_away scale

  -- the cells at the wish's code and those behind the high parts
  abbrev Near : ℕ → Type 0
  Near q = Here unit scale D l base q ⊎ Turned unit scale D l 0 axis_codes base q

  abbrev Cell : ℕ → Type 0
  Cell q = Rank (axis_over unit scale D) l base q

  -- whether the cell with that rest is permitted at a code
  abbrev at : D.Rest → ℕ → Bool
  at t c = sum (λ k. leb (high unit k) c && D.test t (rest unit k)) l

  cell_of_lem : (q : ℕ) → Near q → (p : ℕ) × Cell p × (p ≤ q)
  cell_of_lem q (inl h) =
      (q, record { at = (w, h.at); within = (scale.sound.0, h.within); member = h.member; is = omega (arith, h.is) }, omega arith)
  cell_of_lem q (inr h) =
      let t = h.cell.at in
      let c = to_code away (at t) h.number (turns_sum (high unit) (λ k. D.test t (rest unit k)) l h.number ∙ h.cell.member) in (
        base + (v c.code + D.worth t),
        record { at = (c.code, t); within = (omega (arith, c.upto, h.below), h.cell.within); member = c.holds; is = refl },
        omega (arith, c.near, h.cell.is),
      )

  near_of : (q : ℕ) → Cell q → (p : ℕ) × Near p × (p ≤ q)
  near_of q h = go (to_turn away (at t) axis_codes c scale.sound.0 h.within.0 h.member)
    where
      c : ℕ
      c = h.at.0

      t : D.Rest
      t = h.at.1

      go : (at t w ≡ true) ⊎ Reached (at t) v w axis_codes c → (p : ℕ) × Near p × (p ≤ q)
      go (inl e) = (
        base + v w + D.worth t,
        inl (record { at = t; within = h.within.1; member = e; is = refl }),
        omega (arith, h.is, wish_least scale c),
      )
      go (inr r) = (
        base + v (behind w r.number) + D.worth t,
        inr
            (record {
              number = r.number;
              from = omega arith;
              below = r.below;
              cell =
                  record {
                    at = t;
                    within = h.within.1;
                    member = sym (turns_sum (high unit) (λ k. D.test t (rest unit k)) l r.number) ∙ r.turned;
                    is = refl;
                  };
            }),
        omega (arith, h.is, r.near),
      )

  law : {m r s : ℕ} → Best (Here unit scale D l base) m r → Best (Turned unit scale D l 0 axis_codes base) r s → Best Cell m s
  law {m} {r} {s} h k =
      best_like Near Cell m s cell_of_lem near_of
      (best_then (Here unit scale D l base) (Turned unit scale D l 0 axis_codes base) Near m r s (λ q t. inl t) (λ q t. inr t) (λ q t. t) h k)

-- the least rank of a list's cells: those at the wish's code, and those behind each high part
pub axis_least : {unit : ℕ} {scale : Scale} {D : Depth} {l : List ℕ} {base m r s : ℕ}
    → Best (Here unit scale D l base) m r → Best (Turned unit scale D l 0 axis_codes base) r s → Best (Rank (axis_over unit scale D) l base) m s
axis_least {unit} {scale} {D} {l} {base} h k = law unit scale D l base h k
