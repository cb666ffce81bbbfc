-- Loops that fill a lent slice from the front, one number a turn.
--   next_at, all_at   the member at a place and those behind it; what holds of every member holds of the one at a place
--   Written           so much of the whole is written to the front, the rest is to come, and nothing behind is touched
--   Filling           what a function makes of the members read so far is written to the front
-- Assumes nothing.
use mathlib.Core.Path.{◌≡◌, refl, sym, ◌∙◌, ap, ap₂}
use mathlib.Core.List.{List, [], ◌∷◌, ◌++◌, append_assoc, append-nil}
use Prim.Native.Nat.{ℕ, zero, suc, ◌+◌, ◌≤◌, ◌<◌}
use native.Mathlib.Omega.{arith}
use native.Mathlib.Numerals.{add-one}
use lib.ListN.{length, take, drop, set, get_or, drop_of_length-le, length-set, take-append-drop}
use lib.Seq.{drop-cons, drop-drop, take-suc-set, drop-set-lt, length-take-le}
use Rattle.meaning.specs.Counting.{All}

pub next_at : (l : List ℕ) (i : ℕ) → i < length l → drop i l ≡ get_or l i 0 ∷ drop (i + 1) l
next_at l i h = drop-cons l i 0 h ∙ ap (λ k. get_or l i 0 ∷ drop k l) (sym (add-one i))

pub all_at : (Q : ℕ → Type 0) (l : List ℕ) → All Q l → (i : ℕ) → i < length l → Q (get_or l i 0)
all_at Q [] h i k = absurd (omega arith)
all_at Q (x ∷ l) h zero k = h.0
all_at Q (x ∷ l) h (suc i) k = all_at Q l h.1 i (omega arith)

pub record Written {A : Type 0} (whole rest before now : List A) (n : ℕ) : Type 0 where
  pub front : take n now ++ rest ≡ whole
  pub behind : drop n now ≡ drop n before
  pub long : length now ≡ length before
  pub within : n ≤ length before

module _ {A : Type 0} where
  pub none : (whole before : List A) → Written whole whole before before 0
  none whole before = record { front = refl; behind = refl; long = refl; within = omega arith }

  pub one : (x : A) {whole rest before now : List A} {n : ℕ} → Written whole (x ∷ rest) before now n → n < length now
      → Written whole rest before (set now n x) (n + 1)
  one x {whole} {rest} {before} {now} {n} w h =
      let p = add-one n in
      record {
        front = ap (λ k. take k (set now n x) ++ rest) p ∙ ap (◌++ rest) (take-suc-set now n x h) ∙ append_assoc (take n now) (x ∷ []) rest ∙ w.front;
        behind = ap (λ k. drop k (set now n x)) p ∙ drop-set-lt (suc n) now n x (omega arith) ∙ less now before w.behind ∙ ap (λ k. drop k before) (sym p);
        long = length-set now n x ∙ w.long;
        within = omega (arith, w.long);
      }
    where
      less : (l m : List A) → drop n l ≡ drop n m → drop (suc n) l ≡ drop (suc n) m
      less l m e = ap (λ k. drop k l) (sym (add-one n)) ∙ sym (drop-drop 1 n l) ∙ ap (drop 1) e ∙ drop-drop 1 n m ∙ ap (λ k. drop k m) (add-one n)

  -- several numbers, one after the other
  abbrev pub set_all : List A → ℕ → List A → List A
  set_all now n [] = now
  set_all now n (x ∷ xs) = set_all (set now n x) (n + 1) xs

  abbrev pub past : ℕ → List A → ℕ
  past n [] = n
  past n (x ∷ xs) = past (n + 1) xs

  pub several : (xs : List A) {whole rest before now : List A} {n : ℕ} → Written whole (xs ++ rest) before now n → n + length xs ≤ length before
      → Written whole rest before (set_all now n xs) (past n xs)
  several [] w h = w
  several (x ∷ xs) w h = several xs (one x w (omega (arith, w.long))) (omega arith)

  -- what is to come may be said otherwise
  pub to_come : {whole rest before now : List A} {n : ℕ} (rest' : List A) → Written whole rest before now n → rest ≡ rest' → Written whole rest' before now n
  to_come {whole} {rest} {before} {now} {n} rest' w e =
      record { front = ap (take n now ++◌) (sym e) ∙ w.front; behind = w.behind; long = w.long; within = w.within }

  -- the whole is written
  pub all : {whole before now : List A} {n : ℕ} → Written whole [] before now n → (n ≡ length whole) × (now ≡ whole ++ drop n before)
  all {whole} {before} {now} {n} w =
      let e = sym (append-nil (take n now)) ∙ w.front in (
        sym (length-take-le n now (omega (arith, w.long, w.within))) ∙ ap length e,
        sym (take-append-drop n now) ∙ ap₂ ◌++◌ e w.behind,
      )

-- ---- what a function makes of a list

pub record Filling (f : List ℕ → List ℕ) (from before now : List ℕ) (i n : ℕ) : Type 0 where
  pub read : i ≤ length from
  pub few : n ≤ i
  pub room : length from ≤ length before
  pub written : Written (f from) (f (drop i from)) before now n

module _ (f : List ℕ → List ℕ) (from before : List ℕ) where
  pub filling_begins : length from ≤ length before → Filling f from before before 0 0
  filling_begins h = record { read = omega arith; few = omega arith; room = h; written = none _ before }

  module _ (now : List ℕ) (i n : ℕ) (m : Filling f from before now i n) (h : i < length from) where
    pub filling_room : n < length now
    filling_room = omega (arith, m.few, m.room, m.written.long)

    -- the next member gives one member more, or none
    pub puts : (x : ℕ) → f (get_or from i 0 ∷ drop (i + 1) from) ≡ x ∷ f (drop (i + 1) from) → Filling f from before (set now n x) (i + 1) (n + 1)
    puts x e =
        record {
          read = omega arith;
          few = omega (arith, m.few);
          room = m.room;
          written = one x (to_come _ m.written (ap f (next_at from i h) ∙ e)) filling_room;
        }

    pub skips : f (get_or from i 0 ∷ drop (i + 1) from) ≡ f (drop (i + 1) from) → Filling f from before now (i + 1) n
    skips e =
        record {
          read = omega arith;
          few = omega (arith, m.few);
          room = m.room;
          written = to_come _ m.written (ap f (next_at from i h) ∙ e);
        }

  pub filling_ends : (now : List ℕ) (i n : ℕ) → Filling f from before now i n → f [] ≡ [] → length from ≤ i
      → (n ≡ length (f from)) × (now ≡ f from ++ drop n before)
  filling_ends now i n m e h = all (to_come [] m.written (ap f (drop_of_length-le from h) ∙ e))

  -- one member written for each that is read
  pub filling_whole : (now : List ℕ) (i : ℕ) → Filling f from before now i i → f [] ≡ [] → length from ≤ i → now ≡ f from ++ drop (length from) before
  filling_whole now i m e h =
      let is : i ≡ length from = omega (arith, m.read) in
      (filling_ends now i i m e h).1 ∙ ap (λ k. f from ++ drop k before) is
