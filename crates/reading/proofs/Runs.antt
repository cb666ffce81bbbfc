-- A run of frames of three numbers, read one after the other into a list.
--   Run                              the frames before i are well formed and their numbers stand at the front of the list
--   run_more                         one frame more
--   run_stop, run_all                the next frame is ill formed; all are read
--   all_read                         where the first ill formed frame is none of n, all n are read
--   numbers_long                     a run of n well formed frames has 3n numbers
use mathlib.Core.Path.{◌≡◌, refl, sym, ◌∙◌, ap, ap₂, subst}
use mathlib.Core.Bool.{Bool, false}
use mathlib.Core.List.{List, [], ◌∷◌, ◌++◌}
use Prim.Native.Nat.{ℕ, zero, suc, ◌+◌, ◌*◌, ◌≤◌, ◌<◌}
use native.Mathlib.Omega.{arith}
use native.Mathlib.Numerals.{add-one}
use borrow.Author.Count.{below_more}
use borrow.Rule.Slice.PartMut.{put_mid}
use lib.IntN.{ℤ}
use lib.ListN.{length, take, length-append}
use Rattle.std.specs.Prelude.{Option, Some, None}
use Rattle.std.proofs.lemmas.Slice.{take-put_mid}
use Rattle.meaning.specs.Counting.{first}
use Rattle.meaning.proofs.First.{first_is, is_first}
use Rattle.frames.specs.Frames.{long_line, three_at}
use Rattle.words.specs.Words.{signed}
use Rattle.reading.specs.Reading.{is_ill, numbers_of, ill_at, numbers_from}

pub record Run (s : List ℕ) (tag start : ℕ) (now : List ℤ) (i : ℕ) : Type 0 where
  pub well : (k : ℕ) → k < i → ill_at s tag start k ≡ false
  pub front : take (3 * i) now ≡ numbers_from s tag start i

module _ (s : List ℕ) (tag start : ℕ) where
  pub run_more : {now : List ℤ} {i a b c : ℕ} {x y z : ℤ} {ys : List ℤ} (k : ℕ) → Run s tag start now i → 3 * i ≤ length now
      → Some (a, b, c) ≡ three_at s tag (start + long_line * i) → ys ≡ x ∷ y ∷ z ∷ [] → x ≡ signed a → y ≡ signed b → z ≡ signed c
      → Run s tag start (put_mid (3 * i) k now ys) (i + 1)
  run_more {now} {i} {a} {b} {c} {x} {y} {z} {ys} k r room e es ex ey ez =
      record {
        well = below_more _ _ r.well (sym (ap is_ill e));
        front =
            take-put_mid (3 * i) k now ys (3 * (i + 1)) (omega (arith, ap length es)) room ∙
            ap₂ ◌++◌ r.front (es ∙ (λ j. ex j ∷ ey j ∷ ez j ∷ []) ∙ ap numbers_of e) ∙
            ap (numbers_from s tag start) (sym (add-one i));
      }

  pub run_stop : {now : List ℤ} {i : ℕ} (n : ℕ) → Run s tag start now i → i < n → None ≡ three_at s tag (start + long_line * i) → i ≡ first (ill_at s tag start) n
  run_stop {now} {i} n r h e =
      is_first (ill_at s tag start) n i (record { within = omega arith; before = r.well; found = λ l. sym (ap is_ill e) })

  pub run_all : {now : List ℤ} {i : ℕ} (n : ℕ) → Run s tag start now i → i ≤ n → n ≤ i
      → (n ≡ first (ill_at s tag start) n) × (take (3 * n) now ≡ numbers_from s tag start n)
  run_all {now} {i} n r k h =
      let is : i ≡ n = omega arith in (
        is_first (ill_at s tag start) n n
            (record { within = omega arith; before = λ k l. r.well k (omega arith); found = λ l. absurd (omega arith) }),
        ap (λ k. take (3 * k) now) (sym is) ∙ r.front ∙ ap (numbers_from s tag start) is,
      )

pub all_read : (s : List ℕ) (tag start n : ℕ) {r : ℕ} (l : List ℤ) → r ≡ first (ill_at s tag start) n → n ≤ r
    → take (3 * r) l ≡ numbers_from s tag start r → take (3 * n) l ≡ numbers_from s tag start n
all_read s tag start n {r} l e h f =
    let is : r ≡ n = omega (arith, e, (first_is (ill_at s tag start) n).within) in
    subst (λ k. take (3 * k) l ≡ numbers_from s tag start k) is f

pub numbers_long : (s : List ℕ) (tag start n : ℕ) → ((k : ℕ) → k < n → ill_at s tag start k ≡ false) → length (numbers_from s tag start n) ≡ 3 * n
numbers_long s tag start zero h = refl
numbers_long s tag start (suc n) h =
    length-append (numbers_from s tag start n) _ ∙
    omega (arith, numbers_long s tag start n (λ k l. h k (omega arith)), three (three_at s tag (start + long_line * n)) (h n (omega arith)))
  where
    three : (f : Option (ℕ × ℕ × ℕ)) → is_ill f ≡ false → length (numbers_of f) ≡ 3
    three None e = absurd (mathlib.Core.Bool.true≢false e)
    three (Some v) e = refl
