-- Laws that docs/PORT.md names and that no proof cites.
--   raised_by      a key raised, by the part that was read, on an axis that is known
--   takes_below, leaves_above     the loop over keys at or below a cut: the next key's pair is taken, or the key is left
--   keys_few       of the keys of a list's vertices there are no more than vertices
--   raised_front   the raised keys, brought to order
use mathlib.Core.Path.{◌≡◌, sym, ◌∙◌, ap, subst}
use mathlib.Core.Bool.{true, false, cond}
use mathlib.Core.List.{List, ◌∷◌, ◌++◌, map}
use Prim.Native.Nat.{ℕ, ◌+◌, ◌-◌, ◌*◌, ◌≤◌, ◌<◌}
use native.Mathlib.Omega.{arith}
use borrow.Author.Tests.{le-leb, lt-leb}
use lib.Dec.{leb}
use lib.ListN.{length, take, drop, set, get_or, length-map}
use lib.Seq.{take_at}
use Rattle.meaning.specs.Numbers.{Axis}
use Rattle.meaning.specs.declared.Corner.{Corner}
use Rattle.meaning.specs.Counting.{keep}
use Rattle.codes.specs.Keys.{key_of}
use Rattle.rising.specs.Merged.{norm}
use Rattle.rising.specs.Placed.{Front}
use Rattle.rising.proofs.Order.{front_append}
use Rattle.rising.proofs.Written.{Filling, puts, skips}
use Rattle.keys.specs.Parts.{part_on}
use Rattle.parts.specs.Axes.{pair_on, step_on, raised_key, pairs_below}

-- ---- a key raised

pub raised_by : (p k : ℕ) {a axis : Axis} → a ≡ axis → {part : ℕ} → part ≡ part_on a k → k + (p - part) * step_on axis ≡ raised_key a p k
raised_by p k e f = λ i. k + (p - f i) * step_on (sym e i)

-- ---- keys at or below a cut

module _ (axis : Axis) (cut k : ℕ) (ks : List ℕ) where
  below_yes : leb (part_on axis k) cut ≡ true → pairs_below axis cut (k ∷ ks) ≡ pair_on axis k ∷ pairs_below axis cut ks
  below_yes e = ap (λ t. map (pair_on axis) (cond t (k ∷ keep (λ j. leb (part_on axis j) cut) ks) (keep (λ j. leb (part_on axis j) cut) ks))) e

  below_no : leb (part_on axis k) cut ≡ false → pairs_below axis cut (k ∷ ks) ≡ pairs_below axis cut ks
  below_no e = ap (λ t. map (pair_on axis) (cond t (k ∷ keep (λ j. leb (part_on axis j) cut) ks) (keep (λ j. leb (part_on axis j) cut) ks))) e

module _ (axis : Axis) (cut : ℕ) (keys before now : List ℕ) (i n : ℕ) (m : Filling (pairs_below axis cut) keys before now i n) (h : i < length keys) where
  pub takes_below : part_on axis (get_or keys i 0) ≤ cut → Filling (pairs_below axis cut) keys before (set now n (pair_on axis (get_or keys i 0))) (i + 1) (n + 1)
  takes_below l =
      puts (pairs_below axis cut) keys before now i n m h (pair_on axis (get_or keys i 0))
      (below_yes axis cut (get_or keys i 0) (drop (i + 1) keys) (le-leb (part_on axis (get_or keys i 0)) cut l))

  pub leaves_above : cut < part_on axis (get_or keys i 0) → Filling (pairs_below axis cut) keys before now (i + 1) n
  leaves_above l =
      skips (pairs_below axis cut) keys before now i n m h
      (below_no axis cut (get_or keys i 0) (drop (i + 1) keys) (lt-leb (part_on axis (get_or keys i 0)) cut l))

-- ---- keys as they are read, and raised

pub keys_few : (l : List Corner) {read : List ℕ} (room : ℕ) → read ≡ map key_of l → length l ≤ room → length read ≤ room
keys_few l room e h = omega (arith, ap length e, length-map l key_of)

-- keys raised in another slice, of which the order stands in a third
pub raised_front : (f : ℕ → ℕ) (ks upper : List ℕ) {now x : List ℕ} {m : ℕ} → now ≡ map f ks ++ drop (length ks) upper
    → Front (norm (take (length ks) now)) x m → (r : List ℕ) → Front (norm (map f ks)) (x ++ r) m
raised_front f ks upper {x = x} {m} e h r =
    subst (λ (l : List ℕ). Front (norm l) (x ++ r) m)
    (ap (take (length ks)) e ∙ take_at (map f ks) (drop (length ks) upper) (length ks) (length-map ks f))
    (front_append h r)
