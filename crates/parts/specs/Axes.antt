-- Inner: keys along an axis, and keys that stand for a list.
--   pair_on                the pair key of a key's other two parts
--   raised_key             a key raised to at least so many steps on an axis
--   pairs_below            the pair keys of the keys at or below a cut on an axis
--   KeysOf                the first n numbers of a slice are keys in range, those of a list
use Rattle.std.specs.Prelude.{◌≡◌, List, map, ℕ, ◌+◌, ◌-◌, ◌*◌, ◌≤◌, leb, length, take}
use Rattle.meaning.specs.Numbers.{Axis, focus, first, second}
use Rattle.meaning.specs.Counting.{keep, All}
use Rattle.codes.specs.Keys.{plane_of, rest_of, line_of, last_of}
use Rattle.keys.specs.Parts.{part_on}

abbrev pub pair_on : Axis → ℕ → ℕ
pair_on focus k = rest_of k
pair_on first k = plane_of k * 2048 + last_of (rest_of k)
pair_on second k = plane_of k * 2048 + line_of (rest_of k)

-- how far two neighbouring numbers on an axis lie apart, as keys
abbrev pub step_on : Axis → ℕ
step_on focus = 2099200
step_on first = 2048
step_on second = 1

abbrev pub raised_key : Axis → ℕ → ℕ → ℕ
raised_key axis p k = k + (p - part_on axis k) * step_on axis

abbrev pub pairs_below : Axis → ℕ → List ℕ → List ℕ
pairs_below axis cut ks = map (pair_on axis) (keep (λ k. leb (part_on axis k) cut) ks)

pub record KeysOf {A : Type 0} (Ok : ℕ → Type 0) (of : ℕ → A) (l : List A) (now : List ℕ) (n : ℕ) : Type 0 where
  pub few : n ≤ length now
  pub good : All Ok (take n now)
  pub members : map of (take n now) ≡ l
