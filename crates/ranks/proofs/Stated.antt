-- Laws that docs/PORT.md names and that no proof cites.
--   near_last      the code of a stretch that lies nearest to a wish above it
--   behind_low     the code just behind a number is at most that number
--   brought_sound  the values of the scale for a wish that is brought to the codes of a stretch fit
--   brought_to     the scale for a wish that is brought to the codes of a stretch
--   reach_begins, reach_on      the loop over the keys of a map: the first and each further key
use mathlib.Core.Path.{◌≡◌, refl, sym, ◌∙◌, ap, ap₂}
use mathlib.Core.Bool.{Bool, true, false, cond}
use mathlib.Core.List.{List}
use Prim.Native.Nat.{ℕ, ◌+◌, ◌-◌, ◌≤◌, ◌<◌, min, max}
use native.Mathlib.Omega.{arith}
use borrow.Author.Tests.{ltb-true, ltb-false}
use lib.Dec.{ltb}
use lib.ListN.{get_or}
use Rattle.meaning.specs.Numbers.{Axis}
use Rattle.keys.specs.Parts.{part_on}
use Rattle.ranks.specs.Values.{apart, Near, behind, Brought}
use Rattle.ranks.proofs.Reach.{Reached}

-- a wish above a stretch is nearest to its last code
pub near_last : (wish low high r : ℕ) → low < high → high ≤ wish → r + 1 ≡ high → Near wish low high r
near_last wish low high r h k e = record { from = omega arith; below = omega arith; between = λ c p q. last r c (omega arith) (omega arith) }
  where
    last : (n c : ℕ) → c ≤ n → n ≤ wish → apart wish n + apart n c ≤ apart wish c
    last n c p q = omega arith

pub behind_low : (w e : ℕ) → behind w e ≤ e
behind_low w e = go (ltb w e)
  where
    go : (t : Bool) → cond t e (e - 1) ≤ e
    go true = omega arith
    go false = omega arith

-- ---- a wish brought to the codes of a stretch

-- on the way from a wish to a code of a stretch lies the code of the stretch that is nearest to the wish
brought : (low high wish r : ℕ) → Near wish (32256 + low) (32256 + high) r → (c : ℕ) → low ≤ c → c < high
    → apart wish (c + 32256) ≡ apart wish (r - 32256 + 32256) + apart (r - 32256) c
brought low high wish r near c h k =
    let e : r - 32256 + 32256 ≡ r = omega (arith, near.from) in
    both wish r (c + 32256) (near.between (c + 32256) (omega arith) (omega arith)) ∙
    sym (ap₂ ◌+◌ (ap (apart wish) e) (shifted (r - 32256) c ∙ ap (λ n. apart n (c + 32256)) e))
  where
    shifted : (a b : ℕ) → apart a b ≡ apart (a + 32256) (b + 32256)
    shifted a b = omega arith

    both : (a b d : ℕ) → apart a b + apart b d ≤ apart a d → apart a d ≡ apart a b + apart b d
    both a b d p = omega arith

pub brought_sound : (low high wish r weight place : ℕ) → high ≤ 1024 → (0 < weight) × (weight ≤ 16) × (place ≤ 1048576)
    → Near wish (32256 + low) (32256 + high) r → (r - 32256 < 1024) × (0 < weight) × (weight ≤ 16) × (place ≤ 1048576)
brought_sound low high wish r weight place h k near = (omega (arith, near.from, near.below), k.0, k.1, k.2)

-- the values of a scale's codes fit by the field `sound`
pub brought_to : (low high wish r weight place : ℕ) (h : high ≤ 1024) (k : (0 < weight) × (weight ≤ 16) × (place ≤ 1048576))
    (near : Near wish (32256 + low) (32256 + high) r)
    → Brought wish low high weight place
    (record { wish = r - 32256; weight = weight; place = place; sound = brought_sound low high wish r weight place h k near })
brought_to low high wish r weight place h k near =
    record {
      sound = record { code = (brought_sound low high wish r weight place h k near).0; some = k.0; light = k.1; inside = k.2 };
      heavy = refl;
      behind = refl;
      along = brought low high wish r near;
    }

-- ---- the loop over the keys of a map

module _ (axis : Axis) (keys : List ℕ) where
  pub reach_begins : (low : ℕ) → Reached axis keys 0 low 0
  reach_begins low = record { above = λ j p. absurd (omega arith); below = λ j p. absurd (omega arith); end = omega arith }

  pub reach_on : (i low high n a b : ℕ) → Reached axis keys i low high → n ≡ part_on axis (get_or keys i 0) → n ≤ 1024 → a ≡ min low n → b ≡ max high n
      → Reached axis keys (i + 1) a b
  reach_on i low high n a b r e k p q =
      record {
        above = λ j h. over j h (ltb j i) refl;
        below = λ j h. under j h (ltb j i) refl;
        end = omega (arith, r.end);
      }
    where
      here : (j : ℕ) → j < i + 1 → ltb j i ≡ false → n ≡ part_on axis (get_or keys j 0)
      here j h t = let s : i ≡ j = omega (arith, ltb-false j i t) in e ∙ ap (λ m. part_on axis (get_or keys m 0)) s

      over : (j : ℕ) → j < i + 1 → (t : Bool) → ltb j i ≡ t → a ≤ part_on axis (get_or keys j 0)
      over j h true t = omega (arith, r.above j (ltb-true j i t))
      over j h false t = omega (arith, here j h t)

      under : (j : ℕ) → j < i + 1 → (t : Bool) → ltb j i ≡ t → part_on axis (get_or keys j 0) ≤ b
      under j h true t = omega (arith, r.below j (ltb-true j i t))
      under j h false t = omega (arith, here j h t)
