-- What the codes of one axis count: the value does not fall away from the wish.
--   value_rises    the nearer of two codes on one way has the lower value
--   value_fits     the parts of a value fit
--   at_fits, valued        what a code counts
--   behind_above, behind_upto     the code just behind a number
--   Away, value_away       values do not fall away from the wish
--   beyond_fits, value_small     what the way to it counts, and what a code counts, are small
-- Assumes nothing.
use mathlib.Core.Path.{◌≡◌, refl, ap}
use mathlib.Core.Bool.{cond}
use Prim.Native.Nat.{ℕ, ◌+◌, ◌-◌, ◌*◌, ◌^◌, ◌≤◌, ◌<◌}
use borrow.Author.Tests.{lt-ltb, le-ltb}
use native.Mathlib.Omega.{arith}
use native.Mathlib.Nat.{mul-le-mul, mul-le-mul_left, mul-le-mul_right, mul-add, add-mul}
use Rattle.ranks.specs.Values.{apart, value, Sound, Valued, behind, way}
use Rattle.ranks.specs.declared.Scale.{Scale}

-- on bare numbers: a and b with a + b ≤ c, and a factor that is not 0
more : (k a b c : ℕ) → 0 < k → a + b ≤ c → k * a + b ≤ k * c
more k a b c h l =
    let p = mul-le-mul_left k l in
    let q : 1 * b ≤ k * b = mul-le-mul_right b h in
    omega (arith, p, q, mul-add k a b)

value_rises : (k w n c place : ℕ) → 0 < k → place ≤ 1048576 → apart w n + apart n c ≤ apart w c
    → k * apart w n * 1073741824 + n * place ≤ k * apart w c * 1073741824 + c * place
value_rises k w n c place h u l =
    let p = more k (apart w n) (apart n c) (apart w c) h l in
    let m : n ≤ c + apart n c = omega arith in
    let q = mul-le-mul_right place m in
    let s = mul-le-mul_left (apart n c) u in
    bare (k * apart w n) (k * apart w c) (apart n c) (n * place) (c * place) (apart n c * place) p (omega (arith, q, add-mul c (apart n c) place)) s
  where
    bare : (a c b x y z : ℕ) → a + b ≤ c → x ≤ y + z → z ≤ b * 1048576 → a * 1073741824 + x ≤ c * 1073741824 + y
    bare a c b x y z p q s = omega arith

pub record Parts (weight apart code place : ℕ) : Type 0 where
  pub cost : weight * apart < 16384
  pub behind : code * place < 1073741824

pub value_fits : (weight a c place : ℕ) → weight ≤ 16 → a < 1024 → c < 1024 → place ≤ 1048576 → Parts weight a c place
value_fits weight a c place p q s u =
    record {
      cost = let m : a ≤ 1023 = omega arith in omega (arith, mul-le-mul p m);
      behind = let m : c ≤ 1023 = omega arith in omega (arith, mul-le-mul m u);
    }

module _ (scale : Scale) (c : ℕ) (inside : c < 1024) where
  pub at_fits : Parts scale.weight (apart scale.wish c) c scale.place
  at_fits =
      value_fits scale.weight (apart scale.wish c) c scale.place scale.sound.2 (omega (arith, scale.sound.0)) inside scale.sound.3

  pub valued : Valued scale c (scale.weight * apart scale.wish c * 1073741824 + c * scale.place)
  unfolding value
  valued = let f = at_fits in record { is = refl; small = omega (arith, f.cost, f.behind) }

-- ---- the code behind a number, and away from the wish

pub behind_above : (w e : ℕ) → w < e → behind w e ≡ e
behind_above w e h = ap (λ t. cond t e (e - 1)) (lt-ltb w e h)

pub behind_upto : (w e : ℕ) → e ≤ w → behind w e ≡ e - 1
behind_upto w e h = ap (λ t. cond t e (e - 1)) (le-ltb w e h)

-- values that do not fall away from the wish
pub record Away (w : ℕ) (v : ℕ → ℕ) : Type 0 where
  pub up : (a b : ℕ) → w ≤ a → a ≤ b → v a ≤ v b
  pub down : (a b : ℕ) → a ≤ b → b ≤ w → v b ≤ v a

pub value_away : (scale : Scale) → Away scale.wish (value scale)
unfolding value
value_away scale =
    record {
      up = λ a b p q. value_rises scale.weight scale.wish a b scale.place scale.sound.1 scale.sound.3 (omega arith);
      down = λ a b p q. value_rises scale.weight scale.wish b a scale.place scale.sound.1 scale.sound.3 (omega arith);
    }

-- ---- what counts is small

pub beyond_fits : (scale : Scale) (wish : ℕ) → wish < 65536 → way wish scale < 1048577
beyond_fits scale wish h =
    let m : apart wish (scale.wish + 32256) ≤ 65535 = omega (arith, scale.sound.0) in omega (arith, mul-le-mul scale.sound.2 m)

-- the value of a code within the range
pub value_small : (scale : Scale) → Sound scale → (c : ℕ) → c < 1024 → value scale c < 2 ^ 44
value_small scale sound c h = let f = valued scale c h in omega (arith, f.is, f.small)
