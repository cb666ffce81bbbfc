-- The one crossing between signed numbers of 16 bits and unsigned ones: a shift by 32768, which keeps the order.
--   lifted    how far a signed number lies above -32768
--   lowered   the signed number that lies so far above -32768
use Rattle.std.specs.Prelude.{ℕ, ◌+◌, ◌-◌, ℤ, pos, negsuc}
use Rattle.std.proofs.Math.IntN.{sub_ℕ}

abbrev pub lifted : ℤ → ℕ
lifted (pos n) = n + 32768
lifted (negsuc n) = 32767 - n

abbrev pub lowered : ℕ → ℤ
lowered n = sub_ℕ n 32768
