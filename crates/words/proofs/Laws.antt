-- Two's complement: the two ways undo each other.
--   word_fits, signed_word   a word has 16 bits, and gives its number back
-- Assumes nothing.
use mathlib.Core.Path.{◌≡◌, ◌∙◌, ap}
use Prim.Native.Nat.{suc, ◌-◌, ◌<◌}
use native.Mathlib.Omega.{arith}
use borrow.Author.Tests.{lt-ltb, le-ltb}
use lib.IntN.{ℤ, pos, negsuc}
use mir.Syntax.{w16}
use mir.Val.{SFits}
use Rattle.codes.proofs.Shift.{down_below}
use Rattle.words.specs.Words.{signed, word}

pub word_fits : (z : ℤ) → SFits w16 z → word z < 65536
word_fits (pos n) f = omega (arith, f.sfits)
word_fits (negsuc n) f = omega arith

pub signed_word : (z : ℤ) → SFits w16 z → signed (word z) ≡ z
signed_word (pos n) f = rw (lt-ltb n 32768 (omega (arith, f.sfits)))
signed_word (negsuc n) f =
    let back : 65536 - suc (65535 - n) ≡ n = omega (arith, f.sfits) in
    rw (le-ltb (65535 - n) 32768 (omega (arith, f.sfits))) (down_below (65535 - n) 65536 (omega arith) ∙ ap negsuc back)
