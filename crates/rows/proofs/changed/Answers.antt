-- `rows::changed` meets its contract, digit by digit: nothing changes where nothing turns.
use mathlib.Core.Path.{◌≡◌, sym, ◌∙◌, ap, ap₂}
use Prim.Native.Nat.{ℕ}
use lib.Bits.{bit_xor}
use Rattle.meaning.proofs.Parity.{◌⊕◌}
use Rattle.rows.specs.Rows.{holds_by, bit, change}
use Rattle.rows.proofs.Operations.{change_quiet}
use Rattle.rows.proofs.Bits.{bit_zero, bit_xor_lem}
use Rattle.rows.proofs.changed.Goals as goal

none : (n k : ℕ) → n ≡ 0 → bit n k ≡ bit 0 k
none n k e = ap (λ m. bit m k) e

word_change : (op x y u v r s : ℕ) → ((k : ℕ) → bit r k ≡ holds_by op (bit (bit_xor x u) k) (bit (bit_xor y v) k))
    → ((k : ℕ) → bit s k ≡ holds_by op (bit x k) (bit y k)) → (k : ℕ) → bit (bit_xor r s) k ≡ change op (bit x k) (bit y k) (bit u k) (bit v k)
word_change op x y u v r s f g k = bit_xor_lem r s k ∙ ap₂ ◌⊕◌ (f k ∙ ap₂ (holds_by op) (bit_xor_lem x u k) (bit_xor_lem y v k)) (g k)

pub returns-then-v-eq0 : goal.returns-then-v-eq0
returns-then-v-eq0 c k = let a = c.args in
    bit_zero k ∙
    sym
    (change_quiet a.op (bit a.x k) (bit a.y k) (none a.u k c.if-u-eq0.true ∙ bit_zero k)
    (none a.v k c.if-v-eq0.true ∙ bit_zero k))

pub returns : goal.returns
returns c = let a = c.args in
    word_change a.op a.x a.y a.u a.v c.word.result c.word-2.result c.word.ensures c.word-2.ensures
