-- The wishes, gone through by chunks of three numbers.
--   Left                what is left of the numbers, from wish i on, and how many numbers a chunk has
--   left_line           the line of a chunk is that of wish i
--   left_more           a chunk less
--   written_chunk       the line of a chunk more
use mathlib.Core.Path.{◌≡◌, refl, sym, ◌∙◌, ap, subst}
use mathlib.Core.List.{List, ◌++◌}
use Prim.Native.Nat.{ℕ, ◌+◌, ◌*◌, ◌/◌, ◌≤◌, ◌<◌}
use native.Mathlib.Omega.{arith}
use borrow.Rule.Slice.PartMut.{put_mid}
use lib.IntN.{ℤ, pos}
use lib.ListN.{length, drop, get_or, length-append, length-drop}
use lib.Seq.{paste}
use Rattle.std.proofs.lemmas.Slice.{put_mid-paste}
use Rattle.std.proofs.lemmas.List.{get_or-drop, get_or_append_left, drop_at, drop-drop}
use Rattle.meaning.specs.Numbers.{cell}
use Rattle.meaning.specs.declared.Corner.{Corner}
use Rattle.answers.specs.Answers.{wish_at, AnswerLine, Written}
use Rattle.answers.proofs.Lines.{answer_long}
use Rattle.answers.proofs.Filling.{written_more}

pub record Left (ws rest : List ℤ) (size i : ℕ) : Type 0 where
  pub three : size ≡ 3
  pub within : 3 * i ≤ length ws
  pub from : rest ≡ drop (3 * i) ws

module _ {ws rest : List ℤ} {size i : ℕ} (l : Left ws rest size i) (left wish : List ℤ) (is : rest ≡ wish ++ left) (long : length wish ≡ size) where
  left_room : 3 * i + 3 ≤ length ws
  left_room = omega (arith, l.three, l.within, ap length (sym l.from ∙ is), length-drop (3 * i) ws, length-append wish left)

  -- number k of the chunk
  left_number : (k n : ℕ) → k < 3 → n ≡ 3 * i + k → get_or wish k (pos 0) ≡ get_or ws n (pos 0)
  left_number k n h e =
      sym (get_or_append_left wish left (pos 0) k (omega (arith, l.three))) ∙
      ap (λ r. get_or r k (pos 0)) (sym is ∙ l.from) ∙
      get_or-drop (3 * i) ws k (pos 0) ∙
      ap (λ m. get_or ws m (pos 0)) (sym e)

  pub left_line : (c : List Corner) (line : List ℕ) → AnswerLine c (wish_at wish 0) line → AnswerLine c (wish_at ws i) line
  left_line c line a =
      let one = left_number 0 (3 * i) (omega arith) (omega arith) in
      let two = left_number 1 (3 * i + 1) (omega arith) (omega arith) in
      let three = left_number 2 (3 * i + 2) (omega arith) (omega arith) in
      subst (λ w. AnswerLine c w line) (λ j. cell (one j) (two j) (three j)) a

  pub left_more : {less n : ℕ} → less ≡ size → n ≡ i + 1 → Left ws left less n
  left_more {less} {n} e en =
      let next : 3 * i + 3 ≡ 3 * n = omega arith in
      record {
        three = e ∙ l.three;
        within = omega (arith, left_room);
        from =
            sym (drop_at wish left 3 (long ∙ l.three)) ∙
            ap (drop 3) (sym is ∙ l.from) ∙
            drop-drop 3 (3 * i) ws ∙
            ap (λ m. drop m ws) next;
      }

  pub written_chunk : (c : List Corner) (before now line ys : List ℕ) → Written c ws i before now → AnswerLine c (wish_at wish 0) line → ys ≡ line
      → 17 * (length ws / 3) ≤ length before → {j n : ℕ} → j ≡ i → n ≡ i + 1 → (k : ℕ) → k ≡ 17 → Written c ws n before (put_mid (17 * j) k now ys)
  written_chunk c before now line ys w a ey room {j} {n} ej en k ek =
      let after = put_mid (17 * i) k now ys in
      let put : after ≡ paste now (17 * i) line (length line) =
      put_mid-paste (17 * i) k now ys line (length line) ey (omega (arith, answer_long c (wish_at wish 0) line a)) refl in
      let more : Written c ws (i + 1) before after =
      written_more c ws i before now after line w (left_line c line a) (omega (arith, left_room)) put in
      subst (λ p. Written c ws n before (put_mid (17 * p) k now ys)) (sym ej) (subst (λ m. Written c ws m before after) (sym en) more)
