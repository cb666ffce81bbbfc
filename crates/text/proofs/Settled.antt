-- The output is settled: any two outputs that the promise allows are equal.
--   line_settled, answers_settled, writes_settled    lines, answers, whole outputs
--   put_settled, responds_settled                    the number of bytes and the room at exit
--   put_within                                       what is written lies within the room
--   most_bytes_lem                                       the limit of the input is 19,214
use mathlib.Core.Path.{◌≡◌, refl, sym, ◌∙◌, ap, ap₂}
use mathlib.Core.List.{List, [], ◌∷◌, ◌++◌}
use Prim.Native.Nat.{ℕ, zero, suc, ◌/◌, ◌≤◌}
use native.Mathlib.Omega.{arith}
use lib.IntN.{ℤ}
use lib.ListN.{length, drop, length-append}
use Rattle.meaning.specs.declared.Cell.{Cell}
use Rattle.meaning.specs.declared.Corner.{Corner}
use Rattle.meaning.specs.Lists.{vertices, permitted, most_vertices}
use Rattle.meaning.specs.Outcomes.{front}
use Rattle.meaning.proofs.Closest.{nearest_unique}
use Rattle.reading.specs.Reading.{most_wishes}
use Rattle.answers.specs.Answers.{cell_line, wish_at, AnswerLine, Answers}
use Rattle.text.specs.Program.{most_bytes, Response, refusal, answers, response, Writes, Put, Responds}

pub most_bytes_lem : most_bytes ≡ 19214
unfolding most_bytes most_vertices most_wishes
most_bytes_lem = refl

pub line_settled : (l : List Corner) (w : Cell) {a b : List ℕ} → AnswerLine l w a → AnswerLine l w b → a ≡ b
line_settled [] w p q = p ∙ sym q
line_settled (v ∷ l) w p q = p.is ∙ ap cell_line (nearest_unique (permitted (v ∷ l)) w p.at q.at p.nearest q.nearest) ∙ sym q.is

pub answers_settled : (l : List Corner) (ws : List ℤ) (n : ℕ) {a b : List ℕ} → Answers l ws n a → Answers l ws n b → a ≡ b
answers_settled l ws zero p q = p ∙ sym q
answers_settled l ws (suc n) p q =
    p.is ∙ ap₂ ◌++◌ (answers_settled l ws n p.before q.before) (line_settled l (wish_at ws n) p.last q.last) ∙ sym q.is

pub writes_settled : (o : Response) {a b : List ℕ} → Writes o a → Writes o b → a ≡ b
writes_settled (refusal number place) p q = p ∙ sym q
writes_settled (answers ns ws) p q = answers_settled (vertices ns) ws (length ws / 3) p q

pub put_settled : (o : Response) (before : List ℕ) {m n : ℕ} {a b : List ℕ} → Put o before m a → Put o before n b → (m ≡ n) × (a ≡ b)
put_settled o before {m} {n} {a} {b} p q =
    let same = writes_settled o p.writes q.writes in
    (p.count ∙ ap length same ∙ sym q.count, p.contents ∙ ap (λ l. front l before) same ∙ sym q.contents)

-- what is written lies within the room
pub put_within : (o : Response) (before : List ℕ) {n : ℕ} {after : List ℕ} → Put o before n after → n ≤ length after
put_within o before {n} p =
    omega (arith, p.count, ap length p.contents, length-append p.written (drop (length p.written) before))

pub responds_settled : (input before : List ℕ) {m n : ℕ} {a b : List ℕ} → Responds input before m a → Responds input before n b → (m ≡ n) × (a ≡ b)
responds_settled input before p q = put_settled (response input) before p q
