-- `rows::take_line` meets its contract: each key turns the bits from its place on.
use mathlib.Core.List.{List}
use Prim.Native.Nat.{ℕ, ◌+◌, ◌≤◌, ◌<◌}
use lib.ListN.{length, drop, get_or}
use native.Mathlib.Omega.{arith}
use Rattle.meaning.specs.Counting.{All}
use Rattle.turn.proofs.Pieces.{run_stops}
use Rattle.rows.proofs.Flips.{all_from, Took, took_one, took_all}
use Rattle.rows.proofs.take_line.Goals as goal

here : (words : ℕ) {keys : List ℕ} {i start limit e : ℕ} {before now : List ℕ} → All (λ k. (start ≤ k) × (k < limit → k < start + words)) (drop i keys)
    → Took keys i start limit before now e → e < length keys → (start ≤ get_or keys e 0) × (get_or keys e 0 < limit → get_or keys e 0 < start + words)
here words {keys} {i} {start} {limit} {e} h t u = all_from (λ k. (start ≤ k) × (k < limit → k < start + words)) keys i e h t.running.from u

pub returns-then-limit-key : goal.returns-then-limit-key
returns-then-limit-key c =
    let taken = c.loop-e.invariant in
    took_all taken (run_stops _ _ _ _ taken.running c.loop-e-test.true c.if-limit-key.true).3

pub overflow_sub-key : goal.overflow_sub-key
overflow_sub-key c = (here _ c.requires.all c.loop-e.invariant c.loop-e-test.true).0

pub flip-requires : goal.flip-requires
flip-requires c =
    let at = here _ c.requires.all c.loop-e.invariant c.loop-e-test.true in
    omega (arith, at.0, at.1 (omega (arith, c.if-limit-key.false)), c.loop-e.invariant.long)

pub loop-e-preserved : goal.loop-e-preserved
loop-e-preserved c = took_one _ c.loop-e.invariant c.loop-e-test.true (omega (arith, c.if-limit-key.false)) c.flip.ensures
