-- Laws of the packing.
--   verdict_done, verdict_refused    a packed verdict: 0 for a valid list
--   verdict_room                     it leaves room for the lower half
--   part_empty, part_some            the packed part
use mathlib.Core.Path.{◌≡◌, refl, sym, ap}
use mathlib.Core.Bool.{cond}
use Prim.Native.Nat.{ℕ, ◌+◌, ◌*◌, ◌-◌, ◌^◌, ◌≤◌, ◌<◌}
use native.Mathlib.Omega.{arith}
use borrow.Author.Tests.{eq-eqb, ne_eqb}
use Rattle.std.specs.Prelude.{Ok, Err}
use Rattle.meaning.specs.Lists.{most_vertices}
use Rattle.meaning.specs.Verdicts.{Verdict, refusal_number, refusal_place}
use Rattle.meaning.specs.declared.Refusal.TheVariants.{NotTriples, TooMany, OutOfRange, NotRising, OddLine}
use Rattle.meaning.specs.Outcomes.{refused, verdict_values}
use Rattle.asks.specs.declared.Ends.{Ends}
use Rattle.packing.specs.Packed.{packed_values, packed_part}

-- ---- the verdict

-- number 0 is that of a valid list alone
pub verdict_done : (v : Verdict) (n : ℕ) → n ≡ refusal_number v → n ≡ 0 → 0 ≡ packed_values (verdict_values v)
verdict_done (Ok u) n e z = refl
verdict_done (Err NotTriples) n e z = absurd (omega arith)
verdict_done (Err TooMany) n e z = absurd (omega arith)
verdict_done (Err (OutOfRange i)) n e z = absurd (omega arith)
verdict_done (Err (NotRising i)) n e z = absurd (omega arith)
verdict_done (Err (OddLine i)) n e z = absurd (omega arith)

pub verdict_refused : (v : Verdict) (n : ℕ) → n ≡ refusal_number v → (n ≡ 0 → ⊥) → packed_values (refused 1 v) ≡ packed_values (verdict_values v)
verdict_refused (Ok u) n e z = absurd (z e)
verdict_refused (Err r) n e z = refl

-- a packed refusal leaves room for what stands in the lower half
pub verdict_room : (v : Verdict) → refusal_place v ≤ most_vertices → packed_values (verdict_values v) + 2 ^ 32 < 2 ^ 64
unfolding most_vertices
verdict_room (Ok u) h = omega arith
verdict_room (Err NotTriples) h = omega arith
verdict_room (Err TooMany) h = omega arith
verdict_room (Err (OutOfRange i)) h = omega arith
verdict_room (Err (NotRising i)) h = omega arith
verdict_room (Err (OddLine i)) h = omega arith

-- ---- the plane query

pub part_empty : (r : Ends) → r.start ≡ r.end → 0 ≡ packed_part r
part_empty r e = sym (ap (λ t. cond t 0 (r.start * 2 ^ 32 + (r.end - r.start))) (eq-eqb r.start r.end e))

pub part_some : (r : Ends) → (r.start ≡ r.end → ⊥) → r.start * 2 ^ 32 + (r.end - r.start) ≡ packed_part r
part_some r e = sym (ap (λ t. cond t 0 (r.start * 2 ^ 32 + (r.end - r.start))) (ne_eqb r.start r.end e))
