-- `answers::answer_all` meets its contract. The loop's invariant: the lines of the wishes so far stand at the front.
use Prim.Native.Nat.{◌+◌, ◌-◌, ◌*◌}
use native.Mathlib.Omega.{arith}
use Rattle.answers.proofs.Chunks.{left_more, written_chunk}
use Rattle.answers.proofs.answer_all.Goals as goal

pub loop-i-preserved : goal.loop-i-preserved
loop-i-preserved c =
    let (chunk, number, count, small) = c.in-Some.ensures.steps in
    let (cut, long) = chunk.1 in
    let inv = c.loop-i.invariant in
    record {
      left = left_more inv.left _ _ cut long chunk.0 count;
      written =
          written_chunk inv.left _ _ cut long _ _ _ c.answer.result _ inv.written c.answer.ensures c.copy_from_slice.ensures.after c.requires
          number count (17 * c.in-Some.i + 17 - 17 * c.in-Some.i) (omega arith);
    }
