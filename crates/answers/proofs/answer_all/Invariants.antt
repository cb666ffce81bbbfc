-- `answers::answer_all` meets its contract. The loop's invariant: the lines of the wishes so far stand at the front.
use Rattle.std.specs.Iterator.Adapters.{enumerate_source, enumerate_count}
use Rattle.std.specs.Slice.Iter.{chunks_exact_rest, chunks_exact_size}
use Rattle.meaning.specs.Lists.{vertices}
use Rattle.answers.specs.Answers.{Written}
use Rattle.answers.proofs.Chunks.{Left}
use Rattle.answers.proofs.answer_all.Given as goal

abbrev pub invariant-loop-i : goal.invariant-loop-i
invariant-loop-i l =
    let it = l.i-iterator in
    record {
      left : Left l.wishes (chunks_exact_rest (enumerate_source it)) (chunks_exact_size (enumerate_source it)) (enumerate_count it);
      written : Written (vertices l.map.list.now) l.wishes (enumerate_count it) l.initial.out l.out;
    }
