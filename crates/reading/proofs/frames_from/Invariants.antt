-- `reading::frames_from` meets its contract. The loop's invariant: the frames so far are well formed and their numbers are in the list.
use Rattle.reading.proofs.Runs.{Run}
use Rattle.reading.proofs.frames_from.Given as goal

abbrev pub invariant-loop-i : goal.invariant-loop-i
invariant-loop-i l = Run l.s l.tag l.start l.list l.i
