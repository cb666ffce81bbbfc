-- `levels::changes` meets its contract: each turn of the loop goes on to the next line.
use Prim.Native.Nat.{◌+◌, ◌-◌}
use lib.ListN.{length}
use Rattle.levels.proofs.Readings.{Going}
use Rattle.levels.proofs.changes.Given as goal

abbrev pub invariant-loop-least : goal.invariant-loop-least
invariant-loop-least l =
    Going l.op l.span.low l.span.words l.of.base l.of.sa.now l.of.sb.now l.of.pa.now l.of.pb.now l.initial.out l.n l.in_sa l.in_sb l.in_pa l.in_pb l.ra l.rb l.ca l.cb l.turned l.out l.put

abbrev pub decreases-loop-least : goal.decreases-loop-least
decreases-loop-least l = (length l.of.sa.now + length l.of.sb.now + length l.of.pa.now + length l.of.pb.now) - (l.in_sa.read + l.in_sb.read + l.in_pa.read + l.in_pb.read)
