-- `extend` meets its contract: the lowest and the highest part so far.
use Rattle.keys.specs.Parts.{axis_at}
use Rattle.ranks.proofs.Reach.{Reached}
use Rattle.ranks.proofs.extend.Given as goal

abbrev pub invariant-loop-key : goal.invariant-loop-key
invariant-loop-key l = Reached (axis_at l.axis) l.keys l.key-index l.low l.high
