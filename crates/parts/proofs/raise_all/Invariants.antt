-- `parts::raise_all` meets its contract: each turn writes the next key raised.
use Rattle.keys.specs.Parts.{axis_at}
use mathlib.Core.List.{map}
use Rattle.parts.specs.Axes.{raised_key}
use Rattle.rising.proofs.Written.{Filling}
use Rattle.parts.proofs.raise_all.Given as goal

abbrev pub invariant-loop-i : goal.invariant-loop-i
invariant-loop-i l = Filling (map (raised_key (axis_at l.axis) l.at)) l.keys l.initial.out l.out l.i l.i
