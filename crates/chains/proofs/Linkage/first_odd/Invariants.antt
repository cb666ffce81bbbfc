-- `chains::Linkage::first_odd` meets its contract. The loop's invariant: the chains that end before the present place have been looked at.
use mathlib.Core.Path.{◌≡◌}
use Rattle.chains.specs.Chains.{ups}
use Rattle.chains.proofs.Chains.{Covered}
use Rattle.chains.proofs.Linkage.first_odd.Given as goal

abbrev pub invariant-loop-place : goal.invariant-loop-place
invariant-loop-place l = Covered l.self.keys.now l.first l.place × (ups l.flags ≡ 0)
