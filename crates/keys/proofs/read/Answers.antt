-- `keys::read` meets its contract: each turn writes the key of the next vertex.
use native.Mathlib.Omega.{arith}
use Rattle.keys.proofs.Filling.{reads as reads_one, reading_ends}
use Rattle.keys.proofs.read.Goals as goal

-- one turn: what is written is the key of the vertex that comes next
pub loop-i-preserved : goal.loop-i-preserved
loop-i-preserved c = rw c.key_at.ensures (reads_one _ _ _ _ c.loop-i.invariant (omega arith))

pub returns : goal.returns
returns c = reading_ends _ _ _ _ c.loop-i.invariant (omega arith) (omega arith)
