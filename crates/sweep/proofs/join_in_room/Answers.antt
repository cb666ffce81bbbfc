-- `sweep::join_in_room` meets its contract: what the sweep leaves is the one list, or shows that it is too long.
use Prim.Native.Nat.{ℕ}
use native.Mathlib.Omega.{arith}
use Rattle.std.proofs.lemmas.List.{length-replicate}
use Rattle.sweep.proofs.Whole.{map_valid, map_read, operand, ok, done, short}
use Rattle.sweep.proofs.join_in_room.Goals as goal

pub read-na-requires-clause-all : goal.read-na-requires-clause-all
read-na-requires-clause-all g c = (map_valid c.args.a).corners

pub read-nb-requires-clause-all : goal.read-nb-requires-clause-all
read-nb-requires-clause-all g c = (map_valid c.args.b).corners

pub join_planes-n-requires-clause-operand : goal.join_planes-n-requires-clause-operand
join_planes-n-requires-clause-operand g c =
    (operand (map_read c.args.a _ _ _ c.read-na.ensures), operand (map_read c.args.b _ _ _ c.read-nb.ensures))

pub returns-then-most-n : goal.returns-then-most-n
returns-then-most-n g c =
    short c.args.op c.args.most (map_read c.args.a _ _ _ c.read-na.ensures) (map_read c.args.b _ _ _ c.read-nb.ensures)
    _ c.join_planes-n.new.out (omega (arith, length-replicate {A = ℕ})) c.join_planes-n.ensures c.if-most-n.true

pub write-requires-clause-all : goal.write-requires-clause-all
write-requires-clause-all g c =
    ok c.args.op c.args.most (map_read c.args.a _ _ _ c.read-na.ensures) (map_read c.args.b _ _ _ c.read-nb.ensures)
    _ c.join_planes-n.new.out (omega (arith, length-replicate {A = ℕ})) c.join_planes-n.ensures c.if-most-n.false

pub returns : goal.returns
returns g c =
    done c.args.op c.args.most (map_read c.args.a _ _ _ c.read-na.ensures) (map_read c.args.b _ _ _ c.read-nb.ensures)
    _ c.join_planes-n.new.out (omega (arith, length-replicate {A = ℕ})) c.join_planes-n.ensures c.if-most-n.false c.write.ensures
