-- `joins::join_by_merge` meets its contract: the merge of two lists' keys is the keys of their exclusive or.
use lib.ListN.{take}
use Rattle.turn.proofs.Lists.{any}
use Rattle.sweep.proofs.Whole.{Read, map_read, read_room, map_valid}
use Rattle.joins.proofs.Answers.{merge_ok, merge_done, merge_short}
use Rattle.joins.proofs.join_by_merge.Goals as goal
use Rattle.joins.proofs.join_by_merge.Goals.{After-read-na, After-read-nb}

-- the keys of the two lists
keys_a : (x : After-read-na) → Read x.args.a.list.now x.read-na.result x.read-na.new.out
keys_a x = map_read x.args.a x.read-na.result _ x.read-na.new.out x.read-na.ensures

keys_b : (y : After-read-nb) → Read y.args.b.list.now y.read-nb.result y.read-nb.new.out
keys_b y = map_read y.args.b y.read-nb.result _ y.read-nb.new.out y.read-nb.ensures

pub read-na-requires-clause-all : goal.read-na-requires-clause-all
read-na-requires-clause-all c = (map_valid c.args.a).corners

pub read-nb-requires-clause-all : goal.read-nb-requires-clause-all
read-nb-requires-clause-all c = (map_valid c.args.b).corners

pub read-na-requires-clause-list_in_bounds : goal.read-na-requires-clause-list_in_bounds
read-na-requires-clause-list_in_bounds c = read_room _ (map_valid c.args.a)

pub read-nb-requires-clause-list_in_bounds : goal.read-nb-requires-clause-list_in_bounds
read-nb-requires-clause-list_in_bounds c = read_room _ (map_valid c.args.b)

pub merge-n-requires-clause-all : goal.merge-n-requires-clause-all
merge-n-requires-clause-all c = any (take c.read-nb.result c.read-nb.new.out)

pub returns-then-most-n : goal.returns-then-most-n
returns-then-most-n c =
    let at = goal.at.returns-then-most-n c in
    merge_short (keys_a at.After-read-na) (keys_b at.After-read-nb) c.merge-n.result _ c.merge-n.new.out c.merge-n.ensures c.if-most-n.true

pub write-requires-clause-all : goal.write-requires-clause-all
write-requires-clause-all c =
    let at = goal.at.write-requires-clause-all c in
    merge_ok (keys_a at.After-read-na) (keys_b at.After-read-nb) c.merge-n.result _ c.merge-n.new.out c.merge-n.ensures

pub returns : goal.returns
returns c =
    let at = goal.at.returns c in
    merge_done (keys_a at.After-read-na) (keys_b at.After-read-nb) c.merge-n.result _ c.merge-n.new.out c.merge-n.ensures c.if-most-n.false
    c.write.ensures
