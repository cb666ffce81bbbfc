-- `put_nearest` meets its contract: the three codes of the cell of the least rank.
use mathlib.Core.Path.{sym, subst}
use mathlib.Core.List.{map}
use Prim.Native.Nat.{◌+◌}
use Rattle.std.proofs.Common.{rules}
use lib.ListN.{set}
use Rattle.meaning.specs.Lists.{permitted}
use Rattle.meaning.specs.Nearest.{Nearest}
use Rattle.codes.specs.Keys.{of_key}
use Rattle.codes.proofs.Laws.{read_back}
use Rattle.nearest.proofs.Ranks.{ranked_nearest}
use Rattle.wishes.proofs.put_nearest.Goals as goal

pub returns : goal.returns
returns c =
    let l = map of_key c.args.keys.now in
    let at = c.args.at in
    let cell = c.cell_of-cell.result in
    let x = read_back cell.focus (search rules) in
    let y = read_back cell.first (search rules) in
    let z = read_back cell.second (search rules) in
    record {
      found = cell;
      nearest = subst (Nearest (permitted l) c.args.wish) (sym c.cell_of-cell.ensures)
          (ranked_nearest l c.requires.located.keyed.valid _ _ c.rank_of_wish-rank.ensures.0).0;
      is = λ i. set (set (set c.args.cells.now at (x i)) (at + 1) (y i)) (at + 2) (z i);
    }
