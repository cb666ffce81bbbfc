-- `lists::Corners::first_odd_pair` meets its contract: the working list is the list of pair keys, for whatever axis has these offsets.
use mathlib.Core.Path.{◌≡◌, sym, ap, ◌∙◌}
use mathlib.Core.List.{List}
use Prim.Native.Nat.{ℕ, ◌/◌, ◌≤◌}
use native.Mathlib.Omega.{arith}
use lib.IntN.{ℤ}
use lib.ListN.{length, take}
use lib.Seq.{length-take-le}
use Rattle.meaning.specs.Lists.{vertices}
use Rattle.chains.specs.Odd.{first_odd}
use Rattle.lists.proofs.Lines.{filled_parted, keys_filled, first_odd_line}
use Rattle.lists.proofs.Vertices.{length_vertices}
use Rattle.lists.proofs.corners.Corners.first_odd_pair.Goals as goal
use Rattle.lists.proofs.corners.Corners.first_odd_pair.Goals.{After-fill}

-- a place for each vertex
part : (ns : List ℤ) (keys : List ℕ) → length (vertices ns) ≤ length keys → length (take (length ns / 3) keys) ≡ length ns / 3
part ns keys h = length-take-le (length ns / 3) keys (omega (arith, length_vertices ns))

pub slice_bounds-keys-end : goal.slice_bounds-keys-end
slice_bounds-keys-end c = omega (arith, length_vertices c.args.self.list.now, c.requires)

pub slice_bounds-keys-end-2 : goal.slice_bounds-keys-end-2
slice_bounds-keys-end-2 c = sym (part c.args.self.list.now c.args.keys.now c.requires)

pub fill-requires : goal.fill-requires
fill-requires c = part c.args.self.list.now c.args.keys.now c.requires ∙ sym (length_vertices c.args.self.list.now)

long : (c : After-fill) → length c.fill.new.keys ≡ length (vertices c.args.self.list.now)
long c = c.fill.auto.keys ∙ part c.args.self.list.now c.args.keys.now c.requires ∙ sym (length_vertices c.args.self.list.now)

pub first_odd-requires : goal.first_odd-requires
first_odd-requires c =
    let l = c.args.self.list.now in
    let keys = c.fill.new.keys in
    let h = long (goal.at.first_odd-requires c).After-fill in (
      filled_parted l c.args.pair.a c.args.pair.b keys c.args.self.in_range c.args.pair.offsets h c.fill.ensures,
      omega (arith, h, c.args.self.few),
    )

pub returns : goal.returns
returns c axis offsets =
    let l = c.args.self.list.now in
    c.first_odd.ensures ∙
    ap first_odd (keys_filled axis l c.args.pair.a c.args.pair.b offsets c.fill.new.keys (long (goal.at.returns c).After-fill) c.fill.ensures) ∙
    first_odd_line axis l c.args.self.in_range
