-- `lists::Corners::pair_at` meets its contract: the steps of two corner numbers, as one number.
use Prim.Native.Nat.{◌<◌}
use native.Mathlib.Omega.{arith}
use lib.ListN.{length}
use Rattle.meaning.specs.Lists.{vertices}
use Rattle.lists.proofs.Vertices.{length_vertices, number_in, steps_in}
use Rattle.lists.proofs.corners.Corners.pair_at.Goals as goal

pub steps_at-one-requires-clause-corner_number : goal.steps_at-one-requires-clause-corner_number
steps_at-one-requires-clause-corner_number c =
    number_in c.args.self.list.now c.args.i c.args.pair.a c.args.self.in_range (omega (arith, length_vertices c.args.self.list.now)) c.args.pair.offsets.0

pub steps_at-two-requires-clause-corner_number : goal.steps_at-two-requires-clause-corner_number
steps_at-two-requires-clause-corner_number c =
    number_in c.args.self.list.now c.args.i c.args.pair.b c.args.self.in_range (omega (arith, length_vertices c.args.self.list.now)) c.args.pair.offsets.1

pub overflow_mul-result : goal.overflow_mul-result
overflow_mul-result c =
    let l = c.args.self.list.now in
    let place : c.args.i < length (vertices l) = omega (arith, length_vertices l) in
    omega (arith, c.steps_at-one.ensures, steps_in l c.args.i c.args.pair.a c.args.self.in_range place c.args.pair.offsets.0)

pub overflow_add-result : goal.overflow_add-result
overflow_add-result c =
    let l = c.args.self.list.now in
    let place : c.args.i < length (vertices l) = omega (arith, length_vertices l) in
    omega (
      arith,
      c.steps_at-one.ensures,
      c.steps_at-two.ensures,
      steps_in l c.args.i c.args.pair.a c.args.self.in_range place c.args.pair.offsets.0,
      steps_in l c.args.i c.args.pair.b c.args.self.in_range place c.args.pair.offsets.1,
    )
