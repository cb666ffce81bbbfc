-- `bench::example_11` meets its contract: the overlap that is checked stands at the front of the result.
use mathlib.Core.Path.{sym}
use native.Mathlib.Omega.{arith}
use lib.Seq.{length-take-le}
use Rattle.bench.proofs.example_11.Goals as goal

pub slice_bounds-check_line-end-2 : goal.slice_bounds-check_line-end-2
slice_bounds-check_line-end-2 g c = sym (length-take-le _ c.slabs_line.new.out (omega (arith, c.slabs_line.auto.out)))
