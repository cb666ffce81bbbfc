-- `reading::frames_from` meets its contract. The loop's invariant: the frames so far are well formed and their numbers are in the list.
use mathlib.Core.Path.{◌∙◌}
use native.Mathlib.Omega.{arith}
use mir.Syntax.{w16}
use mir.ValLaws.{to_z-of_z}
use Rattle.reading.proofs.Runs.{run_more, run_stop, run_all}
use Rattle.reading.proofs.frames_from.Goals as goal

pub returns-in_default-clause-value : goal.returns-in_default-clause-value
returns-in_default-clause-value c = run_stop _ _ _ c.args.n c.loop-i.invariant (omega arith) c.in_default.ensures

pub loop-i-preserved : goal.loop-i-preserved
loop-i-preserved c =
    run_more _ _ _ _ c.loop-i.invariant (omega arith) c.in-Some.ensures c.copy_from_slice.ensures.after
    (to_z-of_z w16 _ (record { sfits = c.signed.type_inv }) ∙ c.signed.ensures)
    (to_z-of_z w16 _ (record { sfits = c.signed-in-loop-i.type_inv }) ∙ c.signed-in-loop-i.ensures)
    (to_z-of_z w16 _ (record { sfits = c.signed-in-loop-i-2.type_inv }) ∙ c.signed-in-loop-i-2.ensures)

pub returns-clause-value : goal.returns-clause-value
returns-clause-value c = (run_all _ _ _ c.args.n c.loop-i.invariant (omega arith) (omega arith)).0
