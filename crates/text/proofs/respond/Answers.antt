-- `respond` meets its contract: too long; the refusal of the map's text; or what follows it.
use native.Mathlib.Omega.{arith}
use Rattle.reading.proofs.Places.{map_read}
use Rattle.text.proofs.Outcomes.{map_answered}
use Rattle.text.proofs.respond.Goals as goal

-- a map that is read whole is valid
pub invariant_of-answer_wishes : goal.invariant_of-answer_wishes
invariant_of-answer_wishes c = record { passes = (map_read _ _ c.in-Ok.ensures.list_after).valid }

pub returns-in-Ok : goal.returns-in-Ok
returns-in-Ok c = map_answered _ (omega arith) c.in-Ok.ensures.list_after c.answer_wishes.ensures
