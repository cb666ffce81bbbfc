-- `keys::write_pairs` meets its contract: the keys are written one by one.
use mathlib.Core.Path.{refl, sym, ap}
use mathlib.Core.List.{◌++◌, map}
use Rattle.meaning.specs.Operations.{pair_numbers}
use Rattle.keys.specs.Parts.{pair_of_key}
use Rattle.keys.proofs.write_pairs.Goals as goal

pub returns : goal.returns
returns c =
    c.write_each.ensures (λ l. pair_numbers (map pair_of_key l))
    (record { nothing = refl; member = λ k p q e l. ap (◌++ pair_numbers (map pair_of_key l)) (sym e) })
