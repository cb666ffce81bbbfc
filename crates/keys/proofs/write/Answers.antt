-- `keys::write` meets its contract: the keys are written one by one.
use mathlib.Core.Path.{refl, sym, ap}
use mathlib.Core.List.{◌++◌, map}
use Rattle.meaning.specs.Lists.{numbers}
use Rattle.codes.specs.Keys.{of_key}
use Rattle.keys.proofs.write.Goals as goal

pub returns : goal.returns
returns c =
    c.write_each.ensures (λ l. numbers (map of_key l))
    (record { nothing = refl; member = λ k p q e l. ap (◌++ numbers (map of_key l)) (sym e) })
