-- `extents_of` meets its contract: one axis after the other.
use Rattle.meaning.specs.Numbers.{focus, second}
use Rattle.nearest.proofs.Reach.{keyed_parts}
use Rattle.nearest.proofs.extents_of.Goals as goal

pub extend-focus-requires : goal.extend-focus-requires
extend-focus-requires c = keyed_parts c.args.keys.now c.requires focus

pub extend-second-requires : goal.extend-second-requires
extend-second-requires c = keyed_parts c.args.keys.now c.requires second
