-- `boxes::make_box` meets its contract: the ends, then the room, then the eight corners at the front.
use mathlib.Core.Path.{◌∙◌, ap, sym}
use mathlib.Core.List.{◌++◌}
use lib.ListN.{length, drop}
use lib.Seq.{length-take-le}
use Rattle.boxes.proofs.Boxes.{made_bad, made_narrow, made_done}
use Rattle.boxes.proofs.make_box.Goals as goal

pub returns-then-not-good_ends : goal.returns-then-not-good_ends
returns-then-not-good_ends c =
    made_bad c.args.ends c.args.out.now (sym c.good_ends.ensures ∙ c.if-not-good_ends.true)

pub returns-then-out-lt-BOX_NUMBERS : goal.returns-then-out-lt-BOX_NUMBERS
returns-then-out-lt-BOX_NUMBERS c =
    made_narrow c.args.ends c.args.out.now (sym c.good_ends.ensures ∙ c.if-not-good_ends.false) c.if-out-lt-BOX_NUMBERS.true

pub copy_from_slice-requires : goal.copy_from_slice-requires
copy_from_slice-requires c = length-take-le 24 c.args.out.now c.if-out-lt-BOX_NUMBERS.false ∙ ap length (sym c.eight_corners.ensures)

pub returns : goal.returns
returns c =
    made_done c.args.ends c.args.out.now (sym c.good_ends.ensures ∙ c.if-not-good_ends.false) c.if-out-lt-BOX_NUMBERS.false
    (ap (◌++ drop 24 c.args.out.now) (c.copy_from_slice.ensures.after ∙ c.eight_corners.ensures))
