-- `chains::Linkage::first_ending` meets its contract: the flags after a turn tell which keys of the chain occur an odd number of times.
use mathlib.Core.Path.{◌≡◌, sym, ◌∙◌, ap}
use native.Mathlib.Omega.{arith}
use lib.ListN.{length, get_or}
use Rattle.chains.specs.Chains.{latest, ends, ups}
use Rattle.chains.proofs.Chains.{turned_back, ending_first, ending_none, ending_past}
use Rattle.chains.proofs.Linkage.first_ending.Goals as goal
use Rattle.chains.proofs.Linkage.first_ending.Goals.{After-high_at, After-turn-up}

-- what was read is where the chain of the place ends
read : (c : After-high_at) →
    get_or c.args.self.now.heads.now c.high_at.result 0 ≡ ends c.args.self.now.keys.now c.args.place
read c =
    let keys = c.args.self.now.keys.now in
    c.args.self.now.net.headed _ c.high_at.ensures.1 ∙ ap (λ h. latest keys h (length keys)) c.high_at.ensures.0

long : (c : After-turn-up) → length c.turn-up.new.flags ≡ 1025
long c = omega (arith, c.turn-up.auto.flags, c.requires.flags_len.0)

pub returns-then-end-place : goal.returns-then-end-place
returns-then-end-place c =
    let stands = read (goal.at.returns-then-end-place c).After-high_at in
    (ending_past c.args.self.now.keys.now c.args.place (λ e. c.if-end-place.true (stands ∙ e)), c.requires.flags_len.1)

pub returns-then-up-eq0 : goal.returns-then-up-eq0
returns-then-up-eq0 c =
    let none : ups c.turn-up.new.flags ≡ 0 = sym c.turn-up.ensures.value ∙ c.if-up-eq0.true in
    (ending_none c.requires.flags_len.1 c.turn-up.ensures.turned c.args.self.now.parted c.requires.place_in_bounds none, none)

pub returns : goal.returns
returns c =
    let down = c.requires.flags_len.1 in
    let turned = c.turn-up.ensures.turned in
    let last_long : length c.turn.new.flags ≡ 1025 = omega (arith, c.turn.auto.flags, long (goal.at.returns c).After-turn-up) in (
      ending_first down turned c.args.self.now.parted c.requires.place_in_bounds c.first_up-found.ensures,
      turned_back down turned c.turn.ensures.turned last_long,
    )
