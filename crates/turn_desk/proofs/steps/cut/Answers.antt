use Rattle.std.proofs.Common.{rules}
use Rattle.turn_desk.proofs.Splitting.{splits, kept_rests, split_off_rests}
use Rattle.turn_desk.proofs.steps.cut.Goals as goal

pub split_seat-requires : goal.split_seat-requires
split_seat-requires g c = (search rules, search rules, splits g.R.Turned.fixed g.R.Turned.list g.R.Turned.answers _ _ _ c.requires.seat.2 c.requires.idle.stage c.requires.parts)

pub returns-clause-place : goal.returns-clause-place
returns-clause-place g c = let now = c.split_seat.ensures in (search rules, kept_rests _ _ c.requires.idle now.2)

pub returns-clause-seats : goal.returns-clause-seats
returns-clause-seats g c = let now = c.split_seat.ensures in (search rules, search rules, split_off_rests _ _ c.requires.idle now.4)
