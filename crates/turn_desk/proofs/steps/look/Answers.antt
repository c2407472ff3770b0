use Rattle.std.proofs.Common.{rules}
use Rattle.turn_desk.proofs.Looking.{looked}
use Rattle.turn_desk.proofs.steps.look.Goals as goal

pub returns-clause-place : goal.returns-clause-place
returns-clause-place g c = let now = c.load_length.ensures.look _ c.requires.seat.2 in search rules

pub returns-clause-seat : goal.returns-clause-seat
returns-clause-seat g c = let now = c.load_length.ensures.look _ c.requires.seat.2 in search rules

pub returns-clause-look : goal.returns-clause-look
returns-clause-look g c = looked g.R.Turned.fixed g.R.Turned.list g.R.Turned.answers _ c.args.place.now c.load_length.new.place _ (c.load_length.ensures.look _ c.requires.seat.2)
