use Rattle.turn_desk.proofs.Turning.{gets}
use Rattle.turn_desk.proofs.steps.get_turn.Goals as goal

pub returns-clause-turn : goal.returns-clause-turn
returns-clause-turn g c = gets g.R.Turned.fixed g.R.Turned.list g.R.Turned.answers _ _ _ _ _ c.requires.idle c.draw_ticket-ticket.ensures.ticket c.wait_for_turn.ensures.turn
