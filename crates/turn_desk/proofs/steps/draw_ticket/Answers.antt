use Rattle.std.proofs.Common.{rules}
use Rattle.turn_desk.proofs.Drawing.{draws}
use Rattle.turn_desk.proofs.steps.draw_ticket.Goals as goal

pub fetch_add-requires : goal.fetch_add-requires
fetch_add-requires g c = (search rules, search rules, draws g.R.Turned.fixed g.R.Turned.list g.R.Turned.answers _ _ _ _ c.requires.seat.2 c.requires.idle)
