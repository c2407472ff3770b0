use Rattle.std.proofs.Common.{rules}
use Rattle.turn_desk.proofs.Looking.{looks}
use Rattle.turn_desk.proofs.steps.load_length.Goals as goal

pub load-requires : goal.load-requires
load-requires g c = (search rules, search rules, looks g.R.Turned.fixed g.R.Turned.list g.R.Turned.answers _ _ _ _ c.requires.seat.2 c.requires.idle)
