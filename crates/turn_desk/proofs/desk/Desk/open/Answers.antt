use Rattle.std.proofs.Common.{rules}
use Rattle.turn_desk.proofs.Beginning.{starts_with}
use Rattle.turn_desk.proofs.desk.Desk.open.Goals as goal

pub new-requires : goal.new-requires
new-requires g c = starts_with g.R.Turned.fixed g.R.Turned.list g.R.Turned.answers _ _ c.args.room _ (search rules) (search rules) c.requires
