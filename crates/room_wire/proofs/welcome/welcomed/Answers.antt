use Rattle.json_values.specs.Views.{view}
use Rattle.room_wire.proofs.RowsOfKinds.{kinds_told}
use Rattle.room_wire.proofs.welcome.welcomed.Goals as goal

pub returns-in-Ok-clause-kinds : goal.returns-in-Ok-clause-kinds
returns-in-Ok-clause-kinds c = kinds_told (view c.args.reply.now) c.in-Ok.rows c.in-Ok.seq c.in-Ok.ensures.exact
