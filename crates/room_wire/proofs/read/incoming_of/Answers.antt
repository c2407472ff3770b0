use Rattle.json_values.specs.Views.{view}
use Rattle.room_wire.specs.Spelling.{body_at}
use Rattle.room_wire.proofs.FaultsToldOn.{told_under}
use Rattle.room_wire.proofs.read.incoming_of.Goals as goal

pub returns-in-Err : goal.returns-in-Err
returns-in-Err c = record { exact = told_under c.args.id c.in-Err.fault (body_at (view c.args.message.now)) c.in-Err.ensures }
