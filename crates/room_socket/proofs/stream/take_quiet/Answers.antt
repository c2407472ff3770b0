use Rattle.room_socket.proofs.Following.{waited}
use Rattle.room_socket.proofs.Talking.{gave_quiet}
use Rattle.room_socket.proofs.stream.take_quiet.Goals as goal

pub returns-clause-follows : goal.returns-clause-follows
returns-clause-follows g c =
    let said = c.on_quiet.ensures in
    waited c.args.core.now c.on_quiet.new.self (g.R.Rooms.known c.args.rooms.now) (g.R.Rooms.known c.on_quiet.new.rooms) c.on_quiet.result said.ok said.err said.makes

pub returns-clause-takes : goal.returns-clause-takes
returns-clause-takes g c =
    let said = c.on_quiet.ensures in
    gave_quiet c.args.core.now c.on_quiet.new.self (g.R.Rooms.known c.args.rooms.now) (g.R.Rooms.known c.on_quiet.new.rooms) c.on_quiet.result said.ok said.err said.makes
