use Rattle.room_socket.proofs.Following.{took_text}
use Rattle.room_socket.proofs.Talking.{gave_text}
use Rattle.room_socket.proofs.stream.take_text.Goals as goal

pub returns-clause-follows : goal.returns-clause-follows
returns-clause-follows g c =
    let said = c.on_text.ensures in
    took_text c.args.core.now c.on_text.new.self (g.R.Rooms.known c.args.rooms.now) (g.R.Rooms.known c.on_text.new.rooms) c.on_text.result c.args.text.now said.ok said.err said.makes

pub returns-clause-takes : goal.returns-clause-takes
returns-clause-takes g c =
    let said = c.on_text.ensures in
    gave_text c.args.core.now c.on_text.new.self (g.R.Rooms.known c.args.rooms.now) (g.R.Rooms.known c.on_text.new.rooms) c.on_text.result c.args.text.now said.ok said.err said.makes
