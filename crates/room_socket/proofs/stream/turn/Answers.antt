use Rattle.std.proofs.Common.{subst}
use Rattle.room_socket.specs.Prelude.{TakesText, Hears, remaining_of}
use Rattle.room_socket.proofs.Talking.{gave_binary}
use Rattle.room_socket.proofs.Following.{at_most_one, ended}
use Rattle.room_socket.specs.declared.hearing.Heard.TheVariants as heard
use Rattle.room_socket.proofs.stream.turn.Goals as goal

pub returns-in-Text-clause-follows : goal.returns-in-Text-clause-follows
returns-in-Text-clause-follows g c =
    at_most_one c.args.core.now c.take_text-sent.new.core (g.R.Rooms.known c.args.rooms.now) (g.R.Rooms.known c.take_text-sent.new.rooms) c.take_text-sent.ensures.follows

pub returns-in-Quiet-clause-follows : goal.returns-in-Quiet-clause-follows
returns-in-Quiet-clause-follows g c =
    at_most_one c.args.core.now c.take_quiet-sent.new.core (g.R.Rooms.known c.args.rooms.now) (g.R.Rooms.known c.take_quiet-sent.new.rooms) c.take_quiet-sent.ensures.follows

pub returns-in-Binary-clause-follows : goal.returns-in-Binary-clause-follows
returns-in-Binary-clause-follows g c = ended c.args.core.now c.on_binary-sent.new.self (g.R.Rooms.known c.args.rooms.now) c.on_binary-sent.ensures.closed

pub returns-in-Close-clause-follows : goal.returns-in-Close-clause-follows
returns-in-Close-clause-follows g c = ended c.args.core.now c.on_close.new.self (g.R.Rooms.known c.args.rooms.now) c.on_close.ensures.closed

pub returns-in-Fault-clause-follows : goal.returns-in-Fault-clause-follows
returns-in-Fault-clause-follows g c = ended c.args.core.now c.on_close-in-Fault.new.self (g.R.Rooms.known c.args.rooms.now) c.on_close-in-Fault.ensures.closed

pub returns-in-Text-clause-takes : goal.returns-in-Text-clause-takes
returns-in-Text-clause-takes g c =
    let known = g.R.Rooms.known in
    let hears = subst (λ event. Hears (remaining_of g.S.Read.remaining) c.args.socket.now event c.hear.new.socket) c.in-Text.is c.hear.ensures in
    let takes = subst (λ words. TakesText words c.take_text-sent.result c.args.core.now (known c.args.rooms.now) c.take_text-sent.new.core (known c.take_text-sent.new.rooms)) c.as_str.ensures c.take_text-sent.ensures.takes in
    (heard.Text c.in-Text.text, c.hear.new.socket, hears, (c.take_text-sent.result, takes, c.send-end.ensures))

pub returns-in-Quiet-clause-takes : goal.returns-in-Quiet-clause-takes
returns-in-Quiet-clause-takes g c =
    let hears = subst (λ event. Hears (remaining_of g.S.Read.remaining) c.args.socket.now event c.hear.new.socket) c.in-Quiet.is c.hear.ensures in
    (heard.Quiet, c.hear.new.socket, hears, (c.take_quiet-sent.result, c.take_quiet-sent.ensures.takes, c.send.ensures))

pub returns-in-Binary-clause-takes : goal.returns-in-Binary-clause-takes
returns-in-Binary-clause-takes g c =
    let hears = subst (λ event. Hears (remaining_of g.S.Read.remaining) c.args.socket.now event c.hear.new.socket) c.in-Binary.is c.hear.ensures in
    let said = c.on_binary-sent.ensures in
    let takes = gave_binary c.args.core.now c.on_binary-sent.new.self (g.R.Rooms.known c.args.rooms.now) c.on_binary-sent.result said.ok said.err said.closed in
    (heard.Binary, c.hear.new.socket, hears, (c.on_binary-sent.result, takes, c.send-in-Binary.ensures))
