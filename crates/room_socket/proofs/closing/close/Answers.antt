use Rattle.std.proofs.Common.{Some, refl, ap, arith}
use Rattle.tungstenite.specs.Content.{close}
use Rattle.room_socket.specs.Timely.{remaining_of, contents_of}
use Rattle.room_socket.proofs.Written.{asks, read_again}
use Rattle.room_socket.proofs.closing.close.Goals as goal

pub returns-then-is_err : goal.returns-then-is_err
returns-then-is_err g c =
    let said = c.send.ensures in
    let asked = asks (contents_of g.S.Write.contents) c.send.result c.args.code (close (Some (c.args.code, c.from_static-reason.result))) c.args.socket.now c.send.new.self (ap (λ reason. close (Some (c.args.code, reason))) c.from_static-reason.ensures) said.wrote said.failed said.full said.stream_failed said.memory in
    (c.send.new.self, asked, (0, omega arith, refl {a = c.send.new.self}))

pub loop-init : goal.loop-init
loop-init g c =
    let said = c.send.ensures in
    let asked = asks (contents_of g.S.Write.contents) c.send.result c.args.code (close (Some (c.args.code, c.from_static-reason.result))) c.args.socket.now c.send.new.self (ap (λ reason. close (Some (c.args.code, reason))) c.from_static-reason.ensures) said.wrote said.failed said.full said.stream_failed said.memory in
    (c.send.new.self, asked, refl)

pub loop-preserved : goal.loop-preserved
loop-preserved g c =
    let so_far = c.loop.invariant in
    (so_far.0, so_far.1, read_again (remaining_of g.S.Read.remaining) c.loop.counter so_far.0 c.loop.socket c.read.new.self c.read.result so_far.2 c.read.ensures)
