use Rattle.tungstenite.specs.Socket.{Socket}
use Rattle.room_socket.specs.Prelude.{remaining_of, contents_of, AsksToClose, ReadsOn, Timely}
use Rattle.room_socket.proofs.closing.close.Given as goal

-- after the close went out, the socket was read once a round
abbrev pub invariant-loop : goal.invariant-loop
invariant-loop g l = (asked : Socket (Timely g.row.S.Denot)) × AsksToClose (contents_of g.S.Write.contents) l.fn.code l.fn.socket asked × ReadsOn (remaining_of g.S.Read.remaining) l.counter asked l.socket
