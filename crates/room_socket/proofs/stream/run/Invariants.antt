use Rattle.std.proofs.Common.{◌≡◌, ◌≤◌, ◌-◌, List, length}
use Rattle.tungstenite.specs.Socket.{Socket}
use Rattle.room_socket.specs.Prelude.{BeforeHello, State, Known, KeepsKnown, IsRunOn, End, Timely, Converses, remaining_of, contents_of, Event, Follows}
use Rattle.room_socket.proofs.stream.run.Given as goal

-- So far, at most one event came a turn. A conversation that goes on from here is one from the start.
abbrev pub invariant-loop : goal.invariant-loop
invariant-loop g l = record {
  follows : (events : List Event) × (length events ≤ l.counter) × Follows events (BeforeHello l.fn.caller) (g.R.Rooms.known l.fn.rooms) l.core (g.R.Rooms.known l.rooms);
  keeps : KeepsKnown (g.R.Rooms.known l.fn.rooms) (g.R.Rooms.known l.rooms);
  runs : IsRunOn l.core (g.R.Rooms.known l.rooms);
  converses : (end : End) (new : Socket (Timely g.row.S.Denot)) (state : State) (known : Known) → Converses (remaining_of g.S.Read.remaining) (contents_of g.S.Write.contents) (l.fn.turns - l.counter) l.socket l.core (g.R.Rooms.known l.rooms) end new state known → Converses (remaining_of g.S.Read.remaining) (contents_of g.S.Write.contents) l.fn.turns l.fn.socket (BeforeHello l.fn.caller) (g.R.Rooms.known l.fn.rooms) end new state known;
  kept : g.R.Rooms.kept l.rooms ≡ g.R.Rooms.kept l.fn.rooms;
}
