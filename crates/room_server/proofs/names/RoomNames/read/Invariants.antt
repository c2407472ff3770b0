use Rattle.std.proofs.Common.{◌≡◌, map, take}
use Rattle.room_server.specs.Openings.{AreFine}
use Rattle.room_server.proofs.names.RoomNames.read.Given as goal

-- the names so far were read
abbrev pub invariant-loop-position : goal.invariant-loop-position
invariant-loop-position l = record {
  fine : AreFine (map (λ text. text.now) l.texts) l.position;
  names : l.names.keys ≡ take l.position (map (λ text. text.now) l.texts);
}
