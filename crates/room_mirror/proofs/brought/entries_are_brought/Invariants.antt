use Rattle.std.proofs.Common.{All, take}
use Rattle.room_mirror.specs.Clients.{IsBrought}
use Rattle.room_mirror.proofs.brought.entries_are_brought.Given as goal

abbrev pub invariant-loop-place : goal.invariant-loop-place
invariant-loop-place l = All IsBrought (take l.place l.room.journal)
