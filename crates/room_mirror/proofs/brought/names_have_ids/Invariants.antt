use Rattle.std.proofs.Common.{All, take}
use Rattle.room_wire.specs.ReadBack.{HasId}
use Rattle.room_mirror.proofs.brought.names_have_ids.Given as goal

abbrev pub invariant-loop-name : goal.invariant-loop-name
invariant-loop-name l = All HasId (take l.name-index l.names)
