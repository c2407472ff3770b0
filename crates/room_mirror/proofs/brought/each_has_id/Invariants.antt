use Rattle.std.proofs.Common.{All, take}
use Rattle.room_wire.specs.ReadBack.{HasId}
use Rattle.room_mirror.proofs.brought.each_has_id.Given as goal

abbrev pub invariant-loop-row : goal.invariant-loop-row
invariant-loop-row l = All (λ r. HasId r.name) (take l.row-index l.rows)
