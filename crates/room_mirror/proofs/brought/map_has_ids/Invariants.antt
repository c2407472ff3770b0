use Rattle.std.proofs.Common.{All}
use Rattle.room_mirror.specs.Prelude.{names_of, HasId}
use Rattle.room_mirror.proofs.brought.map_has_ids.Given as goal

abbrev pub invariant-loop-name : goal.invariant-loop-name
invariant-loop-name l = All HasId (names_of l.name-iterator) → All HasId (names_of l.map)
