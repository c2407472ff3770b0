use Rattle.std.proofs.Common.{◌≡◌, ◌++◌, map, take}
use Rattle.edit_footprint.specs.Touches.{presence_read}
use Rattle.edit_footprint.proofs.touching.push_names.Given as goal

abbrev pub invariant-loop-name : goal.invariant-loop-name
invariant-loop-name g l = l.touches.items ≡ l.initial.touches.items ++ map presence_read (take l.name-index l.names)
