use Rattle.std.proofs.Common.{◌≡◌, ◌++◌, take, flat_map}
use Rattle.edit_footprint.specs.Footprints.{touches_of}
use Rattle.edit_footprint.proofs.touching.push_changed.Given as goal

abbrev pub invariant-loop-change : goal.invariant-loop-change
invariant-loop-change g l = l.touches.items ≡ l.initial.touches.items ++ flat_map touches_of (take l.change-index l.rows)
