use Rattle.std.proofs.Common.{◌≡◌, ◌++◌, map, take, flat_map}
use Rattle.osm_changes.specs.Cells.{rest_at}
use Rattle.edit_footprint.specs.Footprints.{reads_at}
use Rattle.edit_footprint.specs.Inner.Touching.{unchanged}
use Rattle.edit_footprint.proofs.touching.push_unchanged_rests.Given as goal

abbrev pub invariant-loop-name : goal.invariant-loop-name
invariant-loop-name g l = l.touches.items ≡ l.initial.touches.items ++ flat_map reads_at (unchanged l.rows (map rest_at (take l.name-index l.names)))
