use Rattle.std.proofs.Common.{◌≡◌, [], take}
use Rattle.osm_changes.specs.Changes.{rows_changes}
use Rattle.edit_simple.specs.Inner.Moving.{moved_row}
use Rattle.edit_simple.specs.Inner.Moves.{leaving}
use Rattle.edit_simple.proofs.moving.move_all.Given as goal

abbrev pub invariant-loop-name : goal.invariant-loop-name
invariant-loop-name g l =
    (l.changes ≡ rows_changes l.rows (moved_row l.rows l.dlat l.dlon) (take l.name-index l.moved)) × (leaving l.rows l.dlat l.dlon (take l.name-index l.moved) ≡ [])
