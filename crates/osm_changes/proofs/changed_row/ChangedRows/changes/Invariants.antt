use Rattle.std.proofs.Common.{◌≡◌, take}
use Rattle.osm_changes.specs.Changes.{changes_of}
use Rattle.osm_changes.proofs.changed_row.ChangedRows.changes.Given as goal

abbrev pub invariant-loop-row : goal.invariant-loop-row
invariant-loop-row g l = l.changes ≡ changes_of (take l.row-index l.row-items)
