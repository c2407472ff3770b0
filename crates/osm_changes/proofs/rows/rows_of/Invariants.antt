use Rattle.std.proofs.Common.{◌≡◌, map, take}
use Rattle.osm_changes.specs.Changes.{changed, changed_row}
use Rattle.osm_changes.proofs.rows.rows_of.Given as goal

abbrev pub invariant-loop-name : goal.invariant-loop-name
invariant-loop-name g l = l.entered.items ≡ map (changed_row (g.R.Lookup.rows l.rows) (changed (g.R.Lookup.rows l.rows) l.changes)) (take l.name-index l.names)
