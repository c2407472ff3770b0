use Rattle.osm_changes.proofs.RowsOfChanges.{changes_of-changed_rows}
use Rattle.osm_changes.proofs.laws.changes_are_those_of_rows.Goals as goal

pub returns : goal.returns
returns g c = changes_of-changed_rows
