use Rattle.osm_changes.specs.Facts.RowChanges.{AreChanges-row_changes}
use Rattle.osm_changes.proofs.changed_row.ChangedRow.changes.Goals as goal

pub push_changes-requires : goal.push_changes-requires
push_changes-requires g c = rw (c.empty-changes.ensures) (AreChanges-row_changes c.args.self.now.name c.args.self.now.before c.args.self.now.after)
