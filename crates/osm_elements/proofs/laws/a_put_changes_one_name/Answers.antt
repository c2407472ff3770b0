use Rattle.osm_elements.specs.Facts.Rows.{row_at-put_row_same, row_at-put_row_other, AreInOrder-put_row}
use Rattle.osm_elements.proofs.laws.a_put_changes_one_name.Goals as goal

pub returns-clause-same : goal.returns-clause-same
returns-clause-same g c = row_at-put_row_same

pub returns-clause-other : goal.returns-clause-other
returns-clause-other g c = row_at-put_row_other

pub returns-clause-order : goal.returns-clause-order
returns-clause-order g c = AreInOrder-put_row
