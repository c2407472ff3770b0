use Rattle.osm_elements.specs.Facts.Rows.{without_row-put_row, put_row-without_row}
use Rattle.osm_elements.proofs.laws.putting_and_taking_out_undo_each_other.Goals as goal

pub returns-clause-put : goal.returns-clause-put
returns-clause-put g c = without_row-put_row

pub returns-clause-taken : goal.returns-clause-taken
returns-clause-taken g c = put_row-without_row
