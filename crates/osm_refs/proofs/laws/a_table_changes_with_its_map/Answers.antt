use Rattle.osm_refs.specs.Facts.MapTables.{table_of-put_row, table_of-rows_but}
use Rattle.osm_refs.proofs.laws.a_table_changes_with_its_map.Goals as goal

pub returns-clause-put : goal.returns-clause-put
returns-clause-put g c = table_of-put_row

pub returns-clause-taken : goal.returns-clause-taken
returns-clause-taken g c = table_of-rows_but
