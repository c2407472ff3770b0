use Rattle.osm_refs.specs.Facts.MapTables.{users_in-table_of, references_at-table_of}
use Rattle.osm_refs.proofs.laws.a_table_tells_what_its_map_tells.Goals as goal

pub returns-clause-users : goal.returns-clause-users
returns-clause-users g c = λ m e h. users_in-table_of m e

pub returns-clause-references : goal.returns-clause-references
returns-clause-references g c = references_at-table_of
