use Rattle.osm_elements.specs.Facts.Rows.{same_rows}
use Rattle.osm_elements.proofs.laws.a_map_is_what_its_names_have.Goals as goal

pub returns : goal.returns
returns g c = same_rows
