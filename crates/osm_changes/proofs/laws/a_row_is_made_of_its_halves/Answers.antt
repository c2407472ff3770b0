use Rattle.osm_changes.specs.Facts.Changing.{row_at-changed}
use Rattle.osm_changes.proofs.laws.a_row_is_made_of_its_halves.Goals as goal

pub returns : goal.returns
returns g c = row_at-changed
