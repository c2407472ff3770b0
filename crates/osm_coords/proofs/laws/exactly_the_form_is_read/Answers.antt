use Rattle.osm_coords.proofs.FormRead.{coordinate_is_said}
use Rattle.osm_coords.proofs.laws.exactly_the_form_is_read.Goals as goal

pub returns : goal.returns
returns c = coordinate_is_said
