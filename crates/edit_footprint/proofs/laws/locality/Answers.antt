use Rattle.edit_footprint.specs.Facts.Locality.{locality}
use Rattle.edit_footprint.proofs.laws.locality.Goals as goal

pub returns : goal.returns
returns g c = locality
