use Rattle.edit_footprint.specs.Facts.Commutation.{commutation}
use Rattle.edit_footprint.proofs.laws.commutation.Goals as goal

pub returns : goal.returns
returns g c = commutation
