use Rattle.edit_footprint.specs.Facts.Leaving.{leaves_the_rest}
use Rattle.edit_footprint.proofs.laws.leaves_the_rest.Goals as goal

pub returns : goal.returns
returns g c = leaves_the_rest
