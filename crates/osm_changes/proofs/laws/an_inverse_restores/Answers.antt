use Rattle.osm_changes.proofs.Restoring.{AreFrom-inverse, restored}
use Rattle.osm_changes.proofs.laws.an_inverse_restores.Goals as goal

pub returns-clause-from : goal.returns-clause-from
returns-clause-from g c = AreFrom-inverse

pub returns-clause-map : goal.returns-clause-map
returns-clause-map g c = restored
