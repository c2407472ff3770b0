use Rattle.osm_changes.proofs.Restoring.{differences_changes, differences_from}
use Rattle.osm_changes.proofs.laws.differences_are_changes.Goals as goal

pub returns-clause-changes : goal.returns-clause-changes
returns-clause-changes g c = differences_changes

pub returns-clause-from : goal.returns-clause-from
returns-clause-from g c = differences_from
