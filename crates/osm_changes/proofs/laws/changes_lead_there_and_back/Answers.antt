use Rattle.osm_changes.specs.Facts.Changing.{changed-differences, changed-inverse}
use Rattle.osm_changes.proofs.laws.changes_lead_there_and_back.Goals as goal

pub returns-clause-there : goal.returns-clause-there
returns-clause-there g c = changed-differences

pub returns-clause-back : goal.returns-clause-back
returns-clause-back g c = changed-inverse
