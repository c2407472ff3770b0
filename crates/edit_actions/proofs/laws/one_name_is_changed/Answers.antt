use Rattle.osm_changes.specs.Facts.Differing.{created, deleted}
use Rattle.edit_actions.proofs.Retagged.{retag_tells}
use Rattle.edit_actions.proofs.laws.one_name_is_changed.Goals as goal

pub returns-clause-create : goal.returns-clause-create
returns-clause-create g c = created

pub returns-clause-delete : goal.returns-clause-delete
returns-clause-delete g c = deleted

pub returns-clause-retag : goal.returns-clause-retag
returns-clause-retag g c = retag_tells
