use Rattle.edit_actions.specs.Facts.Accepted.{changes_lead}
use Rattle.edit_actions.proofs.laws.accepted_changes_lead_there.Goals as goal

pub returns : goal.returns
returns g c = changes_lead
