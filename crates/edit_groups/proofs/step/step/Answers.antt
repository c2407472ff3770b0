use Rattle.std.proofs.Common.{ap, ◌∙◌}
use Rattle.osm_changes.specs.Changes.{changed}
use Rattle.edit_actions.specs.Facts.Accepted.{changes_lead}
use Rattle.edit_groups.proofs.step.step.Goals as goal

pub returns-clause-after : goal.returns-clause-after
returns-clause-after g c =
    c.in_ok-after.ensures ∙ ap (changed c.args.draft) c.in_ok-changes.ensures.changes
    ∙ changes_lead c.args.draft c.args.action.now c.requires c.in_ok-changes.ensures.made c.in_ok-changes.ensures.accepted
