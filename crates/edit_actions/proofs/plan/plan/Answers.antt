use Rattle.edit_actions.proofs.Planned.{is_from, stays_sound}
use Rattle.edit_actions.proofs.plan.plan.Goals as goal

pub returns-clause-from : goal.returns-clause-from
returns-clause-from g c = is_from c.args.draft.now c.args.action.now c.plan_of.result c.keeps.ensures.from c.plan_of.ensures

pub returns-clause-sound : goal.returns-clause-sound
returns-clause-sound g c = stays_sound c.args.draft.now c.args.action.now c.plan_of.result c.requires c.keeps.ensures.made c.plan_of.ensures
