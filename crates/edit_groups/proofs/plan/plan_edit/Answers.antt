use Rattle.edit_groups.proofs.Planned.{plan_from, plan_sound}
use Rattle.edit_groups.proofs.plan.plan_edit.Goals as goal

pub returns-clause-from : goal.returns-clause-from
returns-clause-from g c = plan_from c.args.store.now.rows c.args.edit.now c.planned_edit.result c.differences_are_changes.ensures.from c.planned_edit.ensures

pub returns-clause-sound : goal.returns-clause-sound
returns-clause-sound g c = plan_sound c.args.store.now.rows c.args.edit.now c.planned_edit.result c.map.ensures.sound c.keeps_values.ensures c.planned_edit.ensures
