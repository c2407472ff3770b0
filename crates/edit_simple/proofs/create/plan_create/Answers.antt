use Rattle.edit_simple.proofs.Planned.{create_planned}
use Rattle.edit_simple.proofs.create.plan_create.Goals as goal

pub returns-clause-plan : goal.returns-clause-plan
returns-clause-plan g c =
    create_planned c.args.rows.now c.args.name.now c.args.element.now c.in_ok-after.after c.in_ok-check.field-0 c.in_ok-one_change.field-0
    c.in_ok-check.ensures c.in_ok-after.ensures c.in_ok-one_change.ensures
