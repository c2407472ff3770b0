use Rattle.std.proofs.Common.{sym}
use Rattle.osm_refs.specs.References.{users}
use Rattle.edit_simple.proofs.Planned.{delete_planned, delete_in_use, none_named}
use Rattle.edit_simple.proofs.delete.plan_delete.Goals as goal

pub returns-in-Some-first_user-clause-plan : goal.returns-in-Some-first_user-clause-plan
returns-in-Some-first_user-clause-plan g c =
    delete_in_use c.args.rows.now c.args.name.now c.in-Some.element.now c.in-Some-first_user.user
    (sym c.in-Some.ensures) (sym c.in-Some-first_user.ensures)

pub returns-clause-plan : goal.returns-clause-plan
returns-clause-plan g c =
    delete_planned c.args.rows.now c.args.name.now c.in-Some.element.now c.in_ok-before.before c.in_ok-one_change.field-0
    (sym c.in-Some.ensures) (none_named (users c.args.rows.now c.args.name.now) (sym c.in_default-first_user.ensures))
    c.in_ok-before.ensures c.in_ok-one_change.ensures
