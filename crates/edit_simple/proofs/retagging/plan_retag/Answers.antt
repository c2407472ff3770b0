use Rattle.std.proofs.Common.{sym, ◌∙◌}
use Rattle.osm_changes.specs.SameRows.{are_same_tags}
use Rattle.edit_simple.proofs.RetagPlans.{retag_planned}
use Rattle.edit_simple.proofs.retagging.plan_retag.Goals as goal

pub returns-clause-plan : goal.returns-clause-plan
returns-clause-plan g c =
    retag_planned c.args.rows.now c.args.name.now c.args.given.now c.in-Some.element.now c.in_ok-before.before c.in_ok-after.after c.tags.result.now c.in_ok-tags.tags c.in_ok-one_change.field-0
    (sym c.in-Some.ensures) c.tags.ensures c.in_ok-tags.ensures.0 c.in_ok-tags.ensures.1
    (c.if-are_same_tags.ensures ∙ (λ i. are_same_tags ((c.tags-2.ensures ∙ sym c.tags.ensures) i) c.in_ok-tags.tags)) c.in_ok-before.ensures c.in_ok-after.ensures c.in_ok-one_change.ensures
