use Rattle.std.proofs.Common.{Ok, drop, refl, take, inl, sym, ap, ◌∙◌}
use Rattle.edit_topology.specs.Prelude.{Way, err_result, first_stays, named_if_first, named_if_none, IsNamed, unglue_checks}
use Rattle.edit_topology.specs.Inner.Ungluing.{node_standing}
use Rattle.edit_topology.proofs.UngluePlans.{accepted, no_position, within, new_is_node, in_order, unglue_planned}
use Rattle.edit_topology.proofs.unglue.plan_unglue.Goals as goal

pub returns-in_default : goal.returns-in_default
returns-in_default g c =
    let first = sym (no_position c.args.rows.now c.args.name.now c.args.place c.args.into.now (Way c.in_ok-nodes.nodes.now c.in_ok-nodes.tags.now) c.requires c.in_ok-nodes.ensures.0 c.in_ok-nodes.ensures.1 (c.in_default.ensures ∙ ap (λ l. node_standing c.args.rows.now l c.args.place) c.deref.ensures)) in
    record { plan = inl first; named = named_if_first (unglue_checks c.args.rows.now c.args.name.now c.args.place c.args.into.now) _ first }

pub returns-in_err-nodes-clause-named : goal.returns-in_err-nodes-clause-named
returns-in_err-nodes-clause-named g c =
    let checks = unglue_checks c.args.rows.now c.args.name.now c.args.place c.args.into.now in
    err_result (IsNamed checks) c.from_residual.result c.in_err-nodes.field-0.0 c.from_residual.ensures.0 c.from_residual.ensures.1 (named_if_first checks _ (first_stays (take 4 checks) (drop 4 checks) _ c.in_err-nodes.ensures))

pub change_both-requires : goal.change_both-requires
change_both-requires g c = record {
  place = (within c.args.rows.now c.args.name.now c.args.place c.args.into.now (Way c.in_ok-nodes.nodes.now c.in_ok-nodes.tags.now) c.requires c.in_ok-nodes.ensures.0 c.in_ok-nodes.ensures.1 c.in-Some.node.now (c.in-Some.ensures ∙ ap (λ l. node_standing c.args.rows.now l c.args.place) c.deref.ensures));
  node = new_is_node c.args.rows.now c.args.name.now c.args.place c.args.into.now (Way c.in_ok-nodes.nodes.now c.in_ok-nodes.tags.now) c.requires c.in_ok-nodes.ensures.0 c.in_ok-nodes.ensures.1 c.in-Some.node.now (c.in-Some.ensures ∙ ap (λ l. node_standing c.args.rows.now l c.args.place) c.deref.ensures);
  order = in_order c.args.rows.now c.args.name.now c.args.place c.args.into.now (Way c.in_ok-nodes.nodes.now c.in_ok-nodes.tags.now) c.requires c.in_ok-nodes.ensures.0 c.in_ok-nodes.ensures.1 c.in-Some.node.now (c.in-Some.ensures ∙ ap (λ l. node_standing c.args.rows.now l c.args.place) c.deref.ensures);
}

pub returns-in_err-change_both-clause-named : goal.returns-in_err-change_both-clause-named
returns-in_err-change_both-clause-named g c =
    named_if_none (unglue_checks c.args.rows.now c.args.name.now c.args.place c.args.into.now) _ (accepted c.args.rows.now c.args.name.now c.args.place c.args.into.now (Way c.in_ok-nodes.nodes.now c.in_ok-nodes.tags.now) c.requires c.in_ok-nodes.ensures.0 c.in_ok-nodes.ensures.1 c.in-Some.node.now (c.in-Some.ensures ∙ ap (λ l. node_standing c.args.rows.now l c.args.place) c.deref.ensures))

pub returns-clause-named : goal.returns-clause-named
returns-clause-named g c =
    named_if_none (unglue_checks c.args.rows.now c.args.name.now c.args.place c.args.into.now) (Ok c.in_ok-change_both.field-0) (accepted c.args.rows.now c.args.name.now c.args.place c.args.into.now (Way c.in_ok-nodes.nodes.now c.in_ok-nodes.tags.now) c.requires c.in_ok-nodes.ensures.0 c.in_ok-nodes.ensures.1 c.in-Some.node.now (c.in-Some.ensures ∙ ap (λ l. node_standing c.args.rows.now l c.args.place) c.deref.ensures))

pub returns-clause-plan : goal.returns-clause-plan
returns-clause-plan g c =
    unglue_planned c.args.rows.now c.args.name.now c.args.place c.args.into.now (Way c.in_ok-nodes.nodes.now c.in_ok-nodes.tags.now) c.requires c.in_ok-nodes.ensures.0 c.in_ok-nodes.ensures.1 c.in-Some.node.now (c.in-Some.ensures ∙ ap (λ l. node_standing c.args.rows.now l c.args.place) c.deref.ensures)
    _ refl c.in_ok-change_both.field-0 c.in_ok-change_both.ensures
