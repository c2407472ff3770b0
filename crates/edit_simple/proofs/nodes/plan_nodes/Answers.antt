use Rattle.std.proofs.Common.{None, length, inl, sym, ap, ◌∙◌, filter}
use Rattle.edit_simple.specs.Prelude.{are_same_names, least, is_missing, named_if_first, nodes_checks}
use Rattle.edit_simple.proofs.Relisted.{not_below, not_above, changed_named, nodes_left, nodes_absent, nodes_planned}
use Rattle.edit_simple.proofs.nodes.plan_nodes.Goals as goal

pub returns-in-Some : goal.returns-in-Some
returns-in-Some g c =
    let first =
    nodes_absent c.args.rows.now c.args.name.now c.args.list.now c.in_ok-nodes.nodes.now c.in_ok-nodes.tags.now (sym c.if-not-is_way.ensures) c.in_ok-nodes.ensures
    (not_below c.len.result (length c.args.list.now) 2 (c.len.ensures ∙ ap length c.deref.ensures) c.if-len-lt-FEWEST_NODES.false) (not_above c.len-2.result (length c.args.list.now) 2000 (c.len-2.ensures ∙ ap length c.deref-2.ensures) c.if-len-gt-MOST_NODES.false)
    c.in-Some.absent (c.in-Some.ensures ∙ ap (λ l. least (filter (is_missing c.args.rows.now c.args.name.now) l)) (c.names.ensures.names ∙ c.deref-3.ensures)) in
    record { plan = inl first; named = named_if_first (nodes_checks c.args.rows.now c.args.name.now c.args.list.now) _ first }

pub returns-clause-plan : goal.returns-clause-plan
returns-clause-plan g c =
    nodes_planned c.args.rows.now c.args.name.now c.args.list.now c.in_ok-nodes.nodes.now c.in_ok-nodes.tags.now (sym c.if-not-is_way.ensures) c.in_ok-nodes.ensures
    (not_below c.len.result (length c.args.list.now) 2 (c.len.ensures ∙ ap length c.deref.ensures) c.if-len-lt-FEWEST_NODES.false) (not_above c.len-2.result (length c.args.list.now) 2000 (c.len-2.ensures ∙ ap length c.deref-2.ensures) c.if-len-gt-MOST_NODES.false)
    (c.in_default.ensures ∙ ap (λ l. least (filter (is_missing c.args.rows.now c.args.name.now) l)) (c.names.ensures.names ∙ c.deref-3.ensures)) c.change_nodes.result c.change_nodes.ensures.changed

pub returns-clause-named : goal.returns-clause-named
returns-clause-named g c =
    changed_named (nodes_checks c.args.rows.now c.args.name.now c.args.list.now) (are_same_names c.in_ok-nodes.nodes.now c.args.list.now)
    (nodes_left c.args.rows.now c.args.name.now c.args.list.now c.in_ok-nodes.nodes.now c.in_ok-nodes.tags.now (sym c.if-not-is_way.ensures) c.in_ok-nodes.ensures
    (not_below c.len.result (length c.args.list.now) 2 (c.len.ensures ∙ ap length c.deref.ensures) c.if-len-lt-FEWEST_NODES.false) (not_above c.len-2.result (length c.args.list.now) 2000 (c.len-2.ensures ∙ ap length c.deref-2.ensures) c.if-len-gt-MOST_NODES.false)
    None (c.in_default.ensures ∙ ap (λ l. least (filter (is_missing c.args.rows.now c.args.name.now) l)) (c.names.ensures.names ∙ c.deref-3.ensures)))
    c.change_nodes.result c.change_nodes.ensures.named
