use Rattle.std.proofs.Common.{reverse, ap, sym, ◌∙◌}
use Rattle.edit_simple.proofs.Relisted.{reverse_planned}
use Rattle.edit_simple.proofs.reverse.plan_reverse.Goals as goal

pub returns-clause-plan : goal.returns-clause-plan
returns-clause-plan g c =
    reverse_planned c.args.rows.now c.args.name.now c.in_ok-nodes.nodes.now c.in_ok-turned.turned c.in_ok-nodes.tags.now (sym c.if-not-is_way.ensures) c.in_ok-nodes.ensures (c.in_ok-turned.ensures ∙ c.in_ok-reversed.ensures ∙ ap reverse c.deref-2.ensures) c.change_nodes.result c.change_nodes.ensures.changed
