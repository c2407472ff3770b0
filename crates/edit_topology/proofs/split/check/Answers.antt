use Rattle.std.proofs.Common.{sym, ap, ◌∙◌}
use Rattle.edit_topology.specs.Split.{is_inside}
use Rattle.edit_topology.proofs.SplitPlans.{none_early}
use Rattle.edit_topology.proofs.split.check.Goals as goal

pub returns : goal.returns
returns g c =
    none_early c.args.rows.now c.args.name.now c.args.place c.args.into.now _ (sym c.if-not-is_way.ensures) (sym c.if-not-is_way-2.ensures)
    c.in_ok-nodes.ensures (sym c.if-is_present.ensures) (ap (is_inside c.args.place) (sym (c.names.ensures.names ∙ c.deref.ensures)) ∙ sym c.if-not-is_inside.ensures)
