use Rattle.std.proofs.Common.{◌<◌, ◌++◌, None, Some, length, sym, ap, subst, ◌∙◌}
use Rattle.edit_topology.specs.Prelude.{Way, row_changes}
use Rattle.edit_topology.proofs.UngluePlans.{first_fits, second_fits}
use Rattle.edit_topology.proofs.unglue.change_both.Goals as goal

pub with_node-requires-clause-place : goal.with_node-requires-clause-place
with_node-requires-clause-place g c = subst (λ l. c.args.place < length l) (sym c.deref.ensures) c.requires.place

pub push_row-requires : goal.push_row-requires
push_row-requires g c = first_fits c.args.into.now c.in_ok-copy.field-0 c.empty-changes.result c.empty-changes.ensures

pub push_row-requires-2 : goal.push_row-requires-2
push_row-requires-2 g c =
    second_fits c.args.into.now c.args.name.now c.in_ok-copy.field-0 (Way c.unglued-2.inside.inside.value c.in_ok-copy-4.field-0) (Way c.in_ok-copy-2.field-0 c.in_ok-copy-3.field-0) c.requires.order c.push_row.new.self
    (c.in_ok-push_row.ensures.ok ∙ ap (λ l. l ++ row_changes c.args.into.now None (Some c.in_ok-copy.field-0)) c.empty-changes.ensures)
