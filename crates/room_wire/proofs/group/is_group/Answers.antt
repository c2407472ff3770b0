use Rattle.std.proofs.Common.{◌&&◌, ap, sym, ◌∙◌}
use Rattle.room_wire.specs.Prelude.{items_view, is_group_length, are_objects}
use Rattle.room_wire.proofs.ActionLists.{items_len-view}
use Rattle.room_wire.proofs.group.is_group.Goals as goal

pub returns-then-is_group_length-clause-group : goal.returns-then-is_group_length-clause-group
returns-then-is_group_length-clause-group c =
    let xs = c.args.items.now in
    c.all_objects.ensures ∙ ap (λ b. b && are_objects (items_view xs)) (sym (ap is_group_length (items_len-view xs) ∙ sym c.is_group_length.ensures ∙ c.if-is_group_length.true))

pub returns-else-is_group_length-clause-group : goal.returns-else-is_group_length-clause-group
returns-else-is_group_length-clause-group c =
    let xs = c.args.items.now in
    c.if-is_group_length.false ∙ ap (λ b. b && are_objects (items_view xs)) (sym (ap is_group_length (items_len-view xs) ∙ sym c.is_group_length.ensures ∙ c.if-is_group_length.false))
