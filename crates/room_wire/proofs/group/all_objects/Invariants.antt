use Rattle.std.proofs.Common.{◌≡◌, drop}
use Rattle.room_wire.specs.Prelude.{items_view, are_objects}
use Rattle.room_wire.proofs.group.all_objects.Given as goal

abbrev pub invariant-loop-item : goal.invariant-loop-item
invariant-loop-item l = are_objects (items_view (drop l.item-index l.items)) ≡ are_objects (items_view l.items)
