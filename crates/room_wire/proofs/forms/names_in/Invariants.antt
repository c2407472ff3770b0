use Rattle.std.proofs.Common.{◌≡◌, drop}
use Rattle.room_wire.specs.Prelude.{items_view, name_item, names_in}
use Rattle.room_wire.proofs.ItemLists.{with_front}
use Rattle.room_wire.proofs.forms.names_in.Given as goal

abbrev pub invariant-loop-item : goal.invariant-loop-item
invariant-loop-item l = with_front name_item l.names (items_view (drop l.item-index l.items)) ≡ names_in (items_view l.items)
