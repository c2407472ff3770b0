use Rattle.std.proofs.Common.{◌≡◌, drop}
use Rattle.room_wire.specs.Prelude.{items_view, node_of, nodes_in}
use Rattle.room_wire.proofs.ItemLists.{with_front}
use Rattle.room_wire.proofs.forms.nodes_in.Given as goal

abbrev pub invariant-loop-item : goal.invariant-loop-item
invariant-loop-item l = with_front node_of l.nodes (items_view (drop l.item-index l.items)) ≡ nodes_in (items_view l.items)
