use Rattle.std.proofs.Common.{◌≡◌, drop}
use Rattle.room_wire.specs.Prelude.{items_view, member_of, members_in}
use Rattle.room_wire.proofs.ItemLists.{with_front}
use Rattle.room_wire.proofs.forms.members_in.Given as goal

abbrev pub invariant-loop-item : goal.invariant-loop-item
invariant-loop-item l = with_front member_of l.members (items_view (drop l.item-index l.items)) ≡ members_in (items_view l.items)
