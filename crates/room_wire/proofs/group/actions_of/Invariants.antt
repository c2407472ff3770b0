use Rattle.std.proofs.Common.{◌≡◌, drop, length}
use Rattle.room_wire.specs.Prelude.{items_view, actions_from}
use Rattle.room_wire.proofs.ActionLists.{after_actions}
use Rattle.room_wire.proofs.group.actions_of.Given as goal

abbrev pub invariant-loop-object : goal.invariant-loop-object
invariant-loop-object l = record {
  read : after_actions l.actions.items (actions_from l.position (items_view (drop l.object-index l.objects))) ≡ actions_from 0 (items_view l.objects);
  at : l.position ≡ length l.actions.items;
  left : l.position ≡ l.object-index;
}
