use Rattle.std.proofs.Common.{◌≡◌, true, take}
use Rattle.room_interface.specs.MadeCalls.{are_made}
use Rattle.room_interface.proofs.edit.all_keep_values.Given as goal

abbrev pub invariant-loop-action : goal.invariant-loop-action
invariant-loop-action g l = are_made (take l.action-index l.actions) ≡ true
