use Rattle.std.proofs.Common.{All, take}
use Rattle.room_mirror.specs.Clients.{HasIds}
use Rattle.room_mirror.proofs.brought.actions_have_ids.Given as goal

abbrev pub invariant-loop-action : goal.invariant-loop-action
invariant-loop-action l = All HasIds (take l.action-index l.actions)
