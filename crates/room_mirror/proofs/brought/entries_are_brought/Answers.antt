use Rattle.std.proofs.Common.{arith}
use Rattle.room_mirror.specs.Clients.{IsBrought}
use Rattle.room_mirror.proofs.FromCalls.{one_more}
use Rattle.room_mirror.proofs.brought.entries_are_brought.Goals as goal

pub loop-place-preserved : goal.loop-place-preserved
loop-place-preserved c =
    one_more IsBrought c.args.room.now.journal c.loop-place.place (omega (arith, c.loop-place-test.true, c.front-place-end.ensures)) c.loop-place.invariant c.numbered_is_brought.ensures
