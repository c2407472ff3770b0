use Rattle.std.proofs.Common.{◌≡◌, take, fold}
use Rattle.room_mirror.specs.Inner.Replacing.{with_empty}
use Rattle.room_mirror.proofs.replacing.reserve.Given as goal

abbrev pub invariant-loop-place : goal.invariant-loop-place
invariant-loop-place g l = l.rows ≡ fold with_empty l.fn.rows (take l.place l.absent)
