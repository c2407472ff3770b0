use Rattle.std.proofs.Common.{◌≡◌, take}
use Rattle.room_mirror.specs.Mirrors.{told_names}
use Rattle.room_mirror.specs.Inner.Replacing.{absent_names}
use Rattle.room_mirror.proofs.replacing.absent_names.Given as goal

abbrev pub invariant-loop-row : goal.invariant-loop-row
invariant-loop-row g l = l.names.items ≡ absent_names l.rows (told_names (take l.row-index l.told))
