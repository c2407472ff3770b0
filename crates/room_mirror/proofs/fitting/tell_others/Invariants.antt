use Rattle.std.proofs.Common.{◌≡◌, drop}
use Rattle.room_mirror.specs.Prelude.{list_all, tells_another}
use Rattle.room_mirror.proofs.fitting.tell_others.Given as goal

abbrev pub invariant-loop-row : goal.invariant-loop-row
invariant-loop-row g l = list_all (tells_another l.rows) l.told ≡ list_all (tells_another l.rows) (drop l.row-index l.told)
