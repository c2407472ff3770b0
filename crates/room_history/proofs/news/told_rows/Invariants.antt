use Rattle.std.proofs.Common.{◌≡◌, map, take}
use Rattle.room_history.specs.Inner.Telling.{told_row}
use Rattle.room_history.proofs.news.told_rows.Given as goal

abbrev pub invariant-loop-row : goal.invariant-loop-row
invariant-loop-row g l = l.rows.items ≡ map told_row (take l.row-index l.changed)
