use Rattle.std.proofs.Common.{◌≡◌, ◌≤◌, ◌+◌, cond, length, map, take}
use Rattle.indexmap.specs.IndexMap.{spare}
use Rattle.edit_footprint.specs.Touches.{Touch, does}
use Rattle.room_history.specs.Inner.Changers.{changed_again, last_at, written_by}
use Rattle.room_history.proofs.changers.note_all.Given as goal

abbrev pub invariant-loop-change : goal.invariant-loop-change
invariant-loop-change g l = (length l.changes ≤ spare l.table + l.change-index)
    × ((t : Touch) → last_at l.table.entries t ≡ cond (does (map written_by (take l.change-index l.changes)) t) (changed_again l.entries l.author l.seq (last_at l.initial.table.entries t)) (last_at l.initial.table.entries t))
