use Rattle.std.proofs.Common.{take}
use Rattle.osm_changes.specs.Prelude.{changed_cells}
use Rattle.room_history.specs.Inner.Changers.{IsOutcome, changer}
use Rattle.room_history.proofs.changers.Changers.overwritten.Given as goal

abbrev pub invariant-loop-change : goal.invariant-loop-change
invariant-loop-change g l = IsOutcome l.since (changer l.entries l.author l.self.rows) (changed_cells (take l.change-index l.changes)) l.found
