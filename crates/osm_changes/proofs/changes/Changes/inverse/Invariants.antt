use Rattle.std.proofs.Common.{◌≡◌, ◌++◌, take, drop}
use Rattle.osm_changes.specs.Changes.{inverse}
use Rattle.osm_changes.proofs.changes.Changes.inverse.Given as goal

abbrev pub invariant-loop-change : goal.invariant-loop-change
invariant-loop-change g l = l.change-items ≡ inverse (take l.change-index l.fn.self) ++ drop l.change-index l.fn.self
