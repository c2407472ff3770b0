use Rattle.std.proofs.Common.{◌≡◌, take, fold}
use Rattle.osm_changes.specs.Inner.References.{gained}
use Rattle.osm_changes.proofs.entering.gain.Given as goal

abbrev pub invariant-loop-at : goal.invariant-loop-at
invariant-loop-at g l = l.users ≡ fold gained l.initial.users (take l.at l.changes)
