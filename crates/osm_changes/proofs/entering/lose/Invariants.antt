use Rattle.std.proofs.Common.{◌≡◌, take, fold}
use Rattle.osm_changes.specs.Inner.References.{lost}
use Rattle.osm_changes.proofs.entering.lose.Given as goal

abbrev pub invariant-loop-change : goal.invariant-loop-change
invariant-loop-change g l = l.users ≡ fold lost l.fn.users (take l.change-index l.changes)
