use Rattle.std.proofs.Common.{◌≡◌, take, fold}
use Rattle.osm_changes.specs.Inner.References.{given_back}
use Rattle.osm_changes.proofs.entering.give_back.Given as goal

abbrev pub invariant-loop-change : goal.invariant-loop-change
invariant-loop-change g l = l.users ≡ fold given_back l.fn.users (take l.change-index l.changes)
