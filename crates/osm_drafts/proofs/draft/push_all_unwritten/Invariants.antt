use Rattle.std.proofs.Common.{◌≡◌, ◌++◌, take, flat_map}
use Rattle.osm_drafts.specs.Drafts.{unwritten}
use Rattle.osm_drafts.proofs.draft.push_all_unwritten.Given as goal

abbrev pub invariant-loop-user : goal.invariant-loop-user
invariant-loop-user g l = l.names.items ≡ l.initial.names.items ++ flat_map (unwritten l.written.keys) (take l.user-index l.users)
