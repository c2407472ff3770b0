use Rattle.std.proofs.Common.{◌≡◌, take}
use Rattle.osm_elements.specs.Maps.{name_set}
use Rattle.edit_simple.specs.Inner.Purging.{all_gone}
use Rattle.edit_simple.proofs.purge.all_gone.Given as goal

abbrev pub invariant-loop-user : goal.invariant-loop-user
invariant-loop-user g l = l.gone.keys ≡ name_set (all_gone l.rows (take l.user-index l.its_users) l.purged)
