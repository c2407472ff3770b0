use Rattle.std.proofs.Common.{◌≡◌, IfOk, subst}
use Rattle.osm_elements.specs.Maps.{name_set}
use Rattle.edit_simple.proofs.moving.all_moved.Goals as goal

pub returns : goal.returns
returns g c = subst (λ names. IfOk c.name_set.result (λ set. set.items ≡ name_set names)) c.in_ok-listed.ensures c.name_set.ensures.set
