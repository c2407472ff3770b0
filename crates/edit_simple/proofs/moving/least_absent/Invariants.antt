use Rattle.std.proofs.Common.{◌≡◌, take, filter}
use Rattle.osm_elements.specs.Maps.{is_absent, least}
use Rattle.edit_simple.proofs.moving.least_absent.Given as goal

abbrev pub invariant-loop-name : goal.invariant-loop-name
invariant-loop-name g l = l.least ≡ least (filter (is_absent l.rows) (take l.name-index l.names))
