use Rattle.std.proofs.Common.{rules}
use Rattle.osm_elements.specs.Facts.NameOrder.{name_cmp_is}
use Rattle.osm_elements.proofs.map.OsmMap.get.Goals as goal

pub returns : goal.returns
returns g c = rw (← name_cmp_is) (search rules)
