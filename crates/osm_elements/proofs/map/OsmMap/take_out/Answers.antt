use Rattle.std.proofs.Common.{rules}
use Rattle.osm_elements.specs.Facts.NameOrder.{name_cmp_is}
use Rattle.osm_elements.proofs.MapRows.{AreInOrder-remove}
use Rattle.osm_elements.proofs.map.OsmMap.take_out.Goals as goal

pub invariant_of-self : goal.invariant_of-self
invariant_of-self g c =
    AreInOrder-remove _ name_cmp_is c.self.inside.elements.entries c.remove.new.self.entries c.args.name.now c.self.invariant c.remove.ensures.entries

pub returns-clause-value : goal.returns-clause-value
returns-clause-value g c = rw (← name_cmp_is) (search rules)

pub returns-clause-rest : goal.returns-clause-rest
returns-clause-rest g c = rw (← name_cmp_is) (search rules)
