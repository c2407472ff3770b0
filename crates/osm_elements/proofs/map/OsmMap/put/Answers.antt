use Rattle.std.proofs.Common.{rules}
use Rattle.osm_elements.specs.Facts.NameOrder.{name_cmp_is}
use Rattle.osm_elements.proofs.MapRows.{AreInOrder-insert}
use Rattle.osm_elements.proofs.map.OsmMap.put.Goals as goal

pub invariant_of-self : goal.invariant_of-self
invariant_of-self g c =
    AreInOrder-insert _ name_cmp_is c.self.inside.elements.entries c.insert.new.self.entries c.args.name c.insert.result c.args.element c.self.invariant c.insert.ensures.entries c.insert.ensures.err

pub returns-clause-ok : goal.returns-clause-ok
returns-clause-ok g c = rw (← name_cmp_is) (search rules)

pub returns-clause-err : goal.returns-clause-err
returns-clause-err g c = rw (← name_cmp_is) (search rules)
