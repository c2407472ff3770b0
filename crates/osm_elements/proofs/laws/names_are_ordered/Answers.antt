use Rattle.osm_elements.specs.Facts.Names.{name_cmp_total, name_cmp-IsAntisymmetric}
use Rattle.osm_elements.proofs.laws.names_are_ordered.Goals as goal

pub returns-clause-total : goal.returns-clause-total
returns-clause-total c = name_cmp_total

pub returns-clause-equal : goal.returns-clause-equal
returns-clause-equal c = name_cmp-IsAntisymmetric
