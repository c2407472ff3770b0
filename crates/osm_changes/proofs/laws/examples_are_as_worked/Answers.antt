-- Each holds by evaluation.
use Rattle.std.proofs.Common.{refl}
use Rattle.osm_elements.specs.NameOrder.{name_cmp}
use Rattle.osm_changes.specs.Examples.{retagged, come_and_gone, moved, both_parts}
use Rattle.osm_changes.proofs.laws.examples_are_as_worked.Goals as goal

pub returns-clause-retagged : goal.returns-clause-retagged
unfolding retagged name_cmp
returns-clause-retagged c = (refl, refl, refl, refl)

pub returns-clause-come_and_gone : goal.returns-clause-come_and_gone
unfolding come_and_gone name_cmp
returns-clause-come_and_gone c = (refl, refl, refl, refl, refl)

pub returns-clause-moved : goal.returns-clause-moved
unfolding moved name_cmp
returns-clause-moved c = (refl, refl)

pub returns-clause-both_parts : goal.returns-clause-both_parts
unfolding both_parts name_cmp
returns-clause-both_parts c = (refl, refl, refl, refl)
