-- Each holds by evaluation.
use Rattle.std.proofs.Common.{refl}
use Rattle.osm_elements.specs.NameOrder.{name_cmp}
use Rattle.osm_refs.specs.Examples.{references_found, users_found, tables_made, references_changed}
use Rattle.osm_refs.proofs.laws.examples_are_as_worked.Goals as goal

pub returns-clause-references_found : goal.returns-clause-references_found
unfolding references_found name_cmp
returns-clause-references_found c = (refl, refl, refl, refl, refl, refl, refl, refl)

pub returns-clause-users_found : goal.returns-clause-users_found
unfolding users_found name_cmp
returns-clause-users_found c = (refl, refl, refl, refl, refl)

pub returns-clause-tables_made : goal.returns-clause-tables_made
unfolding tables_made name_cmp
returns-clause-tables_made c = (refl, refl, refl, refl, refl, refl, refl)

pub returns-clause-references_changed : goal.returns-clause-references_changed
unfolding references_changed name_cmp
returns-clause-references_changed c = (refl, refl, refl)
