-- Each holds by evaluation.
use Rattle.std.proofs.Common.{refl}
use Rattle.osm_elements.specs.NameOrder.{name_cmp}
use Rattle.edit_actions.specs.Examples.{created, retagged, moved, split}
use Rattle.edit_actions.proofs.laws.examples_are_as_worked.Goals as goal

pub returns-clause-created : goal.returns-clause-created
unfolding created name_cmp
returns-clause-created c = (refl, refl, refl)

pub returns-clause-retagged : goal.returns-clause-retagged
unfolding retagged name_cmp
returns-clause-retagged c = (refl, refl, refl)

pub returns-clause-moved : goal.returns-clause-moved
unfolding moved name_cmp
returns-clause-moved c = (refl, refl, refl)

pub returns-clause-split : goal.returns-clause-split
unfolding split name_cmp
returns-clause-split c = (refl, refl, refl)
