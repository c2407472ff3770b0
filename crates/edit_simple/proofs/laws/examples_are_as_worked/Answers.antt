-- Each holds by evaluation.
use Rattle.std.proofs.Common.{refl}
use Rattle.osm_elements.specs.NameOrder.{name_cmp}
use Rattle.edit_simple.specs.Examples.{in_use, own_member, nothing, created, retagged, moved, relisted, purged, create_refusals, retag_refusals, move_refusals, relist_refusals}
use Rattle.edit_simple.proofs.laws.examples_are_as_worked.Goals as goal

pub returns-clause-in_use : goal.returns-clause-in_use
unfolding in_use name_cmp
returns-clause-in_use c = (refl, refl, refl, refl, refl)

pub returns-clause-own_member : goal.returns-clause-own_member
unfolding own_member name_cmp
returns-clause-own_member c = (refl, refl)

pub returns-clause-nothing : goal.returns-clause-nothing
unfolding nothing name_cmp
returns-clause-nothing c = (refl, refl, refl, refl, refl, refl)

pub returns-clause-created : goal.returns-clause-created
unfolding created name_cmp
returns-clause-created c = (refl, refl, refl)

pub returns-clause-retagged : goal.returns-clause-retagged
unfolding retagged name_cmp
returns-clause-retagged c = (refl, refl, refl, refl, refl, refl)

pub returns-clause-moved : goal.returns-clause-moved
unfolding moved name_cmp
returns-clause-moved c = (refl, refl, refl, refl)

pub returns-clause-relisted : goal.returns-clause-relisted
unfolding relisted name_cmp
returns-clause-relisted c = (refl, refl, refl, refl, refl, refl, refl, refl)

pub returns-clause-purged : goal.returns-clause-purged
unfolding purged name_cmp
returns-clause-purged c = (refl, refl, refl, refl, refl, refl, refl, refl, refl, refl, refl, refl)

pub returns-clause-create_refusals : goal.returns-clause-create_refusals
unfolding create_refusals name_cmp
returns-clause-create_refusals c = (refl, refl, refl, refl, refl, refl, refl, refl, refl, refl, refl)

pub returns-clause-retag_refusals : goal.returns-clause-retag_refusals
unfolding retag_refusals name_cmp
returns-clause-retag_refusals c = (refl, refl, refl, refl, refl)

pub returns-clause-move_refusals : goal.returns-clause-move_refusals
unfolding move_refusals name_cmp
returns-clause-move_refusals c = (refl, refl, refl, refl, refl, refl, refl, refl, refl)

pub returns-clause-relist_refusals : goal.returns-clause-relist_refusals
unfolding relist_refusals name_cmp
returns-clause-relist_refusals c = (refl, refl, refl, refl, refl, refl, refl, refl, refl, refl, refl, refl, refl)
