-- Each holds by evaluation.
use Rattle.std.proofs.Common.{refl}
use Rattle.osm_elements.specs.NameOrder.{name_cmp}
use Rattle.edit_footprint.specs.Examples.{created, retagged, moved, reversed, nodes_given, members_given, deleted, purged, split, joined, merged, unglued, ceased, by_parts, readers}
use Rattle.edit_footprint.proofs.laws.examples_are_as_worked.Goals as goal

pub returns-clause-created : goal.returns-clause-created
unfolding created name_cmp
returns-clause-created c = (refl, refl, refl)

pub returns-clause-retagged : goal.returns-clause-retagged
unfolding retagged name_cmp
returns-clause-retagged c = (refl, refl)

pub returns-clause-moved : goal.returns-clause-moved
unfolding moved name_cmp
returns-clause-moved c = (refl, refl, refl)

pub returns-clause-reversed : goal.returns-clause-reversed
unfolding reversed name_cmp
returns-clause-reversed c = refl

pub returns-clause-nodes_given : goal.returns-clause-nodes_given
unfolding nodes_given name_cmp
returns-clause-nodes_given c = (refl, refl, refl)

pub returns-clause-members_given : goal.returns-clause-members_given
unfolding members_given name_cmp
returns-clause-members_given c = (refl, refl, refl)

pub returns-clause-deleted : goal.returns-clause-deleted
unfolding deleted name_cmp
returns-clause-deleted c = (refl, refl, refl)

pub returns-clause-purged : goal.returns-clause-purged
unfolding purged name_cmp
returns-clause-purged c = (refl, refl, refl)

pub returns-clause-split : goal.returns-clause-split
unfolding split name_cmp
returns-clause-split c = (refl, refl)

pub returns-clause-joined : goal.returns-clause-joined
unfolding joined name_cmp
returns-clause-joined c = (refl, refl)

pub returns-clause-merged : goal.returns-clause-merged
unfolding merged name_cmp
returns-clause-merged c = (refl, refl, refl)

pub returns-clause-unglued : goal.returns-clause-unglued
unfolding unglued name_cmp
returns-clause-unglued c = (refl, (refl, refl, refl))

pub returns-clause-ceased : goal.returns-clause-ceased
unfolding ceased name_cmp
returns-clause-ceased c = (refl, refl, refl)

pub returns-clause-by_parts : goal.returns-clause-by_parts
unfolding by_parts name_cmp
returns-clause-by_parts c = (refl, refl, refl, refl, refl)

pub returns-clause-readers : goal.returns-clause-readers
unfolding readers name_cmp
returns-clause-readers c = (refl, refl, refl, refl, refl, refl)
