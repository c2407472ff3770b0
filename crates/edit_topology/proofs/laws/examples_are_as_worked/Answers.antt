-- Each holds by evaluation.
use Rattle.std.proofs.Common.{refl}
use Rattle.osm_elements.specs.NameOrder.{name_cmp}
use Rattle.edit_topology.specs.Examples.{closed_way_split, members_split, split_refusals, ends_joined, members_joined, tags_joined, join_refusals, neighbours_merged, doubles_merged, members_merged, tags_merged, merge_refusals, map_unglued, closed_way_unglued, doubles_unglued, node_copied, unglue_refusals}
use Rattle.edit_topology.proofs.laws.examples_are_as_worked.Goals as goal

pub returns-clause-closed_way_split : goal.returns-clause-closed_way_split
unfolding closed_way_split name_cmp
returns-clause-closed_way_split c = (refl, refl, refl, refl, refl, refl, refl, refl, refl)

pub returns-clause-members_split : goal.returns-clause-members_split
unfolding members_split name_cmp
returns-clause-members_split c = (refl, refl, refl, refl, refl)

pub returns-clause-split_refusals : goal.returns-clause-split_refusals
unfolding split_refusals name_cmp
returns-clause-split_refusals c = (refl, refl, refl, refl, refl, refl, refl, refl, refl, refl)

pub returns-clause-ends_joined : goal.returns-clause-ends_joined
unfolding ends_joined name_cmp
returns-clause-ends_joined c = (refl, refl, refl, refl, refl, refl, refl, refl, refl)

pub returns-clause-members_joined : goal.returns-clause-members_joined
unfolding members_joined name_cmp
returns-clause-members_joined c = (refl, refl, refl, refl, refl, refl)

pub returns-clause-tags_joined : goal.returns-clause-tags_joined
unfolding tags_joined name_cmp
returns-clause-tags_joined c = (refl, refl, refl, refl, refl, refl, refl)

pub returns-clause-join_refusals : goal.returns-clause-join_refusals
unfolding join_refusals name_cmp
returns-clause-join_refusals c = (refl, refl, refl, refl, refl, refl, refl, refl, refl, refl, refl)

pub returns-clause-neighbours_merged : goal.returns-clause-neighbours_merged
unfolding neighbours_merged name_cmp
returns-clause-neighbours_merged c = (refl, refl, refl, refl, refl, refl, refl, refl, refl)

pub returns-clause-doubles_merged : goal.returns-clause-doubles_merged
unfolding doubles_merged name_cmp
returns-clause-doubles_merged c = (refl, refl, refl, refl)

pub returns-clause-members_merged : goal.returns-clause-members_merged
unfolding members_merged name_cmp
returns-clause-members_merged c = (refl, refl)

pub returns-clause-tags_merged : goal.returns-clause-tags_merged
unfolding tags_merged name_cmp
returns-clause-tags_merged c = (refl, refl, refl, refl, refl, refl)

pub returns-clause-merge_refusals : goal.returns-clause-merge_refusals
unfolding merge_refusals name_cmp
returns-clause-merge_refusals c = (refl, refl, refl, refl, refl, refl, refl, refl, refl, refl)

pub returns-clause-map_unglued : goal.returns-clause-map_unglued
unfolding map_unglued name_cmp
returns-clause-map_unglued c = (refl, refl)

pub returns-clause-closed_way_unglued : goal.returns-clause-closed_way_unglued
unfolding closed_way_unglued name_cmp
returns-clause-closed_way_unglued c = (refl, refl, refl, refl, refl, refl, refl)

pub returns-clause-doubles_unglued : goal.returns-clause-doubles_unglued
unfolding doubles_unglued name_cmp
returns-clause-doubles_unglued c = (refl, refl, refl)

pub returns-clause-node_copied : goal.returns-clause-node_copied
unfolding node_copied name_cmp
returns-clause-node_copied c = (refl, refl, refl, refl, refl, refl)

pub returns-clause-unglue_refusals : goal.returns-clause-unglue_refusals
unfolding unglue_refusals name_cmp
returns-clause-unglue_refusals c = (refl, refl, refl, refl, refl, refl)
