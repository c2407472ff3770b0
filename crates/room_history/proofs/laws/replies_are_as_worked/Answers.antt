-- Each holds by evaluation.
use Rattle.std.proofs.Common.{refl}
use Rattle.std.specs.Str.{chars}
use Rattle.osm_elements.specs.NameOrder.{name_cmp}
use Rattle.osm_elements.specs.Texts.{is_long}
use Rattle.room_history.specs.Examples.{first_run, range_ends, limit_one, limit_zero, strangers, in_use, taken_back_way, refusals_in_turn, relations_in_turn, redo_at_once, redo_refused, redo_order, redo_again, unglued_node, blocker_goes_by_parts, both_moved, two_blockers_by_parts, split_over_retag, over_one_node, drawn_as_one, joined_street, seen_since}
use Rattle.room_history.proofs.laws.replies_are_as_worked.Goals as goal

pub returns-clause-first_run : goal.returns-clause-first_run
unfolding first_run name_cmp
returns-clause-first_run c = (refl, refl)

pub returns-clause-range_ends : goal.returns-clause-range_ends
unfolding range_ends name_cmp
returns-clause-range_ends c = (refl, refl)

pub returns-clause-limit_one : goal.returns-clause-limit_one
unfolding limit_one name_cmp
returns-clause-limit_one c = refl

pub returns-clause-limit_zero : goal.returns-clause-limit_zero
unfolding limit_zero name_cmp
returns-clause-limit_zero c = refl

pub returns-clause-strangers : goal.returns-clause-strangers
unfolding strangers name_cmp
returns-clause-strangers c = (refl, refl, refl)

pub returns-clause-in_use : goal.returns-clause-in_use
unfolding in_use name_cmp
returns-clause-in_use c = (refl, refl)

pub returns-clause-taken_back_way : goal.returns-clause-taken_back_way
unfolding taken_back_way name_cmp
returns-clause-taken_back_way c = (refl, refl)

pub returns-clause-refusals_in_turn : goal.returns-clause-refusals_in_turn
unfolding refusals_in_turn name_cmp
returns-clause-refusals_in_turn c = (refl, refl, refl, refl)

pub returns-clause-relations_in_turn : goal.returns-clause-relations_in_turn
unfolding relations_in_turn name_cmp is_long chars
returns-clause-relations_in_turn c = (refl, refl, refl, refl)

pub returns-clause-redo_at_once : goal.returns-clause-redo_at_once
unfolding redo_at_once name_cmp
returns-clause-redo_at_once c = (refl, refl, refl, refl)

pub returns-clause-redo_refused : goal.returns-clause-redo_refused
unfolding redo_refused name_cmp
returns-clause-redo_refused c = (refl, refl, refl, refl, refl)

pub returns-clause-redo_order : goal.returns-clause-redo_order
unfolding redo_order name_cmp
returns-clause-redo_order c = (refl, refl, refl, refl, refl)

pub returns-clause-redo_again : goal.returns-clause-redo_again
unfolding redo_again name_cmp
returns-clause-redo_again c = (refl, refl, refl, refl)

pub returns-clause-unglued_node : goal.returns-clause-unglued_node
unfolding unglued_node name_cmp
returns-clause-unglued_node c = (refl, refl, refl, refl)

pub returns-clause-blocker_goes_by_parts : goal.returns-clause-blocker_goes_by_parts
unfolding blocker_goes_by_parts name_cmp
returns-clause-blocker_goes_by_parts c = (refl, refl, refl, refl)

pub returns-clause-both_moved : goal.returns-clause-both_moved
unfolding both_moved name_cmp
returns-clause-both_moved c = (refl, refl)

pub returns-clause-two_blockers_by_parts : goal.returns-clause-two_blockers_by_parts
unfolding two_blockers_by_parts name_cmp
returns-clause-two_blockers_by_parts c = refl

pub returns-clause-split_over_retag : goal.returns-clause-split_over_retag
unfolding split_over_retag name_cmp
returns-clause-split_over_retag c = (refl, refl)

pub returns-clause-over_one_node : goal.returns-clause-over_one_node
unfolding over_one_node name_cmp
returns-clause-over_one_node c = refl

pub returns-clause-drawn_as_one : goal.returns-clause-drawn_as_one
unfolding drawn_as_one name_cmp
returns-clause-drawn_as_one c = (refl, refl, refl)

pub returns-clause-joined_street : goal.returns-clause-joined_street
unfolding joined_street name_cmp
returns-clause-joined_street c = refl

pub returns-clause-seen_since : goal.returns-clause-seen_since
unfolding seen_since name_cmp
returns-clause-seen_since c = refl
