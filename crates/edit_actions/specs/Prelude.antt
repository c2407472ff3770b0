-- The words that proofs of this crate and the crates above cite, passed on from one place. It declares nothing.
pub use Rattle.edit_topology.specs.Prelude.{AllByRecursion, AllocError, Any, AreChanges, AreFrom, AreInOrder, AreInOrder-with_row, AreLists, DiffersFromLast, Equal, Gains, GivenTags, Greater, IsFiltered, IsFirstUnsound, IsPartitionPoint, IsPlan, IsRising-cell_set, IsRising-name_set, Lacks, Less, Loses, Pairs, Rows, SameLists, StoreState, Unglues, a1, after_join, after_merge, after_move, after_purge, after_retag, after_split, after_unglue, all_present, alone, among_rows, applied_to, are_made, are_made-one, are_of_kinds, are_same_halves, are_same_tags, at_name, at_position, bare_rows, below_all, below_less, beside, both_at, both_tags, cell_cmp, cell_cmp-IsAntisymmetric, cell_cmp_total, cell_of, cell_set, cells-differences, cells_of, change_at, changed-differences, changed-inverse, changed_cells, changed_names, changed_row, changed_rows, counted, covering, dedup, differences, differing, drop_at, elsewhere, end_to_end, eq_by_cmp_equiv, equal_row, falls_short, find, fine, first_that_holds, first_true, from_false, goes, half, half_at, half_change, has-append, has-cell_set, int_eq, inverse, is_absent, is_among, is_among-append, is_among-name_set, is_among-passing, is_among_own, is_eq, is_eq-name_cmp_itself, is_gone, is_group_length, is_lt, is_made_action, is_made_edit, is_missing, is_moved, is_node, is_of_length, is_out_of_range, is_present, is_relation, is_same, is_same_author, is_same_cell, is_same_cell-itself, is_same_row, is_sound, is_sound_row, is_there, is_way, join_changes, join_leaves, join_row, joined_members, kept, left_range, lengthened, less, list_any, member_pair, members_of, merge_changes, merge_leaves, merge_row, merged_nodes, merges, most_members, move_checks, moved_by, moves, n-1, n-2, n-3, n-7, n5, name_cmp, name_cmp_is, name_eq_is, name_set, named, names_but, names_of, nat_cmp, nat_cmp-IsAntisymmetric, no_least, node_at, node_there, nodes_of, nodes_tagged, none_left, none_named, nones, not_differing, not_new, not_so, one_fits, one_rewritten, option_or, or_right, ordering_reverse, outer, overfull, overfull_are_users, passes_at, purge_sound, put_row, r1, r9, references, refers_to, relation_of, relation_there, renamed_members, rest_at, rest_of, retag_checks, rising_names, row_after, row_at, row_at-after_purge, row_at-after_split, row_at-after_unglue, row_at-changed, row_at-each_but, row_at-each_row, row_at-put_row, row_at-rows_but, row_at-with_row, row_changes, row_references, row_standing, row_standing_is, row_tags, rows_changes, same_as_cell_set, same_cells, same_either_way, same_itself, same_presence, same_rows, same_text_itself, same_texts, same_whole, second_false, shrunk, sorted_is_name_set, sound_in_order, sound_kinds, sound_row, split_changes, split_leaves, split_members, split_off, split_row, splits, start, tags_at, tags_itself, tags_of, tags_of-with_tags, tags_rest, then_some, there_by_half, told_kind, told_node, unglue_changes, unglue_leaves, unglue_row, unglues, united, unsound_map, users, w1, w2, w3, way_of, way_there, what_is_left, with_members, with_nodes, with_row, with_tags, without, without_none, x, x_goes}
pub use Rattle.std.specs.Cmp.{Equal-is, nat_cmp_is}
pub use Rattle.edit_actions.specs.After.{after, changes}
pub use Rattle.edit_actions.specs.Facts.Accepted.{AreInOrder-after, accepted_keeps_sound, changes_lead}
pub use Rattle.edit_actions.specs.Refusals.{checks, refusal}
pub use Rattle.osm_changes.specs.declared.change.Change.{Change}
pub use Rattle.osm_changes.specs.declared.part.Part.TheVariants.{Rest, Tags}
pub use Rattle.osm_elements.specs.declared.element.Element.{Element}
pub use Rattle.osm_elements.specs.declared.element.Element.TheVariants.{Node, Relation, Way}
pub use Rattle.osm_elements.specs.declared.name.Name.{Name}
pub use Rattle.room_interface.specs.declared.action.Action.{Action}
pub use Rattle.room_interface.specs.declared.action.Action.TheVariants.{Move}
pub use Rattle.room_interface.specs.declared.refusal.Refusal.{Refusal}
pub use Rattle.room_interface.specs.declared.refusal.Refusal.TheVariants.{Absent, Nothing}
