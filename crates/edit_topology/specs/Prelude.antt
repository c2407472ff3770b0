-- The words that proofs of this crate and the crates above cite, passed on from one place. It declares nothing.
pub use Rattle.edit_simple.specs.Prelude.{AllByRecursion, Any, AreChanges, AreChanges-row_changes, AreChanges-two_rows, AreFrom, AreInOrder, AreInOrder-each_row, AreInOrder-put_row, AreInOrder-rows_but, AreInOrder-with_row, AreLists, AreNodes, AreTagRows, DiffersFromLast, Equal, Gains, GivenTags, Greater, IsFiltered, IsFirstUnsound, IsNamed, IsPartitionPoint, IsPlan, IsRising-cell_set, IsRising-name_set, Lacks, Less, Loses, Pairs, Rows, SameLists, StoreState, after_create, after_delete, after_members, after_move, after_nodes, after_purge, after_retag, after_reverse, all_listed, all_present, alone, among_rows, applied_to, are_made, are_made-one, are_of_kinds, are_same_halves, are_same_tags, at_name, at_position, bare_rows, below_all, below_less, both_at, cell_cmp, cell_cmp-IsAntisymmetric, cell_cmp_total, cell_of, cell_set, cells-differences, cells_of, change_at, changed-differences, changed-inverse, changed_cells, changed_names, changed_row, changed_rows, counted, covering, create_accepted, create_checks, dedup, delete_accepted, delete_checks, differences, differing, drop_at, each_key, each_row, elsewhere, eq_by_cmp_equiv, equal_row, err_result, err_same, falls_short, find, find-put, fine, first, first_is_least, first_stays, first_that_holds, first_true, from_false, goes, half, half_at, half_change, half_in, has-append, has-cell_set, int_eq, inverse, is_absent, is_among, is_among-append, is_among-name_set, is_among-passing, is_among_own, is_eq, is_eq-name_cmp_itself, is_gone, is_group_length, is_lt, is_made_action, is_made_edit, is_missing, is_moved, is_node, is_of_length, is_out_of_range, is_present, is_relation, is_same, is_same_author, is_same_cell, is_same_cell-itself, is_same_row, is_same_text, is_short, is_sorted, is_sorted-put, is_sorted-where_key, is_sound, is_sound_row, is_there, is_way, kept, kind_rank, least, left_range, length-put, less, list_all, list_any, longer-put, member_pair, members_accepted, members_checks, members_of, most_members, most_nodes, most_tags, move_accepted, move_checks, moved_by, moves, n-1, n-2, n-3, n-7, n5, name_cmp, name_cmp_is, name_eq_is, name_set, named, named_if_first, named_if_none, names_but, names_of, nat_cmp, nat_cmp-IsAntisymmetric, nat_list_cmp_total, no_least, node_at, node_there, nodes_accepted, nodes_checks, nodes_of, none_left, nones, not_differing, not_over_1000, not_so, one_fits, one_rewritten, option_eq, or_left, or_right, ordering_reverse, ordering_then, outer, passed, passes_at, purge_accepted, purge_checks, purge_sound, put, put_row, r1, r9, references, refers_to, relation_of, relation_there, rest_at, rest_decides, rest_of, retag_accepted, retag_checks, retagged, reverse_accepted, reverse_checks, rising_names, row_after, row_at, row_at-after_purge, row_at-changed, row_at-each_row, row_at-put_row, row_at-rows_but, row_at-with_row, row_changes, row_references, row_tags, rows_but, rows_changes, rows_covering, same_as_cell_set, same_cells, same_either_way, same_entries, same_itself, same_names, same_presence, same_rows, same_texts, same_whole, second, second_false, second_true, slice_cmp-IsAntisymmetric, sorted_is_name_set, sound_in_order, sound_kinds, sound_row, start, tag_pair, tags_at, tags_itself, tags_of, tags_of-with_tags, tags_rest, tags_sorted, text_cmp, the_least, then_some, there_by_half, tied_itself, told_kind, told_node, told_way, unsound_map, users, value_at, w1, w2, w3, w5, way_of, way_there, what_is_left, with_members, with_nodes, with_row, with_tags, without, without_none, x, x_goes}
pub use Rattle.std.specs.List.{dedup_from, last_or}
pub use Rattle.std.specs.Option.{option_or}
pub use Rattle.std.specs.declared.alloc.AllocError.{AllocError}
pub use Rattle.edit_topology.specs.BothTags.{HasTwo, both_tags, conflict}
pub use Rattle.edit_topology.specs.Facts.BothTags.{are_tags-row_tags, later, same_keys, same_text_itself}
pub use Rattle.edit_topology.specs.Facts.Changing.{join_changes, merge_changes, split_changes, unglue_changes}
pub use Rattle.edit_topology.specs.Facts.EachBut.{row_at-each_but}
pub use Rattle.edit_topology.specs.Facts.Fitting.{none_named, way_fits}
pub use Rattle.edit_topology.specs.Facts.Joining.{Joins, join_accepted, joins}
pub use Rattle.edit_topology.specs.Facts.Lists.{or_first, or_second}
pub use Rattle.edit_topology.specs.Facts.Merging.{Merges, merge_accepted, merges}
pub use Rattle.edit_topology.specs.Facts.Refusing.{overfull_are_users}
pub use Rattle.edit_topology.specs.Facts.Splitting.{Splits, row_at-after_split, split_accepted, splits}
pub use Rattle.edit_topology.specs.Facts.Staying.{join_leaves, merge_leaves, split_leaves, unglue_leaves}
pub use Rattle.edit_topology.specs.Facts.TagValues.{no_key_has_two}
pub use Rattle.edit_topology.specs.Facts.Ungluing.{AreInOrder-after_unglue, Unglues, new_row, not_new, row_at-after_unglue, row_standing_is, standing, unglue_accepted, unglue_row, unglues, way_after}
pub use Rattle.edit_topology.specs.Join.{after_join, end_to_end, join_checks, join_row, joined_members, kept_members, lengthened, meet_end_to_end}
pub use Rattle.edit_topology.specs.Merge.{after_merge, merge_checks, merge_row, merged_nodes, shrunk, united}
pub use Rattle.edit_topology.specs.Renaming.{renamed, renamed_members}
pub use Rattle.edit_topology.specs.Scenes.{a1, beside, nodes_tagged}
pub use Rattle.edit_topology.specs.Split.{after_split, is_inside, overfull, split_checks, split_members, split_off, split_row}
pub use Rattle.edit_topology.specs.Unglue.{after_unglue, row_standing, unglue_checks}
pub use Rattle.osm_changes.specs.declared.change.Change.{Change}
pub use Rattle.osm_elements.specs.declared.element.Element.{Element}
pub use Rattle.osm_elements.specs.declared.element.Element.TheVariants.{Node, Relation, Way}
pub use Rattle.osm_elements.specs.declared.fault.TextFault.{TextFault}
pub use Rattle.osm_elements.specs.declared.keyed.Keyed.{Keyed}
pub use Rattle.osm_elements.specs.declared.member.Member.{Member}
pub use Rattle.osm_elements.specs.declared.name.Name.{Name}
pub use Rattle.room_interface.specs.declared.refusal.Refusal.{Refusal}
pub use Rattle.room_interface.specs.declared.refusal.Refusal.TheVariants.{Absent, BadPosition, Memory, Present, TagConflict, TooFew, TooMany, WrongKind}
