-- The words that proofs of this crate and the crates above cite, passed on from one place. It declares nothing.
pub use Rattle.osm_drafts.specs.Prelude.{AllByRecursion, AreChanges, AreChanges-row_changes, AreChanges-two_rows, AreFrom, AreInOrder-with_row, AreLists, DiffersFromLast, Gains, IsFiltered, IsPartitionPoint, IsRising-cell_set, IsRising-name_set, Lacks, Loses, SameLists, StoreState, among_rows, applied_to, are_same_halves, are_same_members, are_same_names, are_same_tags, bare_rows, both_at, cell_cmp, cell_cmp-IsAntisymmetric, cell_cmp_total, cell_of, cell_set, cells-differences, cells_of, change_at, changed-differences, changed-inverse, changed_cells, changed_names, changed_row, changed_rows, contains_by, counted, covering, dedup, deleted, differences, differing, eq_by_cmp_equiv, equal_row, found_passes, half, half_at, half_change, half_in, has-append, has-cell_set, insert_key, inverse, is_among-passing, is_of_length, is_same_cell, is_same_cell-itself, is_same_row, is_sound, is_sound_row, kept, less, most_members, most_nodes, names_but, none_passes, not_differing, option_eq, passes_at, references, refers_to, rest_at, rest_of, rising_names, row_after, row_at-changed, row_at-with_row, row_changes, row_references, rows_changes, rows_covering, same_as_cell_set, same_cells, same_itself, same_presence, same_texts, same_whole, sorted_is_name_set, sound_in_order, sound_row, table_of, tags_at, tags_itself, tags_rest, there_by_half, users, users_in, users_in-table_of, with_row}
pub use Rattle.room_interface.specs.Prelude.{AreGiven, AreInOrder, AreInOrder-put_row, AreInOrder-rows_but, AreNodes, AreTagRows, Equal, GivenTags, Greater, IsAntisymmetric, Less, Pairs, Rows, alone, are_made, are_made-one, are_members, are_nodes, are_of_kinds, are_tags, at_position, below_all, below_less, both, both_true, each_key, find, find-put, find-where_key, find_below, first, first_true, given_pair, int_cmp-IsAntisymmetric, int_eq, is_absent, is_among, is_among-append, is_among-name_set, is_eq, is_eq-name_cmp_itself, is_group_length, is_kind, is_long, is_lt, is_made, is_made_action, is_made_edit, is_node, is_none_or, is_present, is_same, is_same_author, is_same_text, is_short, is_sorted, is_sorted-put, is_sorted-where_key, is_tag, kind_of, kind_rank, latitude, least, length-put, lesser, list_all, list_any, longer-put, longitude, match_ordering, member_pair, name_cmp, name_cmp_is, name_eq_is, name_set, named, names_of, nat_cmp, nat_cmp-IsAntisymmetric, not_over_1000, ord_min, ordering_reverse, ordering_then, put, put_row, row_at, row_at-put_row, row_at-rows_but, rows_but, same, same_either_way, same_entries, same_names, same_rows, second, second_true, sorted_rows, tag_pair, tags_of, text_cmp, text_total, thousand_tags, tied_itself, value_at, value_within, w64, with_name, without_key}
pub use Rattle.std.specs.Bool.{then_some}
pub use Rattle.std.specs.Cmp.Lexicographic.{nat_list_cmp_total}
pub use Rattle.std.specs.FinMap.{slice_cmp-IsAntisymmetric}
pub use Rattle.std.specs.List.{dedup_from, last_or}
pub use Rattle.std.specs.Option.{option_or}
pub use Rattle.edit_simple.specs.Checks.{first_that_holds, the_least}
pub use Rattle.edit_simple.specs.Contents.{at_name, each_row, members_of, nodes_of, row_tags, with_members, with_nodes, with_tags}
pub use Rattle.edit_simple.specs.Create.{after_create, create_checks, is_missing}
pub use Rattle.edit_simple.specs.Delete.{after_delete, delete_checks}
pub use Rattle.edit_simple.specs.Facts.ChangesInTurn.{one_fits}
pub use Rattle.edit_simple.specs.Facts.Checked.{Nones, err_result, err_same, first_stays, from_false, named_if_first, named_if_none, no_least, nones, not_so, rest_decides}
pub use Rattle.edit_simple.specs.Facts.Creating.{create_accepted}
pub use Rattle.edit_simple.specs.Facts.Deleting.{delete_accepted, names_of_none}
pub use Rattle.edit_simple.specs.Facts.Differences.{one_rewritten}
pub use Rattle.edit_simple.specs.Facts.EachRow.{AreInOrder-each_row, row_at-each_row}
pub use Rattle.edit_simple.specs.Facts.FirstUsers.{first_is_least, min_below}
pub use Rattle.edit_simple.specs.Facts.Kinds.{node_there, relation_there, sound_kind, told_kind, told_node, told_way, way_there}
pub use Rattle.edit_simple.specs.Facts.LeastNames.{filter_more, least_passed, least_passed_by, least_taken, least_taken_by, min_assoc}
pub use Rattle.edit_simple.specs.Facts.Lists.{all_from, all_listed, at_least, drop_at, is_among_own, none_left, or_left, or_right, second_false}
pub use Rattle.edit_simple.specs.Facts.Moving.{elsewhere, move_accepted}
pub use Rattle.edit_simple.specs.Facts.Purging.{is_gone, purge_accepted, purge_sound, row_at-after_purge, shorter, without_none, x_goes}
pub use Rattle.edit_simple.specs.Facts.Relisting.{all_present, members_accepted, nodes_accepted, reverse_accepted, same_members_itself, same_nodes_itself}
pub use Rattle.edit_simple.specs.Facts.Retagging.{fine_tagged, is_there, made_tags, retag_accepted, same_tags_itself, sorted_tagged, tags_all, tags_from, tags_of-with_tags, tags_put, tags_sorted}
pub use Rattle.edit_simple.specs.Facts.Rewriting.{Fine, Rewrites, at_one, differ_at, fine, fine_in, rewritten, stays_sound, still_there}
pub use Rattle.edit_simple.specs.Facts.Soundness.{AreSound, all_sound, first_unsound, sound_kinds, sound_one_more, unsound_map}
pub use Rattle.edit_simple.specs.Kinds.{is_relation, is_way}
pub use Rattle.edit_simple.specs.Members.{after_members, members_checks}
pub use Rattle.edit_simple.specs.Move.{after_move, is_moved, is_out_of_range, left_range, move_checks, moved_by, moves}
pub use Rattle.edit_simple.specs.Nodes.{after_nodes, nodes_checks}
pub use Rattle.edit_simple.specs.Passing.{passed}
pub use Rattle.edit_simple.specs.Plans.{IsNamed, IsPlan}
pub use Rattle.edit_simple.specs.Purge.{after_purge, falls_short, goes, purge_checks, what_is_left, without}
pub use Rattle.edit_simple.specs.Retag.{after_retag, retag_checks}
pub use Rattle.edit_simple.specs.Reverse.{after_reverse, reverse_checks}
pub use Rattle.edit_simple.specs.Scenes.{Any, n-1, n-2, n-3, n-7, n-8, n5, node_at, outer, r1, r9, refused, relation_of, start, w1, w2, w3, w5, way_of, x}
pub use Rattle.edit_simple.specs.Soundness.{IsFirstUnsound}
pub use Rattle.edit_simple.specs.Tagging.{most_tags, retagged, tagged}
pub use Rattle.osm_changes.specs.declared.change.Change.{Change}
pub use Rattle.osm_elements.specs.declared.element.Element.{Element}
pub use Rattle.osm_elements.specs.declared.element.Element.TheVariants.{Node, Relation, Way}
pub use Rattle.osm_elements.specs.declared.fault.TextFault.{TextFault}
pub use Rattle.osm_elements.specs.declared.keyed.Keyed.{Keyed}
pub use Rattle.osm_elements.specs.declared.member.Member.{Member}
pub use Rattle.osm_elements.specs.declared.name.Name.{Name}
pub use Rattle.room_interface.specs.declared.refusal.Refusal.{Refusal}
pub use Rattle.room_interface.specs.declared.refusal.Refusal.TheVariants.{Absent, InUse, Memory, Nothing, OutOfRange, Present, TooFew, TooMany, WrongKind}
