-- The words that proofs of this crate and the crates above cite, passed on from one place. It declares nothing.
pub use Rattle.osm_changes.specs.Prelude.{AllByRecursion, AreChanges, AreChanges-row_changes, AreChanges-two_rows, AreFrom, AreInOrder, AreInOrder-put_row, AreInOrder-rows_but, AreInOrder-with_row, AreLists, AreNodes, DiffersFromLast, Equal, Gains, Greater, IsFiltered, IsPartitionPoint, IsRising, IsRising-cell_set, IsRising-name_set, Lacks, Less, Loses, Ordering, Pairs, Rows, SameLists, StoreState, Table, among_rows, applied_to, are_members, are_nodes, are_of_kinds, are_same_halves, are_same_members, are_same_names, are_same_tags, are_tags, bare_rows, below_all, below_less, both_at, both_true, cell_cmp, cell_cmp-IsAntisymmetric, cell_cmp_total, cell_of, cell_set, cells-differences, cells_of, change_at, changed, changed-differences, changed-inverse, changed_cells, changed_names, changed_row, changed_rows, counted, covering, dedup, deleted, differences, differences-rows, differing, differing_are, each_row-filter, each_row-put, eq_by_cmp_equiv, equal_row, find-where_key, find_below, first, first_true, found_passes, half, half_at, half_change, half_in, has, has-append, has-cell_set, int_cmp, int_cmp-IsAntisymmetric, int_eq, into_iter_items, inverse, is_absent, is_among, is_among-append, is_among-name_set, is_among-passing, is_eq, is_eq-name_cmp_itself, is_kind, is_long, is_lt, is_made, is_node, is_of_length, is_present, is_same, is_same_cell, is_same_cell-itself, is_same_row, is_short, is_sorted, is_sorted-put, is_sorted-where_key, is_sound, is_sound_row, is_tag, is_true, kept, kind_of, later_differs, latitude, least, lesser, list_all, list_any, longitude, member_pair, most_members, most_nodes, name_cmp, name_cmp-IsAntisymmetric, name_cmp_is, name_cmp_total, name_set, names_but, names_of, next_name_fits, none_passes, not_differing, nothing_left, option_eq, ord_min, ordering_reverse, passes, passes_at, put, put_row, reference_change, references, references_at, referring, refers_to, rest_at, rest_of, rising_names, row_after, row_at, row_at-changed, row_at-put_row, row_at-rows_but, row_at-with_row, row_at_is_find, row_changes, row_references, rows_but, rows_changes, rows_covering, same, same_as_cell_set, same_cells, same_element, same_itself, same_names, same_presence, same_row, same_rows, same_texts, same_whole, second, second_true, sorted_is_name_set, sorted_rows, sound_from_rows, sound_in_order, sound_row, table_of, tags_at, tags_itself, tags_of, tags_rest, text_cmp, there_by_half, tied_itself, users, users_in, users_in-table_of, with_changed_rows, with_row, without_row_is_filter}
pub use Rattle.rising_lists.specs.Facts.Sorted.{less}
pub use Rattle.std.specs.BTreeSet.{contains_by, insert_key}
pub use Rattle.std.specs.Bool.{then_some}
pub use Rattle.std.specs.Cmp.Lexicographic.{nat_list_cmp_total}
pub use Rattle.osm_drafts.specs.Drafts.{drafted, unwritten}
pub use Rattle.osm_drafts.specs.Facts.Drafting.{AreInside, among_inserted, among_unwritten, begun_is_new, drafted_itself, drafted_with, is_draft_with, row_unwritten, row_written, users-drafted, users_changed}
pub use Rattle.osm_elements.specs.declared.name.Name.{Name}
