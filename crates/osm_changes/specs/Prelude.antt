-- The words that proofs of this crate and the crates above cite, passed on from one place. It declares nothing.
pub use Rattle.osm_refs.specs.Prelude.{AllByRecursion, AllWithin, AreInOrder, AreInOrder-put_all, AreInOrder-put_row, AreInOrder-rows_but, AreLists, AreNodes, DiffersFromLast, Equal, Gains, Greater, IsBinarySearchResult, IsFiltered, IsNonDecreasingBy, IsRising-name_set, IsTable-table_of, IsTable-updated_all, Lacks, Less, Loses, Note, Ordering, Pairs, Rows, SameLists, Table, after_is, are_members, are_nodes, are_of_kinds, are_rising, are_tags, bare_rows, becomes_at, before_is, below_all, below_less, both_true, dedup, each_row-filter, each_row-put, eq_by_cmp_equiv, find-where_key, find_below, first, first_true, gained, has_none, int_cmp, int_cmp-IsAntisymmetric, int_cmp_is, int_eq, into_iter_items, is_absent, is_among, is_among-append, is_among-name_set, is_among-passing, is_eq, is_eq-name_cmp_itself, is_kind, is_long, is_lt, is_made, is_node, is_present, is_same, is_short, is_sorted, is_sorted-put, is_sorted-where_key, is_tag, is_true, kind_eq_is, kind_of, kind_order_is, kind_rank, later_differs, latitude, least, lesser, list_all, list_any, listed, longitude, match_ordering, member_pair, name_cmp, name_cmp-IsAntisymmetric, name_cmp_is, name_cmp_total, name_eq_is, name_set, names_but, names_of, nat_cmp, new_names, not_yet_put, noted, nothing_left, or_else, or_none, ord_min, ordering_index, ordering_reverse, ordering_then, passes, pointwise, put, put_all, put_all_is, put_row, reference_change, references, references_at, references_at-table_of, references_at-updated_all, referring, refers_to, row_at, row_at-put_all, row_at-put_row, row_at-rows_but, row_at_is_find, row_references, rows_but, same, same_as_name_set, same_name, same_names, same_rows, same_tables, second, second_true, sorted_is_name_set, sorted_rows, table_of, table_of-put_row, table_of-rows_but, tag_pair, tags_of, text_cmp, tied_itself, untouched, users, users_in, users_in-table_of, w64, without_row, without_row_is_filter}
pub use Rattle.rising_lists.specs.Facts.Searching.{gap_at, search_tells}
pub use Rattle.rising_lists.specs.Facts.Sorted.{less}
pub use Rattle.rising_lists.specs.Rising.{but}
pub use Rattle.std.specs.BTreeSet.{insert_key}
pub use Rattle.std.specs.List.Sorted.{IsPartitionPoint}
pub use Rattle.std.specs.Option.{option_eq}
pub use Rattle.osm_changes.specs.Cells.{Cell, IsRising, both_at, cell_cmp, cell_set, cells_of, half_at, has, is_same_cell, part_rank, rest_at, tags_at}
pub use Rattle.osm_changes.specs.Changes.{AreChanges, AreFrom, cell_of, change_at, changed, changed_cells, changed_names, changed_row, changed_rows, changes_of, differences, differing, differs, half_after, half_change, inverse, row_after, row_changes, rows_changes, taken_back, with_row}
pub use Rattle.osm_changes.specs.Facts.Cells.{IsRising-cell_set, cell_cmp-IsAntisymmetric, cell_cmp_total, has-append, has-cell_set, is_same_cell-itself, rest_rest, same_as_cell_set, same_cells, same_either_way, same_rising, tags_rest}
pub use Rattle.osm_changes.specs.Facts.Changing.{AreInOrder-changed, AreInOrder-with_row, IsRising-differing, cells-differences, changed-differences, changed-inverse, half_after-differences, has-differing, kept, not_differing, row_at-changed, row_at-with_row, with_changed_rows, with_rows_after}
pub use Rattle.osm_changes.specs.Facts.Differing.{deleted}
pub use Rattle.osm_changes.specs.Facts.DifferingRows.{covering, differing_are, rows_covering}
pub use Rattle.osm_changes.specs.Facts.Halves.{equal_halves, row_of-halves, same_itself, same_presence, same_whole, there_by_half}
pub use Rattle.osm_changes.specs.Facts.PassingRows.{among_rows, passes_at, rising_names}
pub use Rattle.osm_changes.specs.Facts.RowChanges.{AreChanges-row_changes, AreChanges-rows_changes, AreChanges-two_rows, differences-all_rows, differences-rows, more-all, next_fits, next_name_fits}
pub use Rattle.osm_changes.specs.Facts.SameElements.{equal_row, same_element, same_row, same_texts, tags_itself}
pub use Rattle.osm_changes.specs.Facts.SoundRows.{found_passes, none_passes, sound_from_rows, sound_in_order, sound_row}
pub use Rattle.osm_changes.specs.Halves.{are_same_halves, half, half_in, rest_of, row_of}
pub use Rattle.osm_changes.specs.SameRows.{are_same_members, are_same_names, are_same_tags, is_same_row}
pub use Rattle.osm_changes.specs.Sound.{is_of_length, is_sound, is_sound_row, most_members, most_nodes}
pub use Rattle.osm_changes.specs.Stores.{StoreState, applied_to, counted}
pub use Rattle.osm_changes.specs.declared.change.Change.{Change}
pub use Rattle.osm_changes.specs.declared.changed_row.ChangedRow.{ChangedRow}
pub use Rattle.osm_changes.specs.declared.half.Half.{Half}
pub use Rattle.osm_changes.specs.declared.part.Part.{Part}
pub use Rattle.osm_changes.specs.declared.part.Part.TheVariants.{Rest, Tags}
pub use Rattle.osm_changes.specs.declared.row_after.RowAfter.{RowAfter}
pub use Rattle.osm_elements.specs.declared.element.Element.{Element}
pub use Rattle.osm_elements.specs.declared.name.Kind.{Kind}
pub use Rattle.osm_elements.specs.declared.name.Name.{Name}
pub use Rattle.osm_refs.specs.declared.change.ReferenceChange.{ReferenceChange}
