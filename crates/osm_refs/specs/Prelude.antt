-- The words that proofs of this crate and the crates above cite, passed on from one place. It declares nothing.
pub use Rattle.osm_elements.specs.Prelude.{AllWithin, Any, AreInOrder, AreInOrder-put_all, AreInOrder-put_row, AreInOrder-rows_but, AreNodes, Equal, Greater, IsAntisymmetric, IsBinarySearchResult, IsNonDecreasingBy, IsSearchInRange, IsTotalOrder, Less, Ordering, Pairs, Rows, are_members, are_nodes, are_of_kinds, are_rising, are_tags, below_all, below_less, both, both_true, each_row-filter, each_row-put, find, find-where_key, find_below, first, first_true, int_cmp, int_cmp-IsAntisymmetric, int_cmp_is, int_eq, into_iter_items, is_absent, is_among, is_among-append, is_among-name_set, is_among-names_of, is_eq, is_eq-name_cmp_itself, is_kind, is_long, is_lt, is_made, is_node, is_present, is_same, is_same_text, is_short, is_sorted, is_sorted-put, is_sorted-where_key, is_tag, is_true, kind_eq_is, kind_of, kind_order_is, kind_rank, later_differs, latitude, least, lesser, list_all, list_any, longitude, match_ordering, member_pair, n-1, n-2, name_cmp, name_cmp-IsAntisymmetric, name_cmp_is, name_cmp_total, name_eq_is, name_set, names_of, nat_cmp, nat_cmp-IsAntisymmetric, not_yet_put, nothing_left, on, or_else, or_none, ord_min, ordering_index, ordering_reverse, ordering_then, passes, path, pointwise, put, put_all, put_all_is, put_row, row_at, row_at-put_all, row_at-put_row, row_at-rows_but, row_at_is_find, rows_but, same, same_name, same_names, same_rows, second, second_true, so, sorted_rows, tag_pair, tags_of, text_cmp, then_cmp, tied_itself, two_tags, w5, w64, without_row, without_row_is_filter}
pub use Rattle.rising_lists.specs.Facts.Sorted.{is_sorted-filter}
pub use Rattle.rising_lists.specs.Lists.{AreLists, Gains, Lacks, Loses, SameLists, has_none, listed}
pub use Rattle.rising_lists.specs.Rising.{bare_rows, with_value}
pub use Rattle.std.specs.Cmp.{eq_by_cmp_equiv, int_cmp_total}
pub use Rattle.std.specs.Cmp.Lexicographic.{same_text}
pub use Rattle.std.specs.List.{AllByRecursion, dedup}
pub use Rattle.std.specs.List.Retain.{DiffersFromLast, IsFiltered}
pub use Rattle.std.specs.Option.{option_eq}
pub use Rattle.osm_elements.specs.declared.member.Member.{Member}
pub use Rattle.osm_elements.specs.declared.name.Name.{Name}
pub use Rattle.osm_refs.specs.Changes.{reference_change}
pub use Rattle.osm_refs.specs.Facts.Changes.{after_is, before_is, gained, new_names}
pub use Rattle.osm_refs.specs.Facts.InNameOrder.{in_derived_order, in_name_order}
pub use Rattle.osm_refs.specs.Facts.MapTables.{IsTable-table_of, references_at-table_of, table_of-put_row, table_of-rows_but, users_in-table_of}
pub use Rattle.osm_refs.specs.Facts.NameSets.{sorted_is_name_set}
pub use Rattle.osm_refs.specs.Facts.RisingNames.{IsRising-filter, IsRising-name_set, is_among-passing, same_as_name_set, same_rising}
pub use Rattle.osm_refs.specs.Facts.Tables.{IsTable, IsTable-referring, references_at-referring, same_tables}
pub use Rattle.osm_refs.specs.Facts.Updating.{IsTable-updated_all, becomes_at, references_at-updated_all, untouched}
pub use Rattle.osm_refs.specs.References.{references, refers_to, row_references, users}
pub use Rattle.osm_refs.specs.Rising.{IsRising, names_but}
pub use Rattle.osm_refs.specs.Tables.{Note, Table, noted, references_at, referring, table_of, users_in}
