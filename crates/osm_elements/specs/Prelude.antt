-- The words that proofs of this crate and the crates above cite, passed on from one place. It declares nothing.
pub use Rattle.osm_coords.specs.Latitude.{IsLatitude, latitude}
pub use Rattle.osm_coords.specs.Longitude.{IsLongitude, longitude}
pub use Rattle.osm_coords.specs.Range.{IsWithin, value_within}
pub use Rattle.rising_lists.specs.Lists.{has_none}
pub use Rattle.rising_lists.specs.Rising.{bare_rows, with_value}
pub use Rattle.std.specs.BTreeMap.{insert_entry, is_at}
pub use Rattle.std.specs.Bool.{passes}
pub use Rattle.std.specs.Cmp.{IsEquivalence, IsTotalOrder, alike_right, eq_by_cmp_equiv, int_cmp_is, tied_itself}
pub use Rattle.std.specs.Cmp.Lexicographic.{bytes_decides, other_text, pointwise, slice_cmp}
pub use Rattle.std.specs.FinMap.{IsAntisymmetric, int_cmp-IsAntisymmetric, nat_cmp-IsAntisymmetric}
pub use Rattle.std.specs.FinMap.Entries.{below_all, by_order, find, find-put, find-where_key, is_sorted, is_sorted-put, is_sorted-where_key, length-put, put, same_entries}
pub use Rattle.std.specs.Fmt.{signed_decimal}
pub use Rattle.std.specs.Int.{w64}
pub use Rattle.std.specs.List.{AllByRecursion, AllWithin, dedup, list_all, list_any}
pub use Rattle.std.specs.List.Retain.{DiffersFromLast, IsFiltered}
pub use Rattle.std.specs.List.Sorted.{IsBinarySearchResult, IsNonDecreasingBy, IsSearchInRange}
pub use Rattle.std.specs.Map.{lookup, remove_entry}
pub use Rattle.std.specs.Ordering.{int_cmp, int_eq, is_eq, is_lt, match_ordering, nat_cmp, on, ord_min, ordering_index, ordering_reverse, ordering_then, then_cmp}
pub use Rattle.std.specs.Str.Parse.{digits_value, signed_digits_value}
pub use Rattle.std.specs.Vec.Iter.{into_iter_items}
pub use Rattle.std.specs.declared.cmp.Ordering.{Ordering}
pub use Rattle.std.specs.declared.cmp.Ordering.TheVariants.{Equal, Greater, Less}
pub use Rattle.osm_elements.specs.Elements.{kind_of, tags_of}
pub use Rattle.osm_elements.specs.Facts.Among.{is_among-append, is_among-filter, is_among-name_set, is_among-names_of}
pub use Rattle.osm_elements.specs.Facts.Dropped.{AreInOrder-rows_but, row_at-rows_but, same_either_way}
pub use Rattle.osm_elements.specs.Facts.Entries.{below_equal, below_less, both, find_below, first, second, without_below}
pub use Rattle.osm_elements.specs.Facts.KeyedRows.{AreRows-put_new, AreRows-put_over, AreRows-without_key, each_key, each_row-filter, each_row-put, is_row-made, longer-put, not_over_1000, sorted_rows, text_total}
pub use Rattle.osm_elements.specs.Facts.MadeMaps.{AreInOrder-put_all, later_differs, not_yet_put, nothing_left, or_else, or_none, put_all, put_all_is, put_more, row_at-put_all}
pub use Rattle.osm_elements.specs.Facts.NameOrder.{kind_order_is, name_cmp_is}
pub use Rattle.osm_elements.specs.Facts.NameTexts.{id_of-signed_decimal, mag_fits, name_of-no_letter, name_of-split, name_of_text, name_text-name_of, name_with-some, new_is, no_name}
pub use Rattle.osm_elements.specs.Facts.Names.{name_cmp-IsAntisymmetric, name_cmp_total, same_name}
pub use Rattle.osm_elements.specs.Facts.Nodes.{all_nodes}
pub use Rattle.osm_elements.specs.Facts.Rows.{AreInOrder-put_row, AreInOrder-without_row, is_eq-name_cmp_itself, row_at-put_row, row_at-without_row, row_at_is_find, same, same_names, same_rows, without_row_is_filter}
pub use Rattle.osm_elements.specs.Facts.SameNames.{kind_eq_is, name_eq_is}
pub use Rattle.osm_elements.specs.Facts.Tests.{both_true, first_true, is_true, second_true, so}
pub use Rattle.osm_elements.specs.KeyedRows.{AreRows, are_rows, further, is_row, keyed_pair, place, set_refusal, text_cmp, value_at, without_key}
pub use Rattle.osm_elements.specs.KeyedValues.{is_none_or, is_short}
pub use Rattle.osm_elements.specs.Made.{are_nodes, is_made, is_node}
pub use Rattle.osm_elements.specs.Maps.{Rows, are_of_kinds, are_rising, is_absent, is_among, is_kind, is_present, is_same, least, lesser, name_set, names_of, rows_but, with_name}
pub use Rattle.osm_elements.specs.Members.{AreMembers, are_members, member_pair}
pub use Rattle.osm_elements.specs.NameOrder.{name_cmp}
pub use Rattle.osm_elements.specs.NameTexts.{id_of, if_passed, if_written, is_id, kind_of_letter, name_of, name_text, name_with, named}
pub use Rattle.osm_elements.specs.Names.{kind_rank, letter_of}
pub use Rattle.osm_elements.specs.Nodes.{AreNodes}
pub use Rattle.osm_elements.specs.Refused.{refuses}
pub use Rattle.osm_elements.specs.RowPairs.{row_pair}
pub use Rattle.osm_elements.specs.Rows.{AreInOrder, put_row, row_at, without_row}
pub use Rattle.osm_elements.specs.Scenes.{Any, n-1, n-2, n5, path, r5, thousand_tags, two_tags, w-7, w5}
pub use Rattle.osm_elements.specs.TagRows.{AreTagRows, Pairs, are_tags, is_tag, tag_pair}
pub use Rattle.osm_elements.specs.Texts.{is_long, is_same_text}
pub use Rattle.osm_elements.specs.declared.element.Element.{Element}
pub use Rattle.osm_elements.specs.declared.element.Element.TheVariants.{Node, Relation, Way}
pub use Rattle.osm_elements.specs.declared.fault.TextFault.{TextFault}
pub use Rattle.osm_elements.specs.declared.fault.TextFault.TheVariants.{TooManyTags}
pub use Rattle.osm_elements.specs.declared.keyed.Keyed.{Keyed}
pub use Rattle.osm_elements.specs.declared.member.Member.{Member}
pub use Rattle.osm_elements.specs.declared.name.Name.{Name}
