-- The words that proofs of this crate and the crates above cite, passed on from one place. It declares nothing.
pub use Rattle.osm_elements.specs.Prelude.{AreInOrder, AreInOrder-put_row, AreInOrder-rows_but, AreInOrder-without_row, AreMembers, AreNodes, AreTagRows, Equal, Greater, IsAntisymmetric, IsBinarySearchResult, IsLatitude, IsLongitude, IsWithin, Less, Ordering, Pairs, Rows, all_nodes, are_members, are_nodes, are_of_kinds, are_rising, are_tags, below_all, below_less, both, both_true, bytes_decides, digits_value, each_key, find, find-put, find-where_key, find_below, first, first_true, id_of, if_passed, if_written, int_cmp-IsAntisymmetric, int_eq, into_iter_items, is_absent, is_among, is_among-append, is_among-filter, is_among-name_set, is_among-names_of, is_eq, is_eq-name_cmp_itself, is_id, is_kind, is_long, is_lt, is_made, is_node, is_none_or, is_present, is_same, is_same_text, is_short, is_sorted, is_sorted-put, is_sorted-where_key, is_tag, is_true, kind_of, kind_of_letter, kind_rank, latitude, least, length-put, lesser, letter_of, list_all, list_any, longer-put, longitude, lookup, match_ordering, member_pair, name_cmp, name_cmp-IsAntisymmetric, name_cmp_is, name_cmp_total, name_eq_is, name_of, name_of_text, name_set, name_text, name_text-name_of, name_with, name_with-some, named, names_of, nat_cmp, nat_cmp-IsAntisymmetric, new_is, not_over_1000, ord_min, ordering_reverse, ordering_then, pointwise, put, put_row, row_at, row_at-put_row, row_at-rows_but, row_at-without_row, row_at_is_find, row_pair, rows_but, same, same_either_way, same_entries, same_names, same_rows, second, second_true, signed_decimal, signed_digits_value, slice_cmp, so, sorted_rows, tag_pair, tags_of, text_cmp, text_total, thousand_tags, tied_itself, value_at, value_within, w64, with_name, without_key, without_row, without_row_is_filter}
pub use Rattle.std.specs.Bool.{then_some}
pub use Rattle.std.specs.Cmp.Lexicographic.{nat_list_eq_equiv}
pub use Rattle.std.specs.List.{IsDistinct, position_or_len}
pub use Rattle.std.specs.List.Sorted.{IsStrictlyIncreasing}
pub use Rattle.std.specs.Result.{result_map_both, result_ok}
pub use Rattle.std.specs.declared.alloc.Global.{Global}
pub use Rattle.room_interface.specs.Authors.{author_of, is_author, is_name_character}
pub use Rattle.room_interface.specs.Facts.MadeCalls.{are_made-one}
pub use Rattle.room_interface.specs.Facts.SameAuthors.{one_author}
pub use Rattle.room_interface.specs.GivenTags.{AreGiven, GivenTags, are_given, given_pair}
pub use Rattle.room_interface.specs.Groups.{alone, at_position, is_group_length}
pub use Rattle.room_interface.specs.MadeCalls.{are_made, is_made_action, is_made_edit, is_made_request, is_made_room_call}
pub use Rattle.room_interface.specs.Replies.{refusal_reply, refused_by}
pub use Rattle.room_interface.specs.SameAuthors.{is_same_author}
