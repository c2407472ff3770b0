-- The words that proofs of this crate and the crates above cite, passed on from one place. It declares nothing.
pub use Rattle.room_interface.specs.Prelude.{AreGiven, AreInOrder, AreInOrder-put_row, AreInOrder-without_row, AreMembers, AreNodes, AreTagRows, GivenTags, IsLatitude, IsLongitude, IsWithin, Pairs, Rows, are_given, are_made, are_members, are_nodes, are_of_kinds, are_rising, are_tags, author_of, below_all, below_less, both_true, digits_value, first, first_true, id_of, if_passed, if_written, into_iter_items, is_absent, is_among, is_among-filter, is_among-name_set, is_among-names_of, is_author, is_eq-name_cmp_itself, is_group_length, is_id, is_kind, is_long, is_made, is_made_action, is_made_request, is_name_character, is_node, is_none_or, is_present, is_same, is_same_author, is_sorted, is_true, kind_of, kind_of_letter, latitude, letter_of, list_all, list_any, longitude, match_ordering, member_pair, name_cmp, name_cmp_total, name_of, name_of_text, name_text, name_text-name_of, name_with, name_with-some, named, names_of, new_is, ordering_reverse, pointwise, put, row_at-put_row, row_at-without_row, row_pair, same_either_way, same_names, same_rows, second, second_true, signed_decimal, signed_digits_value, slice_cmp, so, tag_pair, text_cmp, value_within, w64, without_row, without_row_is_filter}
pub use Rattle.json_values.specs.Views.{Entry, items_view, members_view, view}
pub use Rattle.osm_coords.specs.Coordinate.{coordinate}
pub use Rattle.osm_coords.specs.Latitude.{latitude_of}
pub use Rattle.osm_coords.specs.Longitude.{longitude_of}
pub use Rattle.osm_coords.specs.Written.{written}
pub use Rattle.std.specs.Borrow.{Bor}
pub use Rattle.std.specs.Fmt.{digit_glyph, digits_onto}
pub use Rattle.std.specs.List.{AllByRecursion}
pub use Rattle.std.specs.List.Sorted.{IsStrictlySortedBy}
pub use Rattle.std.specs.Map.{keys_of}
pub use Rattle.std.specs.Result.{result_ok}
pub use Rattle.std.specs.declared.alloc.Global.{Global}
pub use Rattle.osm_elements.specs.declared.element.Element.{Element}
pub use Rattle.osm_elements.specs.declared.element.Element.TheVariants.{Node, Relation, Way}
pub use Rattle.osm_elements.specs.declared.map.Row.{Row}
pub use Rattle.osm_elements.specs.declared.name.Kind.{Kind}
pub use Rattle.osm_elements.specs.declared.name.Name.{Name}
pub use Rattle.room_interface.specs.declared.action.Action.{Action}
pub use Rattle.room_interface.specs.declared.action.Action.TheVariants.{Create}
pub use Rattle.room_interface.specs.declared.author.Author.{Author}
pub use Rattle.room_interface.specs.declared.call.Request.TheVariants.{Redo}
pub use Rattle.room_interface.specs.declared.edit.Edit.{Edit}
pub use Rattle.room_interface.specs.declared.edit.Edit.TheVariants.{Group, One}
pub use Rattle.room_interface.specs.declared.news.News.{News}
pub use Rattle.room_interface.specs.declared.news.NewsRow.{NewsRow}
pub use Rattle.room_interface.specs.declared.refusal.Refusal.{Refusal}
pub use Rattle.room_interface.specs.declared.reply.Reply.{Reply}
pub use Rattle.room_wire.specs.Asked.{answer_text, answer_to, asked, found_answer, to_value}
pub use Rattle.room_wire.specs.Fields.{field_text}
pub use Rattle.room_wire.specs.Lists.{rising, row_at, rows_at, rows_in}
pub use Rattle.room_wire.specs.Made.{is_made_body}
pub use Rattle.room_wire.specs.News.{is_gone, news_read, news_row_at, news_rows_tree, news_tree, number_at, object_at, row_tree, spells_news, told_tree, without_id}
pub use Rattle.room_wire.specs.NewsBack.{AreNews, IsMapRow, IsNewsRow, IsUnder, IsWelcome}
pub use Rattle.room_wire.specs.ReadBack.{HasId, IsWhole}
pub use Rattle.room_wire.specs.Reading.{Gives, GivesMessage, GivesUnder, id_told, or_fault, under}
pub use Rattle.room_wire.specs.Spelling.{action_at, action_by, actions_at, actions_from, are_objects, at_action, author_at, body_at, body_by, by_id, change_by, count_of, create_at, distance_at, edit_by, el_at, element_at, els_at, entries_in, entries_of, entry_of, given_of, given_tags_at, given_tags_of, group_at, group_of, hello_at, id_at, incoming, is_edit_word, items_in, join_at, key_of, lat_at, lon_at, member_in, member_of, member_with, members_at, members_in, merge_at, message_of, move_at, name_at, name_item, names_in, node_of, nodes_at, nodes_in, ordinal, place_at, place_of, relist_relation_at, relist_way_at, retag_at, seq_at, seq_from, since_at, since_from, spells, split_at, tags_at, tags_from, tags_of, text_at, text_of, unglue_at, value_of, with_position, word_at}
pub use Rattle.room_wire.specs.Trees.{AreToldAlike, element_tree, entry_members, fault_tree, id_tree, map_tree, member_tree, name_tree, outcome_tree, refusal_members, rows_tree, tag_members, tags_tree, tree_of, whole, wrong_name_tree}
pub use Rattle.room_wire.specs.Welcomes.{count_at, map_at, spells_welcome, told_at, welcome, welcome_of, welcome_tree}
pub use Rattle.room_wire.specs.WellFormed.{AreGood, AreGoodActions, AskActions, Asks, AsksAction, Has, HasAuthor, HasDistance, HasElement, HasGivenTags, HasGroup, HasMembers, HasName, HasNameAt, HasNames, HasNodes, HasPlace, HasSeq, HasSince, HasTags, HasText, HasWord, IsBadAction, IsFirstBad, IsFirstBadAction, IsGoodAction, IsMessage, IsNumber, MessageId, Slot, actions_in, element_slots, given_tags_tree, given_tree, group_items, message_slots, slot, slots}
pub use Rattle.room_wire.specs.Words.{Word, is_action_word, is_edit, word_text}
pub use Rattle.room_wire.specs.declared.answer.Answer.{Answer}
pub use Rattle.room_wire.specs.declared.bad.Bad.{Bad}
pub use Rattle.room_wire.specs.declared.bad.Fault.{Fault}
pub use Rattle.room_wire.specs.declared.bad.Fault.TheVariants.{BadActionField, BadField, BadId, Memory, NotJson, NotObject, UnknownAction, UnknownDo}
pub use Rattle.room_wire.specs.declared.field.Field.{Field}
pub use Rattle.room_wire.specs.declared.field.Field.TheVariants.{Actions, At, Dlat, Dlon, El, Els, Into, Lat, Lon, Members, Nodes, Seq, Since, Tags, With}
pub use Rattle.room_wire.specs.declared.incoming.Body.{Body}
pub use Rattle.room_wire.specs.declared.incoming.Body.TheVariants.{Change, Map, Undos}
pub use Rattle.room_wire.specs.declared.incoming.Incoming.{Incoming}
pub use Rattle.room_wire.specs.declared.welcome.Welcome.{Welcome}
