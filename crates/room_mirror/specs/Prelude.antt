-- The words that proofs of this crate and the crates above cite, passed on from one place. It declares nothing.
pub use Rattle.room_history.specs.Prelude.{AreChanges, AreFrom, AreInOrder-with_row, Holds, IsJournal, IsReplayed, IsRising-name_set, IsRun, IsStep, Past, Recorded, actions_of, after_all, answer, answer_by, becomes, call_refusal, called, cell_of, changed_names, cons_option, done_again, equal_row, first_that_holds, goes, half, half_at, is_among_own, is_of_length, is_same_row, is_sound, is_sound_row, join_row, last, mapof, meant, merge_row, mirrored, news, news_behind, news_of, news_row, numbered, opened, or_right, past, past_after, recorded_next, redos, references, replay, rest_at, row_after, row_at-after, row_at-changed, row_at-with_row, row_standing, sound_in_order, sound_row, split_off, standing, taken_back, then_some, there_by_half, told_kind, told_node, with_row}
pub use Rattle.room_wire.specs.Prelude.{AreInOrder, AreInOrder-put_row, AreInOrder-without_row, AreNews, AreNodes, Global, HasId, IsMapRow, IsNewsRow, IsNumber, IsUnder, IsWelcome, IsWhole, IsWithin, Rows, are_members, are_nodes, are_rising, are_tags, below_all, both_true, first, first_true, into_iter_items, is_absent, is_among, is_among-filter, is_among-name_set, is_among-names_of, is_eq-name_cmp_itself, is_kind, is_made, is_node, is_present, is_same, is_sorted, is_true, kind_of, latitude, list_all, longitude, name_cmp, names_of, result_ok, row_at-put_row, row_at-without_row, row_pair, same_either_way, same_names, same_rows, second, second_true, so, value_within, without_row, without_row_is_filter}
pub use Rattle.osm_changes.specs.declared.cell.Cell.{Cell}
pub use Rattle.osm_changes.specs.declared.change.Change.{Change}
pub use Rattle.osm_changes.specs.declared.half.Half.{Half}
pub use Rattle.osm_elements.specs.declared.element.Element.{Element}
pub use Rattle.osm_elements.specs.declared.element.Element.TheVariants.{Node, Relation, Way}
pub use Rattle.osm_elements.specs.declared.map.Row.{Row}
pub use Rattle.osm_elements.specs.declared.name.Name.{Name}
pub use Rattle.room_history.specs.declared.entry.Entry.{Entry}
pub use Rattle.room_history.specs.declared.entry.EntryKind.{EntryKind}
pub use Rattle.room_history.specs.declared.entry.EntryKind.TheVariants.{Do, Redo, Undo}
pub use Rattle.room_interface.specs.declared.action.Action.{Action}
pub use Rattle.room_interface.specs.declared.action.Action.TheVariants.{Create, Delete, Join, Members, Merge, Move, Nodes, Purge, Retag, Reverse, Split, Unglue}
pub use Rattle.room_interface.specs.declared.author.Author.{Author}
pub use Rattle.room_interface.specs.declared.call.Call.{Call}
pub use Rattle.room_interface.specs.declared.call.Request.{Request}
pub use Rattle.room_interface.specs.declared.edit.Edit.{Edit}
pub use Rattle.room_interface.specs.declared.edit.Edit.TheVariants.{Group, One}
pub use Rattle.room_interface.specs.declared.news.News.{News}
pub use Rattle.room_interface.specs.declared.news.NewsRow.{NewsRow}
pub use Rattle.room_interface.specs.declared.reply.Reply.{Reply}
pub use Rattle.room_mirror.specs.Clients.{AllHaveIds, HasEditIds, HasIds, HasRequestIds, HasSubjectIds, IsBrought, IsBroughtCall, IsReadBack, SpellNews, followed, subject_names, taken, welcome_to}
pub use Rattle.room_mirror.specs.Mirrors.{IsRefused, MirrorState, due_after, fault, fits, mirror_of, taken_in_turn, taken_or, tells_another, told_names, with_news}
pub use Rattle.room_mirror.specs.declared.fault.MirrorFault.{MirrorFault}
pub use Rattle.room_mirror.specs.declared.fault.MirrorFault.TheVariants.{Gap, Mismatch}
pub use Rattle.room_wire.specs.declared.welcome.Welcome.{Welcome}
