-- The words that proofs of this crate and the crates above cite, passed on from one place. It declares nothing.
pub use Rattle.edit_groups.specs.Prelude.{AllocError, AreChanges, AreFrom, AreHeld, AreHeld-fallen, AreHeld-standing, AreInOrder-after, AreInOrder-with_row, ChangePlaces, Held, HoldsOnly, HoldsOnly-standing, IsEditPlan, IsFirst, IsFirstAfter, IsFirstHolder, IsFirstUnsound, IsNext, IsNonDecreasing, IsFootprint-footprint, IsRising-name_set, StoreState, accepted_keeps_sound, after, after_all, apart, applied_to, becomes, both_have, but, cell_of, changed-differences, changed-inverse, changed_cells, changed_names, changed_row, changed_rows, changes, commutation, counted, differences, equal_row, fallen, fallen_again, first_that_holds, footprint, footprint_of, goes, half, half_at, holding, holding-fallen, holding-standing, holds, inverse, is_among_own, is_of_length, is_same_row, is_sound, is_sound_row, join_row, just_one, meets, merge_row, none_lesser, option_or, or_right, references, refusal, rest_at, row_after, row_at-after, row_at-changed, row_at-with_row, row_standing, same_holders, same_number, same_text_itself, same_texts, sound_in_order, sound_kinds, sound_row, split_off, subjects, then_some, there_by_half, tied, told_kind, told_node, unsound_map, users, with_row}
pub use Rattle.room_stacks.specs.Prelude.{AreInOrder, IsBinarySearchResult, Rows, StacksState, above_entries, are_rising, deeds_from-push, find, into_iter_items, is_absent, is_among, is_made_request, is_made_room_call, is_present, is_same_author, is_same_text, is_work_of, kept_standing, list_all, list_any, name_cmp, names_of, put_row, redo_entries, refusal_reply, refused_by, row_at, spent_entries, standing_entries, without_row}
pub use Rattle.std.specs.List.{cons_option}
pub use Rattle.std.specs.Thread.{IsSync}
pub use Rattle.std.specs.declared.alloc.Global.{Global}
pub use Rattle.turn_desk.specs.History.{BeginsWith, GainsAtMostOne, History, IsLegal, MayAllFollow, entries}
pub use Rattle.edit_footprint.specs.Touches.{IsFootprint, Touch, does, rivals}
pub use Rattle.osm_changes.specs.declared.cell.Cell.{Cell}
pub use Rattle.osm_changes.specs.declared.change.Change.{Change}
pub use Rattle.osm_elements.specs.declared.element.Element.{Element}
pub use Rattle.osm_elements.specs.declared.name.Name.{Name}
pub use Rattle.room_history.specs.Answers.{accepted, answer, answer_by, answers, asked, call_refusal, changed_since, conflict, guarded_refusal, is_ahead, kind_refusal, meaning_refusal, meant, nothing_meant, redo_refusal, seen, spends, spent, undo_refusal, with_entry}
pub use Rattle.room_history.specs.Applied.{applied}
pub use Rattle.room_history.specs.Asking.{IsAnswered, room_answer, wanting}
pub use Rattle.room_history.specs.Bases.{IsBaseFault}
pub use Rattle.room_history.specs.Blockers.{blocker, footprint_of_recorded, held, recorded_footprint}
pub use Rattle.room_history.specs.Guards.{first_shared, overwritten, overwritten_since}
pub use Rattle.room_history.specs.Headline.{AreAccepted, AreFresh, Blocks, Changes, Differ, Holds, IsNothingLost, IsRedoStacked, IsRefusedExactlyWhere, IsSameUnseen, IsRedoneAtOnce, IsRedoneInTurn, IsReplayed, IsRestLeft, IsUndoOfLast, IsUndoneAtOnce, IsUndoneExactlyWhere, Overwritten, Share, map_at, redid_from, redo_by, undid_from, undo_by}
pub use Rattle.room_history.specs.Holdings.{Holdings, behind, first_meeting, holders_of, without}
pub use Rattle.room_history.specs.Journals.{is_by, is_standing, is_undo_of, is_work, last, numbered, others, redos, redos_after, standing, standing_from, undos}
pub use Rattle.room_history.specs.LegalJournals.{IsJournal, called, opened}
pub use Rattle.room_history.specs.News.{mirrored, news, news_behind, news_of, news_row}
pub use Rattle.room_history.specs.Replays.{Past, Recorded, action_at, actions_of, done_again, mapof, past, past_after, recorded_next, recorded_of, replay, taken_back}
pub use Rattle.room_history.specs.Rooms.{RoomState}
pub use Rattle.room_history.specs.Runs.{Answers, IsRun, IsStep}
pub use Rattle.room_history.specs.Turns.{IsTurn}
pub use Rattle.room_history.specs.declared.base.BaseFault.{BaseFault}
pub use Rattle.room_history.specs.declared.base.BaseFault.TheVariants.{Unsound}
pub use Rattle.room_history.specs.declared.entry.Entry.{Entry}
pub use Rattle.room_history.specs.declared.entry.EntryKind.{EntryKind}
pub use Rattle.room_history.specs.declared.entry.EntryKind.TheVariants.{Do, Redo, Undo}
pub use Rattle.room_history.specs.declared.kept.Effect.{Effect}
pub use Rattle.room_history.specs.declared.turned.Opening.{Opening}
pub use Rattle.room_interface.specs.declared.ask.RoomCall.{RoomCall}
pub use Rattle.room_interface.specs.declared.ask.RoomCall.TheVariants.{Get, Take, Undos}
pub use Rattle.room_interface.specs.declared.ask.RoomReply.{RoomReply}
pub use Rattle.room_interface.specs.declared.ask.Undoable.{Undoable}
pub use Rattle.room_interface.specs.declared.author.Author.{Author}
pub use Rattle.room_interface.specs.declared.call.Call.{Call}
pub use Rattle.room_interface.specs.declared.call.Request.{Request}
pub use Rattle.room_interface.specs.declared.edit.Edit.TheVariants.{Group, One}
pub use Rattle.room_interface.specs.declared.edit_refusal.EditRefusal.{EditRefusal}
pub use Rattle.room_interface.specs.declared.news.News.{News}
pub use Rattle.room_interface.specs.declared.refusal.Refusal.{Refusal}
pub use Rattle.room_interface.specs.declared.reply.Reply.{Reply}
pub use Rattle.room_interface.specs.declared.reply.Reply.TheVariants.{Changed, Conflict, Done, Full, Memory, NoSuch, NotStanding, NotYours, NothingToRedo, Redid, Refused, Repeat, Undid}
pub use Rattle.room_stacks.specs.declared.deed.Deed.{Deed}
