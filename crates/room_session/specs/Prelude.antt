-- The words that proofs of this crate and the crates above cite, passed on from one place. It declares nothing.
pub use Rattle.room_wire.specs.Prelude.{AllByRecursion, AreInOrder, AreToldAlike, Bor, GivesMessage, GivesUnder, Global, Rows, answer_text, answer_to, are_of_kinds, asked, author_of, digits_value, found_answer, id_told, into_iter_items, is_author, is_made_body, is_name_character, is_same_author, list_all, list_any, map_tree, name_text, spells, spells_welcome, to_value}
pub use Rattle.room_history.specs.Prelude.{AllocError, History, Holds, IsBaseFault, IsFirstUnsound, IsJournal, IsLegal, IsSync, IsTurn, RoomState, answer, answer_by, call_refusal, called, entries, is_sound, mapof, meant, news, news_behind, opened, redos, room_answer, same_text_itself, same_texts, undos, wanting}
pub use Rattle.std.specs.Io.{ReadsAtMost}
pub use Rattle.std.specs.IoError.{error_kind}
pub use Rattle.std.specs.declared.io.ErrorKind.{ErrorKind}
pub use Rattle.std.specs.declared.io.ErrorKind.TheVariants.{Interrupted, TimedOut, WouldBlock}
pub use Rattle.turn_desk.specs.History.{BeginsWith}
pub use Rattle.osm_elements.specs.declared.name.Name.{Name}
pub use Rattle.room_history.specs.declared.entry.Entry.{Entry}
pub use Rattle.room_history.specs.declared.entry.EntryKind.{EntryKind}
pub use Rattle.room_history.specs.declared.turned.Opening.{Opening}
pub use Rattle.room_interface.specs.declared.ask.RoomCall.{RoomCall}
pub use Rattle.room_interface.specs.declared.ask.RoomReply.{RoomReply}
pub use Rattle.room_interface.specs.declared.author.Author.{Author}
pub use Rattle.room_interface.specs.declared.call.Call.{Call}
pub use Rattle.room_interface.specs.declared.call.Request.{Request}
pub use Rattle.room_interface.specs.declared.news.News.{News}
pub use Rattle.room_interface.specs.declared.reply.Reply.{Reply}
pub use Rattle.room_session.specs.Callers.{IsOf, MakesAs, MayBe, MaySpeakAs, barred_text, greeted}
pub use Rattle.room_session.specs.Events.{AnswersAlone, Asks, AsksForNews, AsksIfAny, Begins, BeginsBy, BreaksOff, CatchesUp, EndsFirst, FindsNoNews, GivesUp, GoesOn, Greets, GreetsAs, HearsText, Makes, MakesBy, MakesChange, Refuses, Replies, RepliesTo, RepliesToWatcher, WaitsOn, closing, only}
pub use Rattle.room_session.specs.Facts.Naming.{both_made_as, none_made_as, quiet_stays, text_made_as, text_stays}
pub use Rattle.room_session.specs.Facts.Running.{answers_keep, joined, keeps_all, keeps_both, keeps_to, looks_keep, not_shorter}
pub use Rattle.room_session.specs.NewsTexts.{news_texts}
pub use Rattle.room_session.specs.Rooms.{AnswersAt, AnswersCall, HasRoom, IsJournalOf, KeepsKnown, Known, LeavesOthers, MakesNone, MakesOne, RoomKnown, TellsLength}
pub use Rattle.room_session.specs.Running.{IsRunOn}
pub use Rattle.room_session.specs.declared.caller.Barred.{Barred}
pub use Rattle.room_session.specs.declared.caller.Caller.{Caller}
pub use Rattle.room_session.specs.declared.caller.Caller.TheVariants.{Anyone, Nobody, Only}
pub use Rattle.room_session.specs.declared.caller.Speaker.{Speaker}
pub use Rattle.room_session.specs.declared.next.Next.{Next}
pub use Rattle.room_session.specs.declared.sent.Sent.{Sent}
pub use Rattle.room_session.specs.declared.session.State.{State}
pub use Rattle.room_session.specs.declared.session.State.TheVariants.{BeforeHello, Closed, Open}
pub use Rattle.room_wire.specs.declared.answer.Answer.{Answer}
pub use Rattle.room_wire.specs.declared.bad.Bad.{Bad}
pub use Rattle.room_wire.specs.declared.incoming.Body.{Body}
pub use Rattle.room_wire.specs.declared.incoming.Body.TheVariants.{Change, Get, Hello, Map, Undos}
pub use Rattle.room_wire.specs.declared.incoming.Incoming.{Incoming}
