-- The words that proofs of this crate and the crates above cite, passed on from one place. It declares nothing.
pub use Rattle.room_session.specs.Prelude.{AllByRecursion, IsOf, MakesAs, both_made_as, none_made_as, quiet_stays, text_made_as, text_stays, AnswersAt, AnswersCall, AreInOrder, BeginsWith, Bor, GivesMessage, GivesUnder, Global, HasRoom, HearsText, History, Holds, IsBaseFault, IsFirstUnsound, IsJournal, IsLegal, IsRunOn, IsSync, IsTurn, KeepsKnown, Known, LeavesOthers, Makes, MakesNone, RoomKnown, RoomState, Rows, TellsLength, WaitsOn, answer, answer_text, answer_to, are_of_kinds, asked, author_of, called, closing, digits_value, entries, found_answer, id_told, into_iter_items, is_author, is_made_body, is_name_character, is_same_author, is_sound, joined, keeps_both, list_all, list_any, mapof, name_text, opened, redos, room_answer, same_text_itself, same_texts, spells, spells_welcome, to_value, undos}
pub use Rattle.std.specs.Io.{ReadsAtMost}
pub use Rattle.room_session.specs.declared.caller.Caller.{Caller}
pub use Rattle.room_session.specs.declared.sent.Sent.{Sent}
pub use Rattle.room_session.specs.declared.session.Ended.{Ended}
pub use Rattle.room_session.specs.declared.session.State.{State}
pub use Rattle.room_session.specs.declared.session.State.TheVariants.{BeforeHello, Closed}
pub use Rattle.room_socket.specs.Admitting.{Admits, IsLetIn, Rule, caller_by, caller_of, is_at, is_local, is_loopback, is_port, lets_in, may_come, named, only_or, rule_of, sole, unnamed, values_of}
pub use Rattle.room_socket.specs.Conversing.{Converses, IsRefused, TakesBinary, TakesQuiet, TakesText, TakesTurn}
pub use Rattle.room_socket.specs.Hearing.{Hears}
pub use Rattle.room_socket.specs.Timely.{contents_of, remaining_of}
pub use Rattle.room_socket.specs.Sending.{AsksToClose, Closes, EndsBy, ReadsOn, Sends, SendsTexts, WritesTexts, code_of}
pub use Rattle.room_socket.specs.Serving.{Event, Follows, Happens, InTurns, Serves, ServesEach}
pub use Rattle.room_socket.specs.Serving.Event.{Last, Quiet, Text}
pub use Rattle.room_socket.specs.declared.end.End.{End}
pub use Rattle.room_socket.specs.declared.end.End.TheVariants.{Bound}
pub use Rattle.room_socket.specs.declared.timely.Timely.{Timely}
pub use Rattle.room_wire.specs.declared.bad.Bad.{Bad}
pub use Rattle.room_wire.specs.declared.incoming.Incoming.{Incoming}
