-- The words that proofs of this crate and the crates above cite, passed on from one place. It declares nothing.
pub use Rattle.room_socket.specs.Prelude.{AllByRecursion, AnswersAt, AnswersCall, AreInOrder, BeginsWith, Bor, GivesMessage, GivesUnder, Global, HasRoom, History, Holds, IsBaseFault, IsFirstUnsound, IsJournal, IsLegal, IsRunOn, IsTurn, KeepsKnown, Known, LeavesOthers, ReadsAtMost, RoomKnown, RoomState, Rows, Rule, ServesEach, TellsLength, answer, answer_text, answer_to, are_of_kinds, asked, author_of, called, digits_value, entries, found_answer, id_told, into_iter_items, is_author, is_made_body, is_name_character, is_same_author, is_sound, joined, keeps_both, list_all, list_any, mapof, name_text, opened, redos, room_answer, rule_of, same_text_itself, same_texts, spells, spells_welcome, to_value, undos}
pub use Rattle.std.specs.Io.{WritesAtMost}
pub use Rattle.std.specs.Io.KnownBytes.{Appends, ReadConsumes, WriteAppends}
pub use Rattle.std.specs.Option.{option_map_or}
pub use Rattle.std.specs.Str.{is_utf8}
pub use Rattle.std.specs.Str.Parse.{IsNumeral, without_leading_plus}
pub use Rattle.turn_desk.specs.Desk.{Adds, IsAt, IsFirst, IsSameSeat, Leaves, MeetsAt, SplitsInto, TurnsAt, kin, share}
pub use Rattle.room_history.specs.declared.base.BaseFault.{BaseFault}
pub use Rattle.room_history.specs.declared.entry.Entry.{Entry}
pub use Rattle.room_history.specs.declared.turned.Opening.{Opening}
pub use Rattle.room_interface.specs.declared.ask.RoomCall.{RoomCall}
pub use Rattle.room_interface.specs.declared.ask.RoomReply.{RoomReply}
pub use Rattle.room_server.specs.Fronts.{AreFronts, IsFront, calls_of}
pub use Rattle.room_server.specs.Openings.{AreFine, IsAgain, IsBad, IsFirstFault, IsNameFault, Opens, opening}
pub use Rattle.room_server.specs.Pools.{Meet, Pairs, Pools, Works, seats_of}
pub use Rattle.room_server.specs.Seats.{AreMet, AreSplit, HaveMet, HavePartsFor, IsFresh, IsSet}
pub use Rattle.room_server.specs.Tables.{AreAt, DeskView, LooksThere, Mark, SeatView, SeatedView, TableView, TurnsThere, base_fault, kept_of, known_at, known_by, known_of, known_through, mark, place_by}
pub use Rattle.room_server.specs.declared.table.TableFault.{TableFault}
pub use Rattle.room_server.specs.declared.table.TableFault.TheVariants.{BadName, Memory, Twice, Unsound}
