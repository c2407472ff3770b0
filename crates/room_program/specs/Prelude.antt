-- The words that proofs of this crate and the crates above cite, passed on from one place. It declares nothing.
pub use Rattle.room_server.specs.Prelude.{AllByRecursion, AreAt, AreFine, AreFronts, Bor, DeskView, GivesMessage, GivesUnder, Global, History, IsBaseFault, IsFirstUnsound, IsFront, IsJournal, IsLegal, IsNameFault, IsTurn, Opens, RoomState, Rows, SeatView, TableView, answer, answer_text, author_of, called, entries, id_told, is_author, is_made_body, is_name_character, is_sound, list_all, list_any, opened, opening, spells, spells_welcome}
pub use Rattle.std.specs.Io.KnownBytes.{Appends, Consumes, IsAtEnd, Keeps}
pub use Rattle.std.specs.Option.{option_map_or}
pub use Rattle.std.specs.Str.{is_utf8}
pub use Rattle.std.specs.Str.Parse.{ExplainsUnsignedError, HasUnsignedDigitsIfOk, IsNumeral, ParsesUnsigned, without_leading_plus}
pub use Rattle.osm_elements.specs.declared.name.Name.{Name}
pub use Rattle.room_history.specs.declared.base.BaseFault.{BaseFault}
pub use Rattle.room_history.specs.declared.entry.Entry.{Entry}
pub use Rattle.room_history.specs.declared.turned.Opening.{Opening}
pub use Rattle.room_interface.specs.declared.author.Author.{Author}
pub use Rattle.room_interface.specs.declared.call.Call.{Call}
pub use Rattle.room_interface.specs.declared.refusal.Refusal.{Refusal}
pub use Rattle.room_program.specs.Bases.{BeginsOn, IsFirstLineOf, IsNoBase, IsTold, IsUnread, Tells, behind, behind_line, first_line, spelled_base}
pub use Rattle.room_program.specs.Calls.{IsAnswered, noted, one_more}
pub use Rattle.room_program.specs.CommandLine.{HasNumber, IsTaken, faults, given_number, limit_option, number_in, number_of, number_option, program_app, replay_app, rows_asked, subcommand_asked}
pub use Rattle.room_program.specs.Commands.{Ran, RanBy, Replays}
pub use Rattle.room_program.specs.Faults.{Takes, base_fault, fault_line, opening_fault, pool_fault, stream_fault, table_fault}
pub use Rattle.room_program.specs.Fronts.{front_lines}
pub use Rattle.room_program.specs.Io.{Puts, calls_of, stream_of}
pub use Rattle.room_program.specs.LineAnswers.{body_answer, line_answer, line_id, message_answer, opened_on, said, script, spelled, split_space}
pub use Rattle.room_program.specs.LineReplies.{IsReply}
pub use Rattle.room_program.specs.Lines.{IsLine, before, ended, lines, with_byte}
pub use Rattle.room_program.specs.Replays.{HasRun}
pub use Rattle.room_program.specs.Runs.{AnswersFront, AnswersSome, AreLines, Runs, joined}
pub use Rattle.room_program.specs.Scripts.{Answer_and_id_lost, Answer_lost, Loss, Nothing, first_loss, later_losses, replies, room_after, script_of}
pub use Rattle.room_program.specs.Servings.{CanBeServed, IsFrontOf, IsUnopened, StopsBy, listening}
pub use Rattle.room_program.specs.Streams.{Gets, GetsAtMost, TookNone, WritesAll, WritesEnded, WritesFront, with_bytes}
pub use Rattle.room_program.specs.declared.base.Later.{Later}
pub use Rattle.room_program.specs.declared.failed.Failed.{Failed}
pub use Rattle.room_program.specs.declared.fault.ProgramFault.{ProgramFault}
pub use Rattle.room_program.specs.declared.fault.ProgramFault.TheVariants.{BadName, Listen, Memory, Replay, TooManyRooms, Twice, Worker}
pub use Rattle.room_program.specs.declared.fault.ReplayFault.{ReplayFault}
pub use Rattle.room_program.specs.declared.fault.StreamFault.{StreamFault}
pub use Rattle.room_program.specs.declared.fault.StreamFault.TheVariants.{Read, Write}
pub use Rattle.room_program.specs.declared.io.Io.{Io}
pub use Rattle.room_program.specs.declared.noted.Calls.{Calls}
pub use Rattle.room_server.specs.declared.pool.PoolFault.{PoolFault}
pub use Rattle.room_server.specs.declared.table.TableFault.{TableFault}
pub use Rattle.room_wire.specs.declared.bad.Bad.{Bad}
pub use Rattle.room_wire.specs.declared.bad.Fault.TheVariants.{NotJson}
pub use Rattle.room_wire.specs.declared.incoming.Body.{Body}
pub use Rattle.room_wire.specs.declared.incoming.Body.TheVariants.{Change, Get, Hello, Map, Undos}
pub use Rattle.room_wire.specs.declared.incoming.Incoming.{Incoming}
pub use Rattle.room_wire.specs.declared.welcome.Welcome.{Welcome}
