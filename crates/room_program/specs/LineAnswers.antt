-- The meaning of a line, and a room's reply to it.
use Rattle.std.specs.Prelude.{◌==◌, ℕ, List, [], ◌∷◌, Option, Some, None, Result, Ok, Err, if◌then◌else◌, option_map, option_and_then}
use Rattle.room_server.specs.Prelude.{is_utf8, Global, author_of, Rows, RoomState, room_answer, answer_to, asked, answer_text, id_told, spells}
use Rattle.room_interface.specs.declared.author.Author.{Author}
use Rattle.room_interface.specs.declared.ask.RoomCall.{RoomCall}
use Rattle.room_wire.specs.declared.bad.Bad.{Bad}
use Rattle.room_wire.specs.declared.bad.Fault.TheVariants.{NotJson}
use Rattle.room_wire.specs.declared.incoming.Incoming.{Incoming}
use Rattle.room_wire.specs.declared.incoming.Body.{Body}
use Rattle.room_program.specs.Scripts.{Loss, Nothing, Answer_lost, Answer_and_id_lost, script_of}
use Rattle.room_wire.specs.declared.answer.Answer.TheVariants as answers

-- the bytes before the first space (32) and the bytes after it, if there is a space
abbrev pub split_space : List ℕ → Option (List ℕ × List ℕ)
split_space [] = None
split_space (b ∷ bs) = if b == 32 then Some ([], bs) else option_map (λ p. (b ∷ p.0, p.1)) (split_space bs)

-- an author's name and a message
abbrev pub with_author : List ℕ × List ℕ → Option (Author × List ℕ)
with_author p = option_map (λ author. (author, p.1)) (author_of p.0)

-- the author that a line names before its first space, and the line's message
abbrev pub said : List ℕ → Option (Author × List ℕ)
said line = option_and_then with_author (split_space line)

-- the meaning of a message's bytes: what they spell as a text; bytes that are not UTF-8 are not JSON
abbrev pub spelled : List ℕ → Result Incoming Bad
spelled bytes = if is_utf8 bytes then spells bytes else Err (record { id = 0; fault = NotJson })

-- The reply to what a message asks of the room, and the room after it. A message that asks nothing is a hello, which
-- gets `hello_twice`: in a script, every author's session has begun.
abbrev pub asked_answer : RoomState Global → ℕ → Option (RoomCall Global) → List ℕ × RoomState Global
asked_answer room id None = (answer_text id answers.HelloTwice, room)
asked_answer room id (Some call) =
    let step = room_answer room.base room.limit room.journal call in
    (answer_text id (answer_to step.0), record { base = room.base; limit = room.limit; journal = step.1 })

-- the reply to an author's message, and the room after it
abbrev pub body_answer : RoomState Global → Author → ℕ → Body → List ℕ × RoomState Global
body_answer room author id body = asked_answer room id (asked author id body)

abbrev pub message_answer : RoomState Global → Author → Result Incoming Bad → List ℕ × RoomState Global
message_answer room author (Ok message) = body_answer room author message.id message.body
message_answer room author (Err bad) = (answer_text bad.id (answers.Fault bad.fault), room)

abbrev pub line_answer : RoomState Global → Option (Author × List ℕ) → List ℕ × RoomState Global
line_answer room None = (answer_text 0 answers.BadLine, room)
line_answer room (Some p) = message_answer room p.0 (spelled p.1)

-- the id of a line's message, or 0 if it has none
abbrev pub line_id : Option (Author × List ℕ) → ℕ
line_id None = 0
line_id (Some p) = id_told (spelled p.1)

-- a line gets the reply to its message; if this reply was lost, it gets `memory`
unfoldable pub answered : Loss → RoomState Global → List ℕ → List ℕ × RoomState Global
answered Nothing room line = line_answer room (said line)
answered Answer_lost room line = (answer_text (line_id (said line)) answers.Memory, room)
answered Answer_and_id_lost room line = (answer_text 0 answers.Memory, room)

-- a room that begins with this map and an empty journal
abbrev pub opened_on : Rows Global → ℕ → RoomState Global
opened_on base limit = record { base = base; limit = limit; journal = [] }

-- the output for the bytes of a stream, by a room that begins with this map: the reply to each line, and a line feed
unfoldable pub script : Rows Global → ℕ → List ℕ → List Loss → List ℕ
script base limit = script_of answered (opened_on base limit)
