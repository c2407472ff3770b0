-- What a message asks of its room, and the answer to it. The messages are this project's.
use Rattle.std.specs.Prelude.{ℕ, List, Option, Some, None, Ok}
use Rattle.std.specs.declared.alloc.Global.{Global}
use denote.Bor.{Bor}
use Rattle.serde_json.specs.Written.{compact_text}
use Rattle.osm_elements.specs.declared.name.Name.{Name}
use Rattle.osm_elements.specs.declared.element.Element.{Element}
use Rattle.room_interface.specs.declared.author.Author.{Author}
use Rattle.room_interface.specs.declared.ask.RoomCall.{RoomCall}
use Rattle.room_interface.specs.declared.ask.RoomReply.{RoomReply}
use Rattle.room_wire.specs.declared.answer.Answer.{Answer}
use Rattle.room_wire.specs.declared.incoming.Body.{Body}
use Rattle.room_wire.specs.declared.incoming.Body.TheVariants.{Hello, Change, Get, Map, Undos}
use Rattle.room_wire.specs.Trees.{tree_of}
use Rattle.room_interface.specs.declared.ask.RoomCall.TheVariants as calls
use Rattle.room_interface.specs.declared.ask.RoomReply.TheVariants as replies
use Rattle.room_wire.specs.declared.answer.Answer.TheVariants as answers

-- the call that an author's message under this id makes to the room; a hello makes none
abbrev pub asked : Author → ℕ → Body → Option (RoomCall Global)
asked author id (Hello room name) = None
asked author id (Change request) = Some (calls.Take (record { author = author; id = id; request = request }))
asked author id (Get name) = Some (calls.Get name)
asked author id Map = Some calls.Rows
asked author id Undos = Some (calls.Undos author)

-- a reference to a value, at any address
abbrev pub to_value : {X : Type 0} → X → Bor X
to_value x = record { ref_ptr = (0, 0); now = x }

-- the answer with the element of a name, or that there is no such element
abbrev pub found_answer : Name → Option (Element Global) → Answer
found_answer name None = answers.Absent name
found_answer name (Some element) = answers.Is name (to_value element)

-- The answer to a message, from the room's reply to what it asks: the outcome of a change, an element, the rows with the
-- entry count, or both lists. If the room ran out of memory, it is `Memory`. No message asks for news.
abbrev pub answer_to : RoomReply Global → Answer
answer_to (replies.Take reply) = answers.Reply (to_value reply)
answer_to (replies.Get name (Ok found)) = found_answer name found
answer_to (replies.Rows (Ok rows)) = answers.Map (to_value rows.1) rows.0
answer_to (replies.Undos (Ok lists)) = answers.Undos (to_value lists.undos) (to_value lists.redos)
answer_to reply = answers.Memory

-- the text of an answer, under the id of its message
abbrev pub answer_text : ℕ → Answer → List ℕ
answer_text id answer = compact_text (tree_of id answer)
