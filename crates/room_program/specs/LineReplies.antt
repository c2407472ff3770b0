-- The result of answering a line.
use Rattle.std.specs.Prelude.{◌≡◌, ◌⊎◌, ℕ, List}
use Rattle.room_server.specs.Prelude.{Global, RoomState, answer_text}
use Rattle.room_wire.specs.declared.answer.Answer.TheVariants as answers

-- The reply and the room after it are the specified ones. Or the reply is `memory`, under the message's id or under 0,
-- and the room is unchanged.
abbrev pub IsReply : List ℕ × RoomState Global → ℕ → RoomState Global → List ℕ → RoomState Global → Type 0
IsReply by_definition id room text after =
    (by_definition ≡ (text, after))
    ⊎ (((text ≡ answer_text id answers.Memory) ⊎ (text ≡ answer_text 0 answers.Memory)) × (after ≡ room))
