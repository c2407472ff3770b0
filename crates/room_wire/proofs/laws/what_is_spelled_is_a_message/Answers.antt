use Rattle.room_wire.proofs.SpelledMessages.{message_found}
use Rattle.room_wire.proofs.laws.what_is_spelled_is_a_message.Goals as goal

pub returns : goal.returns
returns c = message_found
