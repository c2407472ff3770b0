use Rattle.room_wire.proofs.WellFormedProofs.{message_spelled}
use Rattle.room_wire.proofs.laws.a_message_spells_itself.Goals as goal

pub returns : goal.returns
returns c = message_spelled
