use Rattle.room_history.proofs.Beginnings.{first_entries}
use Rattle.room_history.proofs.laws.journals_begin.Goals as goal

pub returns : goal.returns
returns g c = λ base limit j n h. first_entries base limit j h n
