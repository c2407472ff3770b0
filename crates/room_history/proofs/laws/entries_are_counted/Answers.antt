use Rattle.room_history.proofs.Appending.{applied-append}
use Rattle.room_history.proofs.laws.entries_are_counted.Goals as goal

pub returns : goal.returns
returns g c = applied-append
