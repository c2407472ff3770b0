use Rattle.room_wire.proofs.NewsBackProofs.{welcome_read_back}
use Rattle.room_wire.proofs.laws.a_welcome_is_read_back.Goals as goal

pub returns : goal.returns
returns c = welcome_read_back c.latitude_is_read_back.ensures c.longitude_is_read_back.ensures
