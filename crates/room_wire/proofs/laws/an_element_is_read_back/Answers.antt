use Rattle.room_wire.proofs.ElementBack.{element_read_back}
use Rattle.room_wire.proofs.laws.an_element_is_read_back.Goals as goal

pub returns : goal.returns
returns c = element_read_back c.latitude_is_read_back.ensures c.longitude_is_read_back.ensures
