use Rattle.room_mirror.specs.Prelude.{sound_in_order, mapof}
use Rattle.room_mirror.proofs.laws.a_room_can_be_mirrored.Goals as goal

pub returns : goal.returns
returns g c = λ base limit j sound legal. sound_in_order (mapof base j) (c.journals_hold.ensures base limit j sound legal).sound
