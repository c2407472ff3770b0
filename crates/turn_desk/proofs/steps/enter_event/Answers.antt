use Rattle.std.proofs.Common.{rules}
use Rattle.turn_desk.proofs.Storing.{stores}
use Rattle.turn_desk.proofs.steps.enter_event.Goals as goal

pub store-requires : goal.store-requires
store-requires g c = let turn = c.requires.turn in let room = c.requires.room in
    (search rules, search rules, stores g.R.Turned.fixed g.R.Turned.list g.R.Turned.answers _ _ _ _ room.0 _ _ c.requires.seat.2 turn.1 room.1 room.2 room.3 room.4)
