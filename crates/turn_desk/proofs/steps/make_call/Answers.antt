use Rattle.std.proofs.Common.{ap, ◌∙◌, [], ◌∷◌, Some}
use Rattle.turn_desk.proofs.Turning.{calls}
use Rattle.turn_desk.proofs.steps.make_call.Goals as goal

pub returns-clause-call : goal.returns-clause-call
returns-clause-call g c = let slot = c.take_room-room.ensures.slot in
    calls g.R.Turned.fixed g.R.Turned.list g.R.Turned.answers _ c.args.place.now.me c.put_room.new.place.me _ _ _ c.take_room-room.result c.turn-reply.new.self _ c.requires.seat.2 slot.0 c.requires.room
    c.turn-reply.ensures.answer (c.put_room.ensures.slot ∙ ap (λ m. (m.0, (0, Some c.turn-reply.new.self) ∷ [])) slot.1) c.enter_event.ensures.event
