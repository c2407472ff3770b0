use Rattle.std.proofs.Common.{ap, ◌∙◌, []}
use Rattle.room_server.specs.Prelude.{RoomState, opening}
use Rattle.room_server.proofs.Opening.{none_opened, one_opened}
use Rattle.room_server.proofs.table.open_copies.Goals as goal

pub loop-init : goal.loop-init
loop-init c = none_opened c.args.rows.now c.args.limit c.new-desks.result.items c.new-seats.result.items c.new-desks.ensures.items c.new-seats.ensures.items

pub loop-preserved : goal.loop-preserved
loop-preserved c =
    let seated = c.in_ok-seat_room.ensures in
    let begun = c.in_ok-room.ensures.ok ∙ ap (λ rows. record { base = rows; limit = c.args.limit; journal = [] }) c.in_ok-copy.ensures in
    one_opened c.args.rows.now c.args.limit c.loop.counter c.loop.desks.items c.seat_room.new.desks.items c.loop.seats.items c.seat_room.new.seats.items seated.0 seated.1
    seated.2 seated.3 (seated.4 ∙ ap (λ (r : RoomState _). opening r.base r.limit) begun) seated.5 seated.6 c.loop.invariant
