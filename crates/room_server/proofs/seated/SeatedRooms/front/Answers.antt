use Rattle.std.proofs.Common.{◌≡◌, arith, subst, sym}
use Rattle.std.proofs.lemmas.Option.{slice_get_within}
use Rattle.room_server.specs.Prelude.{HasRoom, TellsLength, SeatedView, kept_of, known_of}
use Rattle.room_server.proofs.Seating.{room_is_below, look_looks, look_at, look_kept}
use Rattle.room_server.proofs.seated.SeatedRooms.front.Goals as goal

pub desk-desk-requires : goal.desk-desk-requires
desk-desk-requires c =
    let is = subst (λ (s : SeatedView). HasRoom (known_of s) c.args.room) (sym c.self.view_is) c.requires in
    room_is_below (record { table = c.self.inside.table.now; seats = c.self.inside.seats.items }) c.args.room is

pub look_at-requires-clause-room : goal.look_at-requires-clause-room
look_at-requires-clause-room c =
    let below = slice_get_within c.self.inside.table.now.desks c.args.room c.desk-desk.result.now c.desk-desk.ensures in
    let many = c.self.invariant.0 in
    let items = c.self.inside.seats.ok.0 in
    omega (arith, below, many, items)

pub invariant_of-self : goal.invariant_of-self
invariant_of-self c =
    look_at c.self.inside.table.now c.self.inside.seats.items c.look_at.new.seats.items c.args.room c.desk-desk.result.now c.desk-desk.ensures
    (λ h legal. c.legal_histories_hold.ensures.journal c.desk-desk.result.now.fixed h legal) c.look_at.result c.look_at.ensures c.self.invariant

pub returns-clause-looks : goal.returns-clause-looks
returns-clause-looks c =
    subst (λ (before : SeatedView). TellsLength (known_of before) c.args.room c.look_at.result (known_of (record { table = c.self.inside.table.now; seats = c.look_at.new.seats.items }))) c.self.view_is
    (look_looks c.self.inside.table.now c.self.inside.seats.items c.look_at.new.seats.items c.args.room c.desk-desk.result.now c.desk-desk.ensures
    (λ h legal. c.legal_histories_hold.ensures.journal c.desk-desk.result.now.fixed h legal) c.look_at.result c.look_at.ensures)

pub returns-clause-kept : goal.returns-clause-kept
returns-clause-kept c =
    subst (λ (before : SeatedView). kept_of (record { table = c.self.inside.table.now; seats = c.look_at.new.seats.items }) ≡ kept_of before) c.self.view_is
    (look_kept c.self.inside.table.now c.self.inside.seats.items c.look_at.new.seats.items c.args.room c.desk-desk.result.now c.desk-desk.ensures
    (λ h legal. c.legal_histories_hold.ensures.journal c.desk-desk.result.now.fixed h legal) c.look_at.result c.look_at.ensures)
