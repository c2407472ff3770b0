use Rattle.room_server.specs.Inner.Opened.{AreOpened}
use Rattle.room_server.proofs.table.open_copies.Given as goal

-- the rooms so far were opened
abbrev pub invariant-loop : goal.invariant-loop
invariant-loop l = AreOpened l.rows l.limit l.counter l.desks.items l.seats.items
