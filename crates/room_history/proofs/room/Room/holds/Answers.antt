use Rattle.room_history.proofs.Holding.{journal_holds}
use Rattle.room_history.proofs.room.Room.holds.Goals as goal

pub returns : goal.returns
returns g c =
    let room = c.self.invariant in
    rw (← c.self.view_is) (journal_holds c.leads_back.ensures.differ c.leads_back.ensures.from c.leads_back.ensures.back c.self.inside.base.value room.base_sound c.self.inside.limit c.self.inside.entries.items room.journal)
