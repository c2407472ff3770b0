use Rattle.room_history.proofs.Holding.{journal_holds}
use Rattle.room_history.proofs.laws.journals_hold.Goals as goal

pub returns : goal.returns
returns g c = λ base limit j sound h. journal_holds c.leads_back.ensures.differ c.leads_back.ensures.from c.leads_back.ensures.back base sound limit j h
