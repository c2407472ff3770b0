use Rattle.std.proofs.Common.{sym}
use Rattle.room_session.proofs.Told.{last_at}
use Rattle.room_session.proofs.news.last_number.Goals as goal

pub returns-in-Some : goal.returns-in-Some
returns-in-Some c = sym (last_at c.args.before c.args.news.now c.in-Some.last.now (sym c.in-Some.ensures.value))
