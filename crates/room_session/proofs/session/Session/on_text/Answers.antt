use Rattle.std.proofs.Common.{◌∙◌, refl, sym, ap}
use Rattle.room_session.proofs.Coming.{heard_first, heard}
use Rattle.room_session.proofs.Making.{ended_makes, hearing_makes}
use Rattle.room_session.proofs.session.Session.on_text.Goals as goal
use Rattle.room_session.proofs.session.Session.on_text.Goals.{in-BeforeHello, in-Open}

pub returns-clause-ok : goal.returns-clause-ok
returns-clause-ok g c = elim c.match-self.branch [
  | in-BeforeHello w ↦ heard_first w.in-BeforeHello.caller _ _ _ _ c.args.text.now _ _ _ _ (sym c.self.view_is ∙ w.in-BeforeHello.is) (ap (λ r. g.R.Rooms.known r) w.rooms-is) w.next-is w.greet-next.ensures.text c.go.ensures
  | in-Open w ↦ heard _ _ _ _ w.in-Open.room w.in-Open.speaker w.in-Open.told c.args.text.now _ _ _ _ (sym c.self.view_is ∙ w.in-Open.is) (ap (λ r. g.R.Rooms.known r) w.rooms-is) w.next-is w.reply_and_news-next.ensures.text c.go.ensures
]

pub returns-clause-makes : goal.returns-clause-makes
returns-clause-makes g c = hearing_makes _ _ _ _ _ _ (returns-clause-ok g c)

pub returns-in-Closed-clause-makes : goal.returns-in-Closed-clause-makes
returns-in-Closed-clause-makes g c = ended_makes _ _ _ _ (sym c.self.view_is ∙ c.in-Closed.is) refl
