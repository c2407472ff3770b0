use Rattle.std.proofs.Common.{ap}
use Rattle.room_session.specs.Prelude.{only, keeps_all, keeps_to}
use Rattle.room_session.proofs.Making.{makes_none_to, nothing_is_made, wait_makes_none}
use Rattle.room_session.proofs.session.Session.on_quiet.Goals.{in-BeforeHello, in-Open}
use Rattle.room_session.proofs.session.Session.on_quiet.Goals as goal

pub returns-clause-makes : goal.returns-clause-makes
returns-clause-makes g c = elim c.match-self.branch [
  | in-BeforeHello w ↦ makes_none_to (g.R.Rooms.known c.args.rooms.now) _ _ (ap (λ r. g.R.Rooms.known r) w.rooms-is) (nothing_is_made (g.R.Rooms.known c.args.rooms.now))
  | in-Open w ↦ makes_none_to (g.R.Rooms.known c.args.rooms.now) _ _ (ap (λ r. g.R.Rooms.known r) w.rooms-is)
      (wait_makes_none (g.R.Rooms.known c.args.rooms.now) _ (λ n. only n.texts) (λ n. n.state) _ w.in-Open.speaker _ _ w.news_alone-next.ensures.ok w.news_alone-next.ensures.err)
]

pub returns-clause-keeps : goal.returns-clause-keeps
returns-clause-keeps g c = elim c.match-self.branch [
  | in-BeforeHello w ↦ keeps_to _ _ _ (ap (λ r. g.R.Rooms.known r) w.rooms-is) (keeps_all (g.R.Rooms.known c.args.rooms.now))
  | in-Open w ↦ keeps_to _ _ _ (ap (λ r. g.R.Rooms.known r) w.rooms-is) w.news_alone-next.ensures.keeps
]
