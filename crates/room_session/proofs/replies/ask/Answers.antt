use Rattle.room_session.specs.Facts.Running.{answers_keep}
use Rattle.room_session.proofs.Replying.{replied}
use Rattle.room_session.proofs.replies.ask.Goals as goal

pub returns-clause-asks : goal.returns-clause-asks
returns-clause-asks g c = replied _ _ _ _ _ c.turn-reply.result _ _ c.turn-reply.ensures.answers c.to.ensures c.reply_text.ensures.text

pub returns-clause-keeps : goal.returns-clause-keeps
returns-clause-keeps g c = answers_keep _ _ _ _ _ c.turn-reply.ensures.answers
