use Rattle.room_session.specs.Facts.Running.{answers_keep}
use Rattle.room_session.proofs.hello.welcome.Goals as goal

pub returns-in_err-texts-in-Rows-Ok-clause-keeps : goal.returns-in_err-texts-in-Rows-Ok-clause-keeps
returns-in_err-texts-in-Rows-Ok-clause-keeps g c = answers_keep _ _ _ _ _ c.turn.ensures.answers

pub returns-in-Rows-Ok-clause-keeps : goal.returns-in-Rows-Ok-clause-keeps
returns-in-Rows-Ok-clause-keeps g c = answers_keep _ _ _ _ _ c.turn.ensures.answers

pub returns-clause-keeps : goal.returns-clause-keeps
returns-clause-keeps g c = answers_keep _ _ _ _ _ c.turn.ensures.answers
