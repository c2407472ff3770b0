use Rattle.std.proofs.Common.{arith}
use Rattle.room_session.specs.Facts.Running.{keeps_both, not_shorter}
use Rattle.room_session.proofs.replies.reply_and_news.Goals as goal

pub catch_up-requires-clause-told : goal.catch_up-requires-clause-told
catch_up-requires-clause-told g c = let long = not_shorter _ _ (c.reply.ensures.keeps.at c.args.room).seen in omega (arith, long, c.requires.told)

pub returns-clause-keeps : goal.returns-clause-keeps
returns-clause-keeps g c = keeps_both _ _ _ c.reply.ensures.keeps c.catch_up.ensures.keeps
