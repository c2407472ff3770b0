use Rattle.std.proofs.Common.{◌∙◌, sym}
use Rattle.room_session.proofs.Replying.{asked_for, unasked}
use Rattle.room_session.proofs.replies.reply_to_author.Goals as goal

pub returns-in_default-clause-body : goal.returns-in_default-clause-body
returns-in_default-clause-body g c = unasked _ _ _ _ _ (sym c.into_call.ensures ∙ c.in_default.is) c.reply_text.ensures.text

pub returns-clause-body : goal.returns-clause-body
returns-clause-body g c = asked_for _ _ _ _ _ c.in-Some.call _ (sym c.into_call.ensures ∙ c.in-Some.is) c.ask.ensures.asks
