use Rattle.std.proofs.Common.{◌≡◌, ◌++◌, List, Result, ◌∙◌, ap, arith}
use Rattle.room_session.specs.Prelude.{AllocError, Global, News, looks_keep, news_texts}
use Rattle.room_session.specs.Inner.LastTold.{last_told}
use Rattle.room_session.proofs.CatchingUp.{news_keep, news_told, nothing_new}
use Rattle.room_interface.specs.declared.ask.RoomReply.TheVariants as replies
use Rattle.room_session.proofs.news.tell.Goals as goal

pub returns-then-front-told-clause-ok : goal.returns-then-front-told-clause-ok
returns-then-front-told-clause-ok g c =
    nothing_new _ _ c.args.room c.args.told c.front.result c.args.texts.now c.requires.told c.front.ensures.looks (omega (arith, c.if-front-told.true))

pub returns-then-front-told-clause-keeps : goal.returns-then-front-told-clause-keeps
returns-then-front-told-clause-keeps g c = looks_keep _ _ _ _ c.front.ensures.looks

pub returns-in_err-add-in-News-Ok-clause-keeps : goal.returns-in_err-add-in-News-Ok-clause-keeps
returns-in_err-add-in-News-Ok-clause-keeps g c = news_keep _ _ _ c.args.room c.front.result c.args.told c.turn.result c.front.ensures.looks c.turn.ensures.answers

pub returns-in-News-Ok-clause-ok : goal.returns-in-News-Ok-clause-ok
returns-in-News-Ok-clause-ok g c =
    let told = c.args.told in
    let texts = c.args.texts.now in
    let list = c.in-News-Ok.news in
    let all : c.add.new.texts ≡ texts ++ news_texts list = c.in_ok-add-in-News-Ok.ensures ∙ ap (λ ns. texts ++ news_texts ns) c.as_slice.ensures in
    let tells = news_told _ _ _ c.args.room told c.front.result list texts c.add.new.texts c.turn.result (c.in-News-Ok.is ∙ ap (λ (r : Result (List (News Global)) AllocError). replies.News r) c.in-News-Ok.field-0-is) c.requires.told c.front.ensures.looks (omega (arith, c.if-front-told.false)) c.turn.ensures.answers all in
    (tells.0, tells.1, tells.2, c.last_number.ensures ∙ ap (λ ns. last_told told ns) c.as_slice-in-News-Ok.ensures ∙ tells.3)

pub returns-in-News-Ok-clause-keeps : goal.returns-in-News-Ok-clause-keeps
returns-in-News-Ok-clause-keeps g c = news_keep _ _ _ c.args.room c.front.result c.args.told c.turn.result c.front.ensures.looks c.turn.ensures.answers

pub returns-clause-keeps : goal.returns-clause-keeps
returns-clause-keeps g c = news_keep _ _ _ c.args.room c.front.result c.args.told c.turn.result c.front.ensures.looks c.turn.ensures.answers
