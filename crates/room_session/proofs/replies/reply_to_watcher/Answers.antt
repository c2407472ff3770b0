use Rattle.std.proofs.Common.{refl, sym, subst}
use Rattle.room_session.specs.Prelude.{RepliesToWatcher}
use Rattle.room_session.proofs.Replying.{unwatched}
use Rattle.room_wire.specs.declared.answer.Answer.TheVariants as answers
use Rattle.room_session.proofs.replies.reply_to_watcher.Goals as goal

pub returns-in-Hello-clause-body : goal.returns-in-Hello-clause-body
returns-in-Hello-clause-body g c =
    let known = g.R.Rooms.known c.args.rooms.now in
    unwatched known known c.args.room c.args.id c.args.body.now c.reply_text.result answers.HelloTwice
    (λ due alone. subst (λ body. RepliesToWatcher known c.args.room c.args.id body due known) (sym c.in-Hello.is) alone) refl c.reply_text.ensures.text

pub returns-in-Change-clause-body : goal.returns-in-Change-clause-body
returns-in-Change-clause-body g c =
    let known = g.R.Rooms.known c.args.rooms.now in
    unwatched known known c.args.room c.args.id c.args.body.now c.reply_text-in-Change.result answers.NoName
    (λ due alone. subst (λ body. RepliesToWatcher known c.args.room c.args.id body due known) (sym c.in-Change.is) alone) refl c.reply_text-in-Change.ensures.text

pub returns-in-Undos-clause-body : goal.returns-in-Undos-clause-body
returns-in-Undos-clause-body g c =
    let known = g.R.Rooms.known c.args.rooms.now in
    unwatched known known c.args.room c.args.id c.args.body.now c.reply_text-in-Undos.result answers.NoName
    (λ due alone. subst (λ body. RepliesToWatcher known c.args.room c.args.id body due known) (sym c.in-Undos.is) alone) refl c.reply_text-in-Undos.ensures.text
