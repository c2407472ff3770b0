-- The answer to what a message asks for, or to its fault.
use Rattle.std.proofs.lemmas.Result.{IfOk-weaker}
use Rattle.room_program.proofs.LineAnswerLemmas.{reply-bad, reply-read}
use Rattle.room_program.proofs.line.answer_message.Goals as goal

pub returns-in-Ok : goal.returns-in-Ok
returns-in-Ok c =
    IfOk-weaker c.answer_body.result _ _
    (λ text h. reply-read c.args.room.now c.args.author c.in-Ok.field-0 _ text c.answer_body.new.room c.in-Ok.ensures h)
    c.answer_body.ensures

pub returns-in-Err : goal.returns-in-Err
returns-in-Err c =
    IfOk-weaker c.reply_text.result _ _
    (λ text h. reply-bad c.args.room.now c.args.author c.in-Err.bad _ text c.in-Err.ensures h)
    c.reply_text.ensures.text
