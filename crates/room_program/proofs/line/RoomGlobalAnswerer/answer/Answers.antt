-- A line is answered by its author and its message.
use Rattle.std.proofs.Common.{List, ℕ, ap, sym, ◌∙◌}
use Rattle.std.proofs.lemmas.Result.{IfOk-weaker}
use Rattle.room_program.proofs.LineAnswerLemmas.{answered-reply, answered-none}
use Rattle.room_program.proofs.line.RoomGlobalAnswerer.answer.Goals as goal

pub returns-in-Some : goal.returns-in-Some
returns-in-Some c =
    IfOk-weaker c.answer_message.result _ _
    (λ text h. answered-reply c.args.self.now c.args.line.now c.in-Some.said.message.now c.in-Some.said.author text c.answer_message.new.room c.in-Some.ensures h)
    c.answer_message.ensures

pub returns-in-None : goal.returns-in-None
returns-in-None c =
    IfOk-weaker c.reply_text.result _ _
    (λ text h. let a = answered-none c.args.self.now c.args.line.now c.in-None.ensures in
    (a.0, a.1 ∙ ap (λ (t : List ℕ). (t, c.args.self.now)) (sym h)))
    c.reply_text.ensures.text
