-- Bytes that are not UTF-8 are not JSON.
use Rattle.std.proofs.Common.{Result, Err, sym, ap, subst, inr, ◌∙◌}
use Rattle.room_program.specs.Prelude.{Bad, Incoming, GivesMessage, spells}
use Rattle.room_program.proofs.LineAnswerLemmas.{spelled-text, spelled-no_text}
use Rattle.room_program.proofs.line.read_message.Goals as goal

pub returns-in-Ok : goal.returns-in-Ok
returns-in-Ok c =
    let cases = c.in-Ok.ensures.cases in
    subst (λ (r : Result Incoming Bad). GivesMessage c.read_request.result r) (ap spells cases.0 ∙ sym (spelled-text c.args.bytes.now cases.1)) c.read_request.ensures.exact

pub returns-in-Err : goal.returns-in-Err
returns-in-Err c =
    inr (spelled-no_text c.args.bytes.now c.in-Err.ensures.cases.0 ∙ ap (λ (b : Bad). Err b) (sym c.unread.ensures))
