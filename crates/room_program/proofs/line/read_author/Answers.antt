-- Bytes that are not UTF-8 are not a name.
use Rattle.std.proofs.Common.{sym, ap, ◌∙◌}
use Rattle.room_interface.specs.Authors.{author_of}
use Rattle.room_program.proofs.LineAnswerLemmas.{author_of-no_text}
use Rattle.room_program.proofs.line.read_author.Goals as goal

pub returns-in-Err : goal.returns-in-Err
returns-in-Err c = sym (author_of-no_text c.args.name.now c.in-Err.ensures.cases.0)

pub returns-in-Ok : goal.returns-in-Ok
returns-in-Ok c = c.read.ensures ∙ ap author_of c.in-Ok.ensures.cases.0
