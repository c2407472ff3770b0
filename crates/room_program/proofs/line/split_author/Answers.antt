-- The first space ends the author's name.
use Rattle.std.proofs.Common.{sym}
use Rattle.room_program.proofs.LineAnswerLemmas.{said-no_space, said-no_author, said-author}
use Rattle.room_program.proofs.line.split_author.Goals as goal

pub returns-in_err-space : goal.returns-in_err-space
returns-in_err-space c = rw c.from_residual.ensures (said-no_space c.args.line.now c.in_err-space.ensures)

pub returns-in_err-author : goal.returns-in_err-author
returns-in_err-author c =
    rw c.from_residual-in_err-author.ensures (said-no_author c.args.line.now c.in_ok-space.space c.in_ok-space.ensures (sym c.in_err-author.ensures))

pub returns : goal.returns
returns c = said-author c.args.line.now c.in_ok-space.space c.in_ok-author.author c.in_ok-space.ensures (sym c.in_ok-author.ensures)
