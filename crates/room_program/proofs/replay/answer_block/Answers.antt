-- The replies to further lines are written after the earlier ones.
use Rattle.std.proofs.Common.{List, ℕ, [], ◌++◌, sym, subst, append-nil}
use Rattle.room_program.specs.Runs.{AnswersSome}
use Rattle.room_program.proofs.BlockLemmas.{written-more, written-some}
use Rattle.room_program.proofs.StreamLemmas.{on_err}
use Rattle.room_program.proofs.replay.answer_block.Goals as goal

pub returns-in_err-write_to-clause-front : goal.returns-in_err-write_to-clause-front
returns-in_err-write_to-clause-front g c =
    let some = c.answer_lines-answered.ensures.some in
    let part = c.in_err-write_to.ensures.front in
    let now = c.loop-rest.begun.items ++ c.loop-rest.rest.now in
    on_err c.from_residual.result
    (written-some _ _ _ _ _ _ _ c.loop-rest.invariant.written (g.W.Sink.taken c.write_to.new.writer) part.0 part.1
    (subst (λ (bs : List ℕ). AnswersSome g.A.Answerer.answered c.loop-rest.answers now bs) part.2 some) part.3)

pub returns-in_err-rest-clause-front : goal.returns-in_err-rest-clause-front
returns-in_err-rest-clause-front g c =
    let some = c.answer_lines-answered.ensures.some in
    let out = c.answer_lines-answered.new.replies in
    let now = c.loop-rest.begun.items ++ c.loop-rest.rest.now in
    on_err c.from_residual-in_err-rest.result
    (written-some _ _ _ _ _ _ _ c.loop-rest.invariant.written (g.W.Sink.taken c.write_to.new.writer) out []
    (subst (λ (bs : List ℕ). AnswersSome g.A.Answerer.answered c.loop-rest.answers now bs) (sym (append-nil out)) some)
    c.in_ok-write_to.ensures.ok)

pub loop-rest-preserved : goal.loop-rest-preserved
loop-rest-preserved g c = record {
  written = written-more _ _ _ _ _ _ _ c.loop-rest.invariant.written (g.W.Sink.taken c.write_to.new.writer) c.answer_lines-answered.new.replies (c.answer_lines-answered.new.begun.items ++ c.in_ok-rest.rest.now) c.answer_lines-answered.new.answers
      c.in_ok-rest.ensures.ok c.in_ok-write_to.ensures.ok;
  held = c.in_ok-rest.ensures.held;
  works = c.in_ok-write_to.ensures.works;
  empty = c.clear.ensures;
}
