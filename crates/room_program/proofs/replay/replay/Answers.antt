-- The room is opened with an empty map.
use Rattle.std.proofs.Common.{[], Err, refl, ap, inl}
use Rattle.room_program.specs.LineAnswers.{script}
use Rattle.room_program.proofs.LineAnswerLemmas.{script-none, script-opened}
use Rattle.room_program.proofs.ReplayLemmas.{ended_by, ended_run, unstarted}
use Rattle.room_program.proofs.StreamLemmas.{with_bytes-none}
use Rattle.room_program.proofs.replay.replay.Goals as goal

pub returns-in_err-block-clause-ran : goal.returns-in_err-block-clause-ran
returns-in_err-block-clause-ran g c =
    unstarted g.S.Source g.W.Sink (script [] c.args.limit) c.args.reads c.args.reader.now c.args.writer.now c.from_residual.result c.from_residual.ensures.1 (script-none [] c.args.limit) c.requires.reader_works
    c.requires.writer_works

pub returns-in_err-block-clause-calls : goal.returns-in_err-block-clause-calls
returns-in_err-block-clause-calls g c = inl refl

-- the clauses are about the room that was opened, over the reader's bytes alone
pub returns-in_err-ran-clause-ran : goal.returns-in_err-ran-clause-ran
returns-in_err-ran-clause-ran g c =
    let said = c.in_err-ran.ensures in
    let fault = c.in_err-ran.field-0.0 in
    let left = g.S.Source.left c.args.reader.now in
    let reader = c.replay_blocks-ran.new.reader in
    let writer = c.replay_blocks-ran.new.writer in
    let opened = script-opened [] c.args.limit c.open-room.result c.open-room.ensures in
    let alone = with_bytes-none [] left refl in
    ended_run g.S.Source g.W.Sink (script [] c.args.limit) left c.args.reads c.args.reader.now reader c.args.writer.now writer c.from_residual-in_err-ran.result fault
    c.from_residual-in_err-ran.ensures.1
    (ended_by g.S.Source g.W.Sink (script [] c.args.limit) left c.args.reads c.args.reader.now reader c.args.writer.now writer fault (rw (opened, alone) at said.front)
    (λ is. rw (opened, alone) at (said.read (ap Err is))) (λ is. said.why_read (ap Err is)) (λ is. said.why_write (ap Err is)) (λ is. said.why_memory (ap Err is)))

pub returns-clause-ran : goal.returns-clause-ran
returns-clause-ran g c =
    let said = c.in_ok-ran.ensures in
    let opened = script-opened [] c.args.limit c.open-room.result c.open-room.ensures in
    let alone = with_bytes-none [] (g.S.Source.left c.args.reader.now) refl in
    (rw (opened, alone) at said.ok, said.works.0, said.works.1)
