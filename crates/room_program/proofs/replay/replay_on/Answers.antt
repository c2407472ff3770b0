-- The bytes after a first line with a sound map are run; otherwise that line's fault is returned.
use Rattle.std.proofs.Common.{[], Err, Option, refl, ap, inl, inr, subst}
use Rattle.room_program.specs.Prelude.{Later, behind, base_fault, stream_fault, script}
use Rattle.room_program.specs.Inner.FirstLines.{ReadsTo}
use Rattle.room_program.proofs.FirstLineLemmas.{err_is}
use Rattle.room_program.proofs.LineAnswerLemmas.{script-none, script-opened}
use Rattle.room_program.proofs.ReplayLemmas.{bad_unread, calls_behind, done_behind, ended_behind_by, ended_run, line_begins, line_unread, nothing_behind, told_no_base, unread_no_base}
use Rattle.room_program.proofs.replay.replay_on.Goals as goal

pub returns-in_err-first-clause-ran : goal.returns-in_err-first-clause-ran
returns-in_err-first-clause-ran g c =
    let reader = c.args.reader.now in
    let between = c.read_first_line.new.reader in
    let fault = c.in_err-first.field-0.0 in
    inr (
      stream_fault fault,
      err_is c.from_residual-in_err-first.result (stream_fault fault) c.from_residual-in_err-first.ensures.1,
      refl,
      unread_no_base g.S.Source c.args.reads reader between (stream_fault fault) (line_unread g.S.Source c.args.reads reader between fault c.in_err-first.ensures.err),
    )

pub returns-in_err-rows-clause-ran : goal.returns-in_err-rows-clause-ran
returns-in_err-rows-clause-ran g c =
    let reader = c.args.reader.now in
    let between = c.read_first_line.new.reader in
    let line = c.in_ok-first.first.line.items in
    let read = c.in_ok-first.ensures.ok in
    let begins = line_begins g.S.Source c.args.reads reader between line c.in_ok-first.first.later read.is_line read.to in
    let fault = c.in_err-rows.field-0.0 in
    inr (
      fault,
      err_is c.from_residual-in_err-rows.result fault c.from_residual-in_err-rows.ensures.1,
      refl,
      unread_no_base g.S.Source c.args.reads reader between fault (bad_unread g.S.Source c.args.reads reader between line fault begins c.in_ok-first.ensures.works c.in_err-rows.ensures.err),
    )

pub returns-in_err-room-clause-ran : goal.returns-in_err-room-clause-ran
returns-in_err-room-clause-ran g c =
    let reader = c.args.reader.now in
    let between = c.read_first_line.new.reader in
    let line = c.in_ok-first.first.line.items in
    let read = c.in_ok-first.ensures.ok in
    let begins = line_begins g.S.Source c.args.reads reader between line c.in_ok-first.first.later read.is_line read.to in
    let fault = c.in_err-room.field-0.0 in
    inr (
      base_fault fault,
      err_is c.from_residual-in_err-room.result (base_fault fault) c.from_residual-in_err-room.ensures.1,
      refl,
      told_no_base g.S.Source c.args.reads reader between c.in_ok-rows.rows fault (line, begins, c.in_ok-rows.ensures.ok) c.in_ok-first.ensures.works c.in_err-room.ensures.err,
    )

-- the stream ended with the line
pub returns-in_default-clause-ran : goal.returns-in_default-clause-ran
returns-in_default-clause-ran g c =
    let reader = c.args.reader.now in
    let between = c.read_first_line.new.reader in
    let line = c.in_ok-first.first.line.items in
    let read = c.in_ok-first.ensures.ok in
    let begins = line_begins g.S.Source c.args.reads reader between line c.in_ok-first.first.later read.is_line read.to in
    let base = c.in_ok-rows.rows in
    let to = subst (λ (l : Option Later). ReadsTo g.S.Source c.args.reads reader between line l) c.in_default.is read.to in
    inl (
      base,
      (line, begins, c.in_ok-rows.ensures.ok),
      c.in_ok-room.ensures.sound,
      nothing_behind g.S.Source g.W.Sink (script base c.args.limit) c.args.reads reader between between c.args.writer.now c.args.writer.now line read.is_line to (script-none base c.args.limit)
          c.in_ok-first.ensures.works c.requires.writer_works,
    )

-- the bytes after the line were run
pub returns-in_err-ran-clause-ran : goal.returns-in_err-ran-clause-ran
returns-in_err-ran-clause-ran g c =
    let reader = c.args.reader.now in
    let between = c.read_first_line.new.reader in
    let line = c.in_ok-first.first.line.items in
    let read = c.in_ok-first.ensures.ok in
    let begins = line_begins g.S.Source c.args.reads reader between line c.in_ok-first.first.later read.is_line read.to in
    let base = c.in_ok-rows.rows in
    let later = c.in-Some.later in
    let to = subst (λ (l : Option Later). ReadsTo g.S.Source c.args.reads reader between line l) c.in-Some.is read.to in
    let opened = script-opened base c.args.limit c.in_ok-room.room c.in_ok-room.ensures.ok in
    let said = c.in_err-ran.ensures in
    let fault = c.in_err-ran.field-0.0 in
    let end = c.replay_blocks-ran.new.reader in
    let writer = c.replay_blocks-ran.new.writer in
    inl (
      base,
      (line, begins, c.in_ok-rows.ensures.ok),
      c.in_ok-room.ensures.sound,
      ended_run g.S.Source g.W.Sink (script base c.args.limit) (behind (g.S.Source.left reader)) c.args.reads reader end c.args.writer.now writer c.from_residual-in_err-ran.result fault
          c.from_residual-in_err-ran.ensures.1
          (ended_behind_by g.S.Source g.W.Sink (script base c.args.limit) c.args.reads reader between end c.args.writer.now writer line read.is_line later to fault (rw (opened, c.deref.ensures.value) at said.front)
          (λ is. rw (opened, c.deref.ensures.value) at (said.read (ap Err is))) (λ is. said.why_read (ap Err is)) (λ is. said.why_write (ap Err is)) (λ is. said.why_memory (ap Err is))),
    )

pub returns-clause-ran : goal.returns-clause-ran
returns-clause-ran g c =
    let reader = c.args.reader.now in
    let between = c.read_first_line.new.reader in
    let line = c.in_ok-first.first.line.items in
    let read = c.in_ok-first.ensures.ok in
    let begins = line_begins g.S.Source c.args.reads reader between line c.in_ok-first.first.later read.is_line read.to in
    let base = c.in_ok-rows.rows in
    let later = c.in-Some.later in
    let to = subst (λ (l : Option Later). ReadsTo g.S.Source c.args.reads reader between line l) c.in-Some.is read.to in
    let opened = script-opened base c.args.limit c.in_ok-room.room c.in_ok-room.ensures.ok in
    let said = c.in_ok-ran.ensures in
    inl (
      base,
      (line, begins, c.in_ok-rows.ensures.ok),
      c.in_ok-room.ensures.sound,
      (
        done_behind g.S.Source g.W.Sink (script base c.args.limit) c.args.reads reader between c.replay_blocks-ran.new.reader c.args.writer.now c.replay_blocks-ran.new.writer line read.is_line later to
            (rw (opened, c.deref.ensures.value) at said.ok),
        said.works.0,
        said.works.1,
      ),
    )

pub returns-in_err-ran-clause-calls : goal.returns-in_err-ran-clause-calls
returns-in_err-ran-clause-calls g c =
    let reader = c.args.reader.now in
    let between = c.read_first_line.new.reader in
    let line = c.in_ok-first.first.line.items in
    let read = c.in_ok-first.ensures.ok in
    let to = subst (λ (l : Option Later). ReadsTo g.S.Source c.args.reads reader between line l) c.in-Some.is read.to in
    calls_behind g.S.Source g.W.Sink (script [] c.args.limit) c.args.reads reader between c.replay_blocks-ran.new.reader c.args.writer.now c.replay_blocks-ran.new.writer line read.is_line c.in-Some.later to
    c.in_err-ran.ensures.calls

pub returns-clause-calls : goal.returns-clause-calls
returns-clause-calls g c =
    let reader = c.args.reader.now in
    let between = c.read_first_line.new.reader in
    let line = c.in_ok-first.first.line.items in
    let read = c.in_ok-first.ensures.ok in
    let to = subst (λ (l : Option Later). ReadsTo g.S.Source c.args.reads reader between line l) c.in-Some.is read.to in
    calls_behind g.S.Source g.W.Sink (script [] c.args.limit) c.args.reads reader between c.replay_blocks-ran.new.reader c.args.writer.now c.replay_blocks-ran.new.writer line read.is_line c.in-Some.later to
    c.in_ok-ran.ensures.calls
