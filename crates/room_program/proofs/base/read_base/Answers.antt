-- The line is the reader's first, and the rows are those of the line.
use Rattle.room_program.specs.Prelude.{IsUnread, stream_fault}
use Rattle.room_program.proofs.ReplayLemmas.{bad_rows, line_begins, line_unread, told_rows}
use Rattle.room_program.proofs.StreamLemmas.{on_ok, passed_on}
use Rattle.room_program.proofs.base.read_base.Goals as goal

pub returns-in_err-first-clause-err : goal.returns-in_err-first-clause-err
returns-in_err-first-clause-err g c =
    let fault = c.in_err-first.field-0.0 in
    passed_on (IsUnread g.S.Source c.args.reads c.args.reader.now c.read_first_line.new.reader) c.from_residual-in_err-first.result (stream_fault fault) c.from_residual-in_err-first.ensures.1
    (line_unread g.S.Source c.args.reads c.args.reader.now c.read_first_line.new.reader fault c.in_err-first.ensures.err)

pub returns-clause-ok : goal.returns-clause-ok
returns-clause-ok g c =
    let line = c.in_ok-first.first.line.items in
    let read = c.in_ok-first.ensures.ok in
    told_rows g.S.Source c.args.reads c.args.reader.now c.read_first_line.new.reader line c.rows_of.result
    (line_begins g.S.Source c.args.reads c.args.reader.now c.read_first_line.new.reader line c.in_ok-first.first.later read.is_line read.to) c.rows_of.ensures.ok

pub returns-clause-works : goal.returns-clause-works
returns-clause-works g c = on_ok c.rows_of.result c.in_ok-first.ensures.works

pub returns-clause-err : goal.returns-clause-err
returns-clause-err g c =
    let line = c.in_ok-first.first.line.items in
    let read = c.in_ok-first.ensures.ok in
    bad_rows g.S.Source c.args.reads c.args.reader.now c.read_first_line.new.reader line c.rows_of.result
    (line_begins g.S.Source c.args.reads c.args.reader.now c.read_first_line.new.reader line c.in_ok-first.first.later read.is_line read.to) c.in_ok-first.ensures.works c.rows_of.ensures.err
