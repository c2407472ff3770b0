-- The fault that is reported is the replay's.
use Rattle.std.proofs.Common.{refl, sym, ◌∙◌}
use Rattle.room_program.proofs.CommandLemmas.{replay_done, replay_done_on, replay_failed, replay_failed_on}
use Rattle.room_program.proofs.command.run.Goals as goal
use Rattle.room_program.proofs.command.run.Goals.{then-base, else-base}

pub returns-in-Ok : goal.returns-in-Ok
returns-in-Ok g c =
    elim c.if-base.branch [
      | then-base w ↦
          let ran = w.replay_on-ran in
          rw (w.if-base.true, w.input-is, w.output-is)
          (replay_done_on g.S.Source g.W.Sink g.E.Sink c.args.limit c.args.input.now ran.new.reader c.args.output.now ran.new.writer c.args.errors.now c.args.errors.now ran.result ran.ensures.calls refl
          (sym w.ran-is ∙ c.in-Ok.is) ran.ensures.ran)
      | else-base w ↦
          let ran = w.replay-ran in
          rw (w.if-base.false, w.input-is, w.output-is)
          (replay_done g.S.Source g.W.Sink g.E.Sink c.args.limit c.args.input.now ran.new.reader c.args.output.now ran.new.writer c.args.errors.now c.args.errors.now ran.result ran.ensures.calls refl
          (sym w.ran-is ∙ c.in-Ok.is) ran.ensures.ran)
    ]

pub returns-in-Err : goal.returns-in-Err
returns-in-Err g c =
    let fault = c.in-Err.fault in
    let errors = c.fail.new.errors in
    elim c.if-base.branch [
      | then-base w ↦
          let ran = w.replay_on-ran in
          rw (w.if-base.true, w.input-is, w.output-is)
          (replay_failed_on g.S.Source g.W.Sink g.E.Sink c.args.limit c.args.input.now ran.new.reader c.args.output.now ran.new.writer c.args.errors.now errors ran.result ran.ensures.calls c.fail.result fault
          c.fail.ensures.failed c.fail.ensures.told (sym w.ran-is ∙ c.in-Err.is) ran.ensures.ran)
      | else-base w ↦
          let ran = w.replay-ran in
          rw (w.if-base.false, w.input-is, w.output-is)
          (replay_failed g.S.Source g.W.Sink g.E.Sink c.args.limit c.args.input.now ran.new.reader c.args.output.now ran.new.writer c.args.errors.now errors ran.result ran.ensures.calls c.fail.result fault
          c.fail.ensures.failed c.fail.ensures.told (sym w.ran-is ∙ c.in-Err.is) ran.ensures.ran)
    ]
