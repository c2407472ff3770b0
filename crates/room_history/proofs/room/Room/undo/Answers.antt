use Rattle.room_history.proofs.Stepping.{can_undo, step_undid, step_undo_refused}
use Rattle.room_history.proofs.room.Room.undo.Goals as goal

pub append_undo-requires-clause-accepted : goal.append_undo-requires-clause-accepted
append_undo-requires-clause-accepted g c =
    let state = c.args.self.now in
    can_undo state.base state.limit state.journal c.args.author c.args.id c.requires c.args.number c.in-Ok.undoable.of c.in-Ok.ensures.found

pub returns-in-Ok-append_undo-clause-step : goal.returns-in-Ok-append_undo-clause-step
returns-in-Ok-append_undo-clause-step g c =
    let state = c.args.self.now in
    rw c.in-Ok-append_undo.ensures.ok.1 (step_undid state.base state.limit state.journal c.args.author c.args.id c.requires c.args.number c.in-Ok.undoable.of c.in-Ok-append_undo.seq
    c.in-Ok.ensures.found c.in-Ok-append_undo.ensures.ok.0)

pub returns-in-Err-clause-step : goal.returns-in-Err-clause-step
returns-in-Err-clause-step g c =
    let state = c.args.self.now in
    step_undo_refused state.base state.limit state.journal c.args.author c.args.id c.requires c.args.number c.in-Err.refusal c.in-Err.ensures.refused
