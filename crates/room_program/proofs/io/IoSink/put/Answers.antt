-- The write that was answered is the last call in the notes.
use Rattle.std.proofs.Common.{◌∙◌, ap, arith, inl, inr, ◌≤◌, ◌-◌, ◌^◌, refl}
use Rattle.room_program.specs.Io.{calls_of}
use Rattle.room_program.proofs.NoteLemmas.{failure_noted}
use Rattle.room_program.proofs.io.IoSink.put.Goals.{else-loop-test, then-loop-test+in-Err-Failed}
use Rattle.room_program.specs.Noted as noted
use Rattle.room_program.proofs.io.IoSink.put.Goals as goal

pub returns-clause-puts : goal.returns-clause-puts
returns-clause-puts g c =
    elim c.loop-test.branch [
      | else-loop-test w ↦
          let used : 2 ^ 64 - 1 ≤ (calls_of c.loop.self).interrupted = omega arith in
          inr (refl, rw w.self-is used)
      | then-loop-test+in-Err-Failed w ↦
          let failed = rw w.in-Err-Failed.field-0-is at w.in-Err-Failed.ensures.noted in
          inl (failure_noted (calls_of c.args.self.now) (calls_of c.loop.self) (noted.calls_of c.loop-test.self.below) _ c.loop.invariant.unanswered (ap calls_of w.self-is ∙ failed))
    ]
