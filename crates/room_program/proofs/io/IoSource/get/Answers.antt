-- The read that was answered is the last call in the notes.
use Rattle.std.proofs.Common.{◌∙◌, ap, arith, inl, inr, ◌≤◌, ◌-◌, ◌^◌, length, refl}
use Rattle.room_program.specs.Io.{calls_of}
use Rattle.room_program.proofs.NoteLemmas.{count_noted, failure_noted}
use Rattle.room_program.proofs.io.IoSource.get.Goals.{else-loop-test, then-loop-test+in-Err-Failed}
use Rattle.room_program.specs.Noted as noted
use Rattle.room_program.proofs.io.IoSource.get.Goals as goal

pub returns-in-Ok-clause-gets : goal.returns-in-Ok-clause-gets
returns-in-Ok-clause-gets g c =
    (length c.read.new.buffer, inl (count_noted (calls_of c.args.self.now) (calls_of c.loop.self) (noted.calls_of c.read.new.self) _ c.loop.invariant.unanswered c.in-Ok.count c.in-Ok.ensures.noted))

pub returns-clause-gets : goal.returns-clause-gets
returns-clause-gets g c =
    elim c.loop-test.branch [
      | else-loop-test w ↦
          let used : 2 ^ 64 - 1 ≤ (calls_of c.loop.self).interrupted = omega arith in
          (0, inr (refl, rw w.self-is used))
      | then-loop-test+in-Err-Failed w ↦
          let failed = rw w.in-Err-Failed.field-0-is at w.in-Err-Failed.ensures.noted in
          (length w.read.new.buffer, inl (failure_noted (calls_of c.args.self.now) (calls_of c.loop.self) (noted.calls_of c.loop-test.self.below) _ c.loop.invariant.unanswered (ap calls_of w.self-is ∙ failed)))
    ]
