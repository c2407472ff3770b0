-- The model of a stream of the system.
use Rattle.std.specs.Prelude.{ℕ, Bool, List, Result, length}
use Rattle.room_program.specs.declared.failed.Failed.{Failed}
use Rattle.room_program.specs.declared.noted.Calls.{Calls}
use Rattle.room_program.specs.declared.io.Io.{Io}
use Rattle.room_program.specs.Calls.{AnswersAtLast}
use Rattle.room_program.specs.Noted as noted

module _ {T : Type 0} where
  -- the stream
  abbrev pub stream_of : Io T → T
  stream_of io = noted.stream_of io.below

  -- its calls
  abbrev pub calls_of : Io T → Calls
  calls_of io = noted.calls_of io.below

  -- whether a call of the stream has failed
  abbrev pub failed_of : Io T → Bool
  failed_of io = io.has_failed

  -- a read of some length returns what the stream answered, and so does a write of these bytes
  abbrev pub Gets : Io T → Result ℕ Failed → Io T → Type 0
  Gets before answer after = (asked : ℕ) × AnswersAtLast (calls_of before) asked answer (calls_of after)

  abbrev pub Puts : Io T → List ℕ → Result ℕ Failed → Io T → Type 0
  Puts before bytes answer after = AnswersAtLast (calls_of before) (length bytes) answer (calls_of after)
