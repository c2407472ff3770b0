-- The model of a stream with notes of its calls.
use Rattle.room_program.specs.declared.noted.Calls.{Calls}
use Rattle.room_program.specs.declared.noted.Noted.{Noted}

module _ {T : Type 0} where
  -- the stream
  abbrev pub stream_of : Noted T → T
  stream_of noted = noted.stream

  -- its calls
  abbrev pub calls_of : Noted T → Calls
  calls_of noted = noted.calls
