-- What a read from a client means to a session (RFC 6455, section 5.6 for texts and binary messages, and section 5.5
-- for closes, pings and pongs).
use Rattle.std.specs.Prelude.{◌≡◌, Bool, true, false, cond, ℕ, List, Option, Result, Ok, Err}
use Rattle.tungstenite.specs.declared.error.Error.{Error}
use Rattle.tungstenite.specs.declared.error.Error.TheVariants.{Io}
use Rattle.tungstenite.specs.declared.message.Message.{Message}
use Rattle.tungstenite.specs.Socket.{Socket, Reads}
use Rattle.room_session.specs.Prelude.{error_kind, ErrorKind, WouldBlock, TimedOut, Interrupted}
use Rattle.room_socket.specs.declared.hearing.Heard.{Heard}
use Rattle.room_socket.specs.declared.hearing.Heard.TheVariants.{Text, Binary, Other, Quiet, Close, Fault}
use Rattle.tungstenite.specs.declared.message.Message.TheVariants as messages

-- whether a read failed only because nothing came in time, or because a signal interrupted it
abbrev pub is_quiet : ErrorKind → Bool
is_quiet WouldBlock = true
is_quiet TimedOut = true
is_quiet Interrupted = true
is_quiet kind = false

-- whether a read is quiet: the stream gave nothing, for such a cause
abbrev pub is_silent : Error → Bool
is_silent (Io cause) = is_quiet (error_kind cause)
is_silent error = false

-- what a session hears if a read returned this
abbrev pub heard : Result Message Error → Heard
heard (Ok (messages.Text text)) = Text text
heard (Ok (messages.Binary bytes)) = Binary
heard (Ok (messages.Ping bytes)) = Other
heard (Ok (messages.Pong bytes)) = Other
heard (Ok (messages.Close frame)) = Close
heard (Err error) = cond (is_silent error) Quiet Fault

module _ {S : Type 0} where
  -- the socket was read once, and the session hears what the read returned
  abbrev pub Hears : (S → Option (List ℕ)) → Socket S → Heard → Socket S → Type 0
  Hears remaining old event new =
      (result : Result Message Error) × Reads remaining old new result × (event ≡ heard result)
