-- A conversation with a client: what is read from the socket, what the core of the session gets, and what goes out.
use Rattle.std.specs.Prelude.{◌≡◌, ◌⊎◌, ℕ, zero, suc, List, Option, Some, None, Result, Ok, Err}
use Rattle.tungstenite.specs.declared.CloseCode.TheVariants.{Normal}
use Rattle.tungstenite.specs.Socket.{Socket, Flushed}
use Rattle.room_session.specs.Prelude.{GivesMessage, spells, HearsText, Makes, WaitsOn, closing, Known, MakesNone}
use Rattle.room_wire.specs.declared.bad.Bad.{Bad}
use Rattle.room_wire.specs.declared.incoming.Incoming.{Incoming}
use Rattle.room_session.specs.declared.caller.Caller.{Caller}
use Rattle.room_session.specs.declared.sent.Sent.{Sent}
use Rattle.room_session.specs.declared.session.Ended.{Ended}
use Rattle.room_session.specs.declared.session.State.{State}
use Rattle.room_session.specs.declared.session.State.TheVariants.{BeforeHello, Closed}
use Rattle.room_socket.specs.declared.end.End.{End}
use Rattle.room_socket.specs.declared.hearing.Heard.{Heard}
use Rattle.room_socket.specs.declared.hearing.Heard.TheVariants.{Text, Binary, Other, Quiet, Close, Fault}
use Rattle.room_socket.specs.declared.timely.Timely.{Timely}
use Rattle.room_socket.specs.Admitting.{Admits, Rule}
use Rattle.room_socket.specs.Hearing.{Hears}
use Rattle.room_socket.specs.Timely.{remaining_of, contents_of}
use Rattle.room_socket.specs.Sending.{Closes, Sends}
use Rattle.room_socket.specs.declared.end.End.TheVariants as ends

-- a closed core stays closed and asks nothing of the rooms
abbrev pub StaysClosed : State → Known → State → Known → Type 0
StaysClosed state before state' after = (state ≡ Closed) × (state' ≡ Closed) × (after ≡ before)

-- the core got a text, and returned this
abbrev pub TakesText : List ℕ → Result Sent Ended → State → Known → State → Known → Type 0
TakesText words (Ok sent) state before state' after =
    HearsText before sent state' after state words
    × ((said : Result Incoming Bad) × GivesMessage said (spells words) × Makes before state said after)
TakesText words (Err ended) state before state' after = StaysClosed state before state' after

-- the core learned that nothing came for a while, and returned this
abbrev pub TakesQuiet : Result Sent Ended → State → Known → State → Known → Type 0
TakesQuiet (Ok sent) state before state' after = WaitsOn before sent state' after state × MakesNone before after
TakesQuiet (Err ended) state before state' after = StaysClosed state before state' after

-- the core learned that a message is no text, and returned this
abbrev pub TakesBinary : Result Sent Ended → State → Known → State → Known → Type 0
TakesBinary (Ok sent) state before state' after = (sent ≡ closing 1003) × (state' ≡ Closed) × (after ≡ before)
TakesBinary (Err ended) state before state' after = StaysClosed state before state' after

module _ {S : Type 0} (remaining contents : S → Option (List ℕ)) where
  -- What was heard reaches the core, and what the core returns is sent. A ping or a pong changes nothing. If the client
  -- closed the connection, the answer to that goes out.
  abbrev pub Responds : Heard → Socket S → State → Known → Option End → Socket S → State → Known → Type 0
  Responds (Text words) old state before end new state' after =
      (outcome : Result Sent Ended) × TakesText words outcome state before state' after
      × Sends remaining contents outcome old end new
  Responds Quiet old state before end new state' after =
      (outcome : Result Sent Ended) × TakesQuiet outcome state before state' after
      × Sends remaining contents outcome old end new
  Responds Binary old state before end new state' after =
      (outcome : Result Sent Ended) × TakesBinary outcome state before state' after
      × Sends remaining contents outcome old end new
  Responds Other old state before end new state' after =
      (end ≡ None) × (new ≡ old) × (state' ≡ state) × (after ≡ before)
  Responds Close old state before end new state' after =
      (end ≡ Some ends.Left) × Flushed contents old new × (state' ≡ Closed) × (after ≡ before)
  Responds Fault old state before end new state' after =
      (end ≡ Some ends.Fault) × (new ≡ old) × (state' ≡ Closed) × (after ≡ before)

  -- one turn: the socket is read once, and the session responds
  abbrev pub TakesTurn : Socket S → State → Known → Option End → Socket S → State → Known → Type 0
  TakesTurn old state before end new state' after =
      (event : Heard) × (between : Socket S) × Hears remaining old event between
      × Responds event between state before end new state' after

  -- Turns follow until one ends the session. After this number of turns, a close with code 1000 goes out.
  abbrev pub Converses : ℕ → Socket S → State → Known → End → Socket S → State → Known → Type 0
  Converses zero old state before end new state' after =
      (end ≡ ends.Bound) × Closes remaining contents Normal old new × (state' ≡ state) × (after ≡ before)
  Converses (suc turns) old state before end new state' after =
      TakesTurn old state before (Some end) new state' after
      ⊎ ((next : Socket S) × (later : State) × (between : Known) × TakesTurn old state before None next later between
      × Converses turns next later between end new state' after)

-- the ends of a session whose handshake was not accepted
abbrev pub IsRefused : End → Type 0
IsRefused end = (end ≡ ends.Fault) ⊎ (end ≡ ends.Origin)

module _ {S : Type 0} (remaining contents : S → Option (List ℕ)) where
  -- The handshake was not accepted and the rooms were asked nothing, or a conversation of at most this number of turns
  -- with the caller whom the handshake let in followed, over the socket that it gave.
  abbrev pub Talks : Rule → ℕ → Known → End → Known → Type 0
  Talks rule turns before end after =
      (IsRefused end × (after ≡ before))
      ⊎ ((caller : Caller) × (old : Socket (Timely S)) × (new : Socket (Timely S)) × (state : State)
      × Admits rule caller old
      × Converses (remaining_of remaining) (contents_of contents) turns old (BeforeHello caller) before
      end new state after)
