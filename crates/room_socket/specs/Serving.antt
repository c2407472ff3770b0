-- What a session over a stream does to the rooms, event by event. The rules of a session are this project's.
use Rattle.std.specs.Prelude.{◌≡◌, ◌≤◌, ℕ, zero, suc, List, [], ◌∷◌, Result, length}
use Rattle.websocket.specs.Headers.{Fields}
use Rattle.room_session.specs.Prelude.{GivesMessage, spells, HearsText, Makes, MakesAs, WaitsOn, Known, MakesNone}
use Rattle.room_wire.specs.declared.bad.Bad.{Bad}
use Rattle.room_wire.specs.declared.incoming.Incoming.{Incoming}
use Rattle.room_session.specs.declared.sent.Sent.{Sent}
use Rattle.room_session.specs.declared.session.State.{State}
use Rattle.room_session.specs.declared.session.State.TheVariants.{BeforeHello, Closed}
use Rattle.room_socket.specs.Admitting.{Rule, caller_of}

-- an event of a session: a text, nothing for a while, or an event that ends the session
pub data Event : Type 0 where
  Text : List ℕ → Event
  Quiet : Event
  Last : Event

-- the session and the rooms change by the event as the core of a session changes them
abbrev pub Happens : Event → State → Known → State → Known → Type 0
Happens (Text text) state before state' after =
    ((sent : Sent) × HearsText before sent state' after state text)
    × ((said : Result Incoming Bad) × GivesMessage said (spells text) × Makes before state said after)
Happens Quiet state before state' after =
    ((sent : Sent) × WaitsOn before sent state' after state) × MakesNone before after
Happens Last state before state' after = (state' ≡ Closed) × (after ≡ before)

-- the events come in order
abbrev pub Follows : List Event → State → Known → State → Known → Type 0
Follows [] state before state' after = (state' ≡ state) × (after ≡ before)
Follows (event ∷ later) state before state' after =
    (next : State) × (between : Known) × Happens event state before next between
    × Follows later next between state' after

-- at most this number of events came
abbrev pub InTurns : ℕ → State → Known → State → Known → Type 0
InTurns turns state before state' after = (events : List Event) × (length events ≤ turns) × Follows events state before state' after

-- A session was served, from before its hello, by at most this number of events. The fields of its handshake say who
-- called, and each entry that the session made is by an author as whom this caller may make changes.
pub record Serves (rule : Rule) (turns : ℕ) (before after : Known) : Type 0 where
  pub fields : Fields
  pub events : List Event
  pub many : length events ≤ turns
  pub state : State
  pub follows : Follows events (BeforeHello (caller_of rule fields)) before state after
  pub names : MakesAs (caller_of rule fields) before after

-- this number of sessions were served in order, each by at most this number of events, and nothing else was asked
abbrev pub ServesEach : Rule → ℕ → ℕ → Known → Known → Type 0
ServesEach rule turns zero before after = after ≡ before
ServesEach rule turns (suc sessions) before after =
    (between : Known) × ServesEach rule turns sessions before between × Serves rule turns between after
