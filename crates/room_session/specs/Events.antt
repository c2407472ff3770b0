-- The outcome of each event of a session: what goes out, the state after it, what it asks of the rooms, and what is
-- then known of them. The rules of a session are this project's; RFC 6455, section 7.4.1, defines the codes.
use Rattle.std.specs.Prelude.{◌≡◌, ◌⊎◌, ◌≤◌, ◌<◌, ◌++◌, ℕ, List, [], ◌∷◌, Option, Some, None, Result, Ok, Err, length}
use Rattle.serde_json.specs.Written.{compact_text}
use Rattle.room_wire.specs.Prelude.{Global, answer_to, asked, answer_text, GivesMessage, spells, map_tree}
use Rattle.room_history.specs.Prelude.{wanting, news, mapof}
use Rattle.room_interface.specs.declared.ask.RoomCall.{RoomCall}
use Rattle.room_interface.specs.declared.ask.RoomReply.{RoomReply}
use Rattle.room_interface.specs.declared.author.Author.{Author}
use Rattle.room_session.specs.Callers.{barred_text, greeted}
use Rattle.room_session.specs.declared.caller.Barred.{Barred}
use Rattle.room_session.specs.declared.caller.Caller.{Caller}
use Rattle.room_session.specs.declared.caller.Speaker.{Speaker}
use Rattle.room_wire.specs.declared.bad.Bad.{Bad}
use Rattle.room_wire.specs.declared.incoming.Body.{Body}
use Rattle.room_wire.specs.declared.incoming.Body.TheVariants.{Hello, Change, Get, Map, Undos}
use Rattle.room_wire.specs.declared.incoming.Incoming.{Incoming}
use Rattle.room_session.specs.declared.sent.Sent.{Sent}
use Rattle.room_session.specs.declared.session.State.{State}
use Rattle.room_session.specs.declared.session.State.TheVariants.{BeforeHello, Open, Closed}
use Rattle.room_session.specs.NewsTexts.{news_texts}
use Rattle.room_session.specs.Rooms.{Known, AnswersCall, TellsLength, IsJournalOf, MakesNone, MakesOne}
use Rattle.room_interface.specs.declared.ask.RoomCall.TheVariants as calls
use Rattle.room_session.specs.declared.caller.Speaker.TheVariants as speakers
use Rattle.room_wire.specs.declared.answer.Answer.{Answer}
use Rattle.room_wire.specs.declared.answer.Answer.TheVariants as answers

-- these texts go out, and the connection stays open
abbrev pub only : List (List ℕ) → Sent
only texts = record { texts = texts; close = None }

-- no text goes out, and the connection is closed with this code
abbrev pub closing : ℕ → Sent
closing code = record { texts = []; close = Some code }

-- an allocation failed: a close with code 1011 goes out, and the session is closed
abbrev pub GivesUp : Sent → State → Type 0
GivesUp sent state = (sent ≡ closing 1011) × (state ≡ Closed)

-- ---- before a hello

-- one text goes out, and the session stays before its hello
abbrev pub Refuses : Caller → Sent → State → List ℕ → Type 0
Refuses caller sent state text = (sent ≡ only (text ∷ [])) × (state ≡ BeforeHello caller)

module _ (caller : Caller) (before : Known) (sent : Sent) (state : State) (after : Known) where
  -- the same, and no room is asked
  abbrev pub RefusesAlone : List ℕ → Type 0
  RefusesAlone text = Refuses caller sent state text × (after ≡ before)

  -- The session opens. What has then been seen of the room is a legal journal, whose map and length go out.
  abbrev pub Welcomes : ℕ → ℕ → Speaker → Type 0
  Welcomes id room speaker =
      let opening = (before.at room).opening in
      let journal = (after.at room).seen in
      IsJournalOf opening journal
      × (sent ≡ only (compact_text (map_tree id (mapof opening.base journal) (length journal)) ∷ []))
      × (state ≡ Open room speaker (length journal))

  -- A hello to the room at a position, if there is one. The session asks the room for its rows in one turn. It answers
  -- `memory` if the room had no memory for them.
  abbrev pub Greets : ℕ → Speaker → Option ℕ → Type 0
  Greets id speaker None = RefusesAlone (answer_text id answers.NoRoom)
  Greets id speaker (Some room) =
      (reply : RoomReply Global) × AnswersCall before room calls.Rows reply after
      × (Welcomes id room speaker
      ⊎ ((reply ≡ wanting calls.Rows) × Refuses caller sent state (answer_text id answers.Memory)))

  -- a hello of a caller who may speak as somebody, or who is refused
  abbrev pub GreetsAs : ℕ → Result Speaker Barred → Option ℕ → Type 0
  GreetsAs id (Ok speaker) place = Greets id speaker place
  GreetsAs id (Err barred) place = RefusesAlone (barred_text id barred)

  -- the outcome of a message before a hello
  abbrev pub BeginsBy : ℕ → Body → Type 0
  BeginsBy id (Hello room author) = GreetsAs id (greeted caller author) (before.place room)
  BeginsBy id (Change request) = RefusesAlone (answer_text id answers.NoHello)
  BeginsBy id (Get name) = RefusesAlone (answer_text id answers.NoHello)
  BeginsBy id Map = RefusesAlone (answer_text id answers.NoHello)
  BeginsBy id Undos = RefusesAlone (answer_text id answers.NoHello)

  abbrev pub Begins : Result Incoming Bad → Type 0
  Begins (Ok message) = BeginsBy message.id message.body
  Begins (Err bad) = RefusesAlone (answer_text bad.id (answers.Fault bad.fault))

-- a text came before a hello, but an allocation for its outcome failed
abbrev pub EndsFirst : Caller → Known → Known → Result Incoming Bad → Type 0
EndsFirst caller before after said = (due : Sent) × (next : State) × Begins caller before due next after said

-- ---- in an open session

-- the session asks the room in one turn, and the text is that of the answer
abbrev pub Asks : Known → ℕ → ℕ → RoomCall Global → List ℕ → Known → Type 0
Asks before room id call text after =
    (reply : RoomReply Global) × AnswersCall before room call reply after
    × (text ≡ answer_text id (answer_to reply))

-- the text is this answer's, and no room is asked
abbrev pub AnswersAlone : Known → ℕ → Answer → List ℕ → Known → Type 0
AnswersAlone before id answer text after = (text ≡ answer_text id answer) × (after ≡ before)

-- the message asks the room, or it is another hello
abbrev pub AsksIfAny : Known → ℕ → ℕ → Option (RoomCall Global) → List ℕ → Known → Type 0
AsksIfAny before room id None text after = AnswersAlone before id answers.HelloTwice text after
AsksIfAny before room id (Some call) text after = Asks before room id call text after

-- the text is the reply to a message of a watcher, who makes no change and has no undo list
abbrev pub RepliesToWatcher : Known → ℕ → ℕ → Body → List ℕ → Known → Type 0
RepliesToWatcher before room id (Change request) text after = AnswersAlone before id answers.NoName text after
RepliesToWatcher before room id Undos text after = AnswersAlone before id answers.NoName text after
RepliesToWatcher before room id (Hello to name) text after = AnswersAlone before id answers.HelloTwice text after
RepliesToWatcher before room id (Get name) text after = Asks before room id (calls.Get name) text after
RepliesToWatcher before room id Map text after = Asks before room id calls.Rows text after

-- the text is the reply to a message of this speaker
abbrev pub RepliesTo : Known → ℕ → Speaker → ℕ → Body → List ℕ → Known → Type 0
RepliesTo before room (speakers.Author author) id body text after =
    AsksIfAny before room id (asked author id body) text after
RepliesTo before room speakers.Watcher id body text after = RepliesToWatcher before room id body text after

-- the text is the reply to the message that was read, or its refusal
abbrev pub Replies : Known → ℕ → Speaker → Result Incoming Bad → List ℕ → Known → Type 0
Replies before room speaker (Ok message) text after =
    RepliesTo before room speaker message.id message.body text after
Replies before room speaker (Err bad) text after = AnswersAlone before bad.id (answers.Fault bad.fault) text after

-- a look at the room found no entries after `told`
abbrev pub FindsNoNews : Known → ℕ → ℕ → Known → Type 0
FindsNoNews before room told after = (count : ℕ) × (count ≤ told) × TellsLength before room count after

-- a look at the room found more entries, and the session asked the room in one turn for the news after `told`
abbrev pub AsksForNews : Known → ℕ → ℕ → Known → Type 0
AsksForNews before room told after =
    (count : ℕ) × (told < count) × (looked : Known) × TellsLength before room count looked
    × ((reply : RoomReply Global) × AnswersCall looked room (calls.News told) reply after)

-- The texts go out, and then the news of all entries after `told`, up to the last one seen of the room. What has been
-- seen is a legal journal.
abbrev pub CatchesUp : Known → Sent → State → Known → ℕ → Speaker → ℕ → List (List ℕ) → Type 0
CatchesUp before sent state after room speaker told texts =
    let opening = (before.at room).opening in
    let journal = (after.at room).seen in
    (FindsNoNews before room told after ⊎ AsksForNews before room told after)
    × IsJournalOf opening journal × (sent ≡ only (texts ++ news_texts (news opening.base journal told)))
    × (state ≡ Open room speaker (length journal))

-- a text gets its reply, and then the news
abbrev pub GoesOn : Known → Sent → State → Known → ℕ → Speaker → ℕ → Result Incoming Bad → Type 0
GoesOn before sent state after room speaker told said =
    (text : List ℕ) × (between : Known) × Replies before room speaker said text between
    × CatchesUp between sent state after room speaker told (text ∷ [])

-- a text came, but an allocation for its reply, or for the news after it, failed
abbrev pub BreaksOff : Known → Known → ℕ → Speaker → ℕ → Result Incoming Bad → Type 0
BreaksOff before after room speaker told said =
    (text : List ℕ) × (between : Known) × Replies before room speaker said text between
    × ((after ≡ between) ⊎ AsksForNews between room told after)

-- ---- events

module _ (before : Known) (sent : Sent) (state : State) (after : Known) where
  -- a text came, which was read as a message or refused
  abbrev pub HearsText : State → List ℕ → Type 0
  HearsText (BeforeHello caller) text = (said : Result Incoming Bad) × GivesMessage said (spells text)
      × (Begins caller before sent state after said ⊎ (GivesUp sent state × EndsFirst caller before after said))
  HearsText (Open room speaker told) text = (said : Result Incoming Bad) × GivesMessage said (spells text)
      × (GoesOn before sent state after room speaker told said
      ⊎ (GivesUp sent state × BreaksOff before after room speaker told said))
  HearsText Closed text = ⊥

  -- nothing came for a while
  abbrev pub WaitsOn : State → Type 0
  WaitsOn (BeforeHello caller) = (sent ≡ only []) × (state ≡ BeforeHello caller) × (after ≡ before)
  WaitsOn (Open room speaker told) =
      CatchesUp before sent state after room speaker told [] ⊎ (GivesUp sent state × AsksForNews before room told after)
  WaitsOn Closed = ⊥

-- ---- the entries that are made

-- a change of an author makes at most one entry, of this author, in this room and under the message's id; a watcher's
-- makes none
abbrev pub MakesChange : Known → ℕ → Speaker → ℕ → Known → Type 0
MakesChange before room (speakers.Author author) id after =
    MakesNone before after ⊎ MakesOne before room author id after
MakesChange before room speakers.Watcher id after = MakesNone before after

-- no other message makes an entry
abbrev pub MakesBy : Known → ℕ → Speaker → ℕ → Body → Known → Type 0
MakesBy before room speaker id (Change request) after = MakesChange before room speaker id after
MakesBy before room speaker id (Hello to name) after = MakesNone before after
MakesBy before room speaker id (Get name) after = MakesNone before after
MakesBy before room speaker id Map after = MakesNone before after
MakesBy before room speaker id Undos after = MakesNone before after

-- a text before a hello makes no entry, and neither does a text that is refused
abbrev pub Makes : Known → State → Result Incoming Bad → Known → Type 0
Makes before (Open room speaker told) (Ok message) after = MakesBy before room speaker message.id message.body after
Makes before (Open room speaker told) (Err bad) after = MakesNone before after
Makes before (BeforeHello caller) said after = MakesNone before after
Makes before Closed said after = MakesNone before after
