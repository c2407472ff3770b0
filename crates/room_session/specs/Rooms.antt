-- What is known of rooms, and how a call and a look change it. The rules of a room are this project's.
use Rattle.std.specs.Prelude.{◌≡◌, ◌≢◌, ◌≤◌, ◌+◌, ◌++◌, ℕ, List, [], ◌∷◌, Option, Some, length}
use Rattle.room_history.specs.Prelude.{Global, IsJournal, IsTurn, BeginsWith}
use Rattle.room_interface.specs.declared.ask.RoomCall.{RoomCall}
use Rattle.room_interface.specs.declared.ask.RoomReply.{RoomReply}
use Rattle.room_history.specs.declared.entry.Entry.{Entry}
use Rattle.room_history.specs.declared.turned.Opening.{Opening}
use Rattle.room_interface.specs.declared.author.Author.{Author}

-- What is known of one room. `opening` is what no call changes, and `seen` has the entries seen so far. `mine` has the
-- entries made by calls through these rooms. `looks` has the journal's length at each look and at the end of each turn,
-- in order. `turns` counts the turns.
pub record RoomKnown : Type 0 where
  pub opening : Opening Global
  pub seen : List (Entry Global)
  pub mine : List (Entry Global)
  pub looks : List ℕ
  pub turns : ℕ

-- the position of the room of each name, and what is known of the room at each position
pub record Known : Type 0 where
  pub place : List ℕ → Option ℕ
  pub at : ℕ → RoomKnown

-- there is a room at the position
abbrev pub HasRoom : Known → ℕ → Type 0
HasRoom known room = (name : List ℕ) × (known.place name ≡ Some room)

-- calls lead to the journal in a room
abbrev pub IsJournalOf : Opening Global → List (Entry Global) → Type 0
IsJournalOf opening journal = IsJournal opening.base opening.limit journal

-- all that was known of a room is still known, and perhaps more
pub record KeepsRoom (before after : RoomKnown) : Type 0 where
  pub opening : after.opening ≡ before.opening
  pub seen : BeginsWith after.seen before.seen
  pub mine : BeginsWith after.mine before.mine
  pub looks : BeginsWith after.looks before.looks
  pub turns : before.turns ≤ after.turns

-- the same rooms are known, and all that was known of each, and perhaps more
pub record KeepsKnown (before after : Known) : Type 0 where
  pub place : after.place ≡ before.place
  pub at : (room : ℕ) → KeepsRoom (before.at room) (after.at room)

-- the call was answered in one turn, after a legal journal, which begins with all that had been seen of the room
pub record AnswersAt (before : RoomKnown) (call : RoomCall Global) (reply : RoomReply Global) (after : RoomKnown)
    : Type 0 where
  pub journal : List (Entry Global)
  pub legal : IsJournalOf before.opening journal
  pub begins : BeginsWith journal before.seen
  pub turn : IsTurn before.opening journal call reply after.seen
  -- the entry that the call added to that journal, if any, was made through these rooms
  pub added : List (Entry Global)
  pub grows : after.seen ≡ journal ++ added
  pub mine : after.mine ≡ before.mine ++ added
  pub looks : after.looks ≡ before.looks ++ length after.seen ∷ []
  pub turns : after.turns ≡ before.turns + 1
  pub opening : after.opening ≡ before.opening

-- a look found the journal's length, and the whole journal has then been seen; no turn was taken
pub record LooksAt (before : RoomKnown) (count : ℕ) (after : RoomKnown) : Type 0 where
  pub legal : IsJournalOf before.opening after.seen
  pub begins : BeginsWith after.seen before.seen
  pub whole : count ≡ length after.seen
  pub mine : after.mine ≡ before.mine
  pub looks : after.looks ≡ before.looks ++ count ∷ []
  pub turns : after.turns ≡ before.turns
  pub opening : after.opening ≡ before.opening

-- the positions and all other rooms are unchanged
pub record LeavesOthers (before : Known) (room : ℕ) (after : Known) : Type 0 where
  pub place : after.place ≡ before.place
  pub others : (other : ℕ) → other ≢ room → after.at other ≡ before.at other

-- the room was asked in one turn and gave this reply, and no other room was asked
pub record AnswersCall (before : Known) (room : ℕ) (call : RoomCall Global) (reply : RoomReply Global) (after : Known)
    : Type 0 where
  pub here : AnswersAt (before.at room) call reply (after.at room)
  pub leaves : LeavesOthers before room after

-- the session looked at the room once, and asked nothing
pub record TellsLength (before : Known) (room : ℕ) (count : ℕ) (after : Known) : Type 0 where
  pub here : LooksAt (before.at room) count (after.at room)
  pub leaves : LeavesOthers before room after

-- no entry was made through these rooms; or one was made in this room, by this author and under this id
abbrev pub MakesNone : Known → Known → Type 0
MakesNone before after = (room : ℕ) → (after.at room).mine ≡ (before.at room).mine

abbrev pub MakesOne : Known → ℕ → Author → ℕ → Known → Type 0
MakesOne before room author id after =
    (entry : Entry Global) × (entry.author ≡ author) × (entry.id ≡ id)
    × ((after.at room).mine ≡ (before.at room).mine ++ entry ∷ [])
    × ((other : ℕ) → other ≢ room → (after.at other).mine ≡ (before.at other).mine)
