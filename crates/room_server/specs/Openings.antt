-- The opening of a table of rooms. The names of rooms are this project's.
use Rattle.std.specs.Prelude.{◌≡◌, ◌<◌, ℕ, List, Some, None, All, length, slice_get, true}
use Rattle.room_socket.specs.Prelude.{Global, is_sound, Rows, IsFirstUnsound, author_of}
use Rattle.turn_desk.specs.Desk.{IsFirst}
use Rattle.room_history.specs.declared.turned.Opening.{Opening}
use Rattle.room_server.specs.declared.table.TableFault.{TableFault}
use Rattle.room_server.specs.declared.table.TableFault.TheVariants.{BadName, Twice, Unsound, Memory}
use Rattle.room_server.specs.Tables.{AreAt, SeatView, TableView}

-- the text at the position is not a name of a room
abbrev pub IsBad : List (List ℕ) → ℕ → Type 0
IsBad names position = (text : List ℕ) × (slice_get names position ≡ Some text) × (author_of text ≡ None)

-- an earlier position has the text at the position
abbrev pub IsAgain : List (List ℕ) → ℕ → Type 0
IsAgain names position =
    (text : List ℕ) × (earlier : ℕ) × (earlier < position) × (slice_get names position ≡ Some text)
    × (slice_get names earlier ≡ Some text)

-- no position before `end` has either fault
abbrev pub AreFine : List (List ℕ) → ℕ → Type 0
AreFine names end = (position : ℕ) → position < end → (IsBad names position → ⊥) × (IsAgain names position → ⊥)

-- the fault is that of the first faulty position, or `Memory`, of which nothing else is said
abbrev pub IsNameFault : List (List ℕ) → TableFault → Type 0
IsNameFault names (BadName position) = IsBad names position × AreFine names position
IsNameFault names (Twice position) = IsAgain names position × AreFine names position
IsNameFault names (Unsound x why) = ⊥
IsNameFault names Memory = Unit {0}

-- the fault is that of the names; if all names are fine, it can be that of the rooms' base map
abbrev pub IsFirstFault : List (List ℕ) → Rows Global → TableFault → Type 0
IsFirstFault names base (Unsound x why) = AreFine names (length names) × IsFirstUnsound base x why
IsFirstFault names base fault = IsNameFault names fault

-- the opening of a room with this base map, whose journal takes at most `limit` entries
abbrev pub opening : Rows Global → ℕ → Opening Global
opening base limit = record { base = base; limit = limit }

-- The base map is sound. The table has a room with it for each name, in order, and the seats are the first seats of
-- their desks.
pub record Opens (names : List (List ℕ)) (base : Rows Global) (limit : ℕ) (table : TableView) (seats : List SeatView)
    : Type 0 where
  pub sound : is_sound base ≡ true
  pub names_are : table.names ≡ names
  pub many : length table.desks ≡ length names
  pub opened : All (λ desk. desk.fixed ≡ opening base limit) table.desks
  pub at : AreAt table seats
  pub first : All IsFirst seats
