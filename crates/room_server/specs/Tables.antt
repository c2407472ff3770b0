-- What is known of a table of rooms through a seat at each desk. The rules of a room are this project's.
use Rattle.std.specs.Prelude.{◌≡◌, ℕ, List, [], ◌∷◌, Option, Some, None, map, length, slice_get, slice_set, position}
use Rattle.atomic_table.specs.Seated.{TableId}
use Rattle.room_socket.specs.Prelude.{Global, IsTurn, Known, RoomKnown, author_of, is_same_author, entries}
use Rattle.turn_desk.specs.Desk.{DeskId, HasKin, IsAt, IsSameSeat, Sitting, TurnsAt}
use Rattle.turn_desk.specs.Desk.{LooksAt}
use Rattle.room_interface.specs.declared.ask.RoomCall.{RoomCall}
use Rattle.room_interface.specs.declared.ask.RoomReply.{RoomReply}
use Rattle.room_history.specs.declared.base.BaseFault.{BaseFault}
use Rattle.room_history.specs.declared.entry.Entry.{Entry}
use Rattle.room_history.specs.declared.turned.Opening.{Opening}
use Rattle.room_server.specs.declared.table.TableFault.{TableFault}
use Rattle.room_server.specs.declared.table.TableFault.TheVariants.{Unsound, Memory}
use Rattle.room_history.specs.declared.base.BaseFault.TheVariants as bases

abbrev pub DeskView : Type 0
DeskView = DeskId (Opening Global)

abbrev pub SeatView : Type 0
SeatView = Sitting (Entry Global) (Opening Global)

-- the names of the rooms and their desks, in the same order
pub record TableView : Type 0 where
  pub names : List (List ℕ)
  pub desks : List DeskView

-- there is one seat at each desk, in order, and one desk for each name
abbrev pub AreAt : TableView → List SeatView → Type 0
AreAt table seats = (length seats ≡ length table.desks)
    × ((room : ℕ) (desk : DeskView) (seat : SeatView) → slice_get table.desks room ≡ Some desk
    → slice_get seats room ≡ Some seat → IsAt desk seat)
    × (length table.desks ≡ length table.names)

-- the position of a name, if it is the name of a room
abbrev pub place_by : List (List ℕ) → Option (List ℕ) → Option ℕ
place_by names None = None
place_by names (Some name) = position (is_same_author name) names

-- what a seat knows: the entries that it has seen, those of its own calls, the lengths that it looked at, and a turn
-- for each ticket
abbrev pub known_by : Opening Global → SeatView → RoomKnown
known_by opening seat = record {
  opening = opening;
  seen = entries seat.seen;
  mine = seat.mine;
  looks = seat.looks;
  turns = length seat.tickets;
}

-- nothing is known of a room that does not exist
abbrev pub unknown : RoomKnown
unknown = record { opening = record { base = []; limit = 0 }; seen = []; mine = []; looks = []; turns = 0 }

abbrev pub known_at : Option DeskView → Option SeatView → RoomKnown
known_at None seat = unknown
known_at (Some desk) None = unknown
known_at (Some desk) (Some seat) = known_by desk.fixed seat

-- what is known of the rooms of a table through these seats
abbrev pub known_through : TableView → List SeatView → Known
known_through table seats = record {
  place = λ name. place_by table.names (author_of name);
  at = λ room. known_at (slice_get table.desks room) (slice_get seats room);
}

-- a table with a seat at each desk
pub record SeatedView : Type 0 where
  pub table : TableView
  pub seats : List SeatView

abbrev pub known_of : SeatedView → Known
known_of s = known_through s.table s.seats

-- the identity of a seat: its desk, its number and the numbers of its kin
abbrev pub Mark : Type 0
Mark = (TableId × Option (Opening Global)) × List ℕ × ℕ

abbrev pub mark : SeatView → Mark
mark seat = ((seat.table, seat.fixed), seat.number ∷ map (λ k. k.0) seat.met, seat.parts)

-- what no call changes: the table, and the identity of each seat
abbrev pub Kept : Type 0
Kept = TableView × List Mark

abbrev pub kept_of : SeatedView → Kept
kept_of s = (s.table, map mark s.seats)

-- the room's seat took one turn at the desk, and no other seat changed
pub record TurnsThere (desk : DeskView) (room : ℕ) (call : RoomCall Global) (reply : RoomReply Global)
    (seats seats' : List SeatView) : Type 0 where
  pub before : SeatView
  pub after : SeatView
  pub was : slice_get seats room ≡ Some before
  pub others : seats' ≡ slice_set seats room after
  pub at : IsAt desk after
  pub same : IsSameSeat before after
  pub turn : TurnsAt IsTurn desk.fixed before call reply after
  -- what the seat has seen has the entries of its own calls and those of each seat met into it, each once
  pub kin : HasKin after.seen after

-- the room's seat looked at the length of the desk's history, and no other seat changed
pub record LooksThere (desk : DeskView) (room count : ℕ) (seats seats' : List SeatView) : Type 0 where
  pub before : SeatView
  pub after : SeatView
  pub was : slice_get seats room ≡ Some before
  pub others : seats' ≡ slice_set seats room after
  pub at : IsAt desk after
  pub same : IsSameSeat before after
  pub look : LooksAt IsTurn desk.fixed before count after
  pub kin : HasKin after.seen after

-- a fault of the rooms' base map, as a fault of the table
abbrev pub base_fault : BaseFault Global → TableFault
base_fault (bases.Unsound x why) = Unsound x why
base_fault bases.Memory = Memory
