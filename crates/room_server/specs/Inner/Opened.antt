-- Rooms that were opened, each at a desk.
use Rattle.std.specs.Prelude.{◌≡◌, ℕ, List, Some, All, length, slice_get}
use Rattle.room_socket.specs.Prelude.{Global, Rows}
use Rattle.turn_desk.specs.Desk.{IsAt, IsFirst}
use Rattle.room_server.specs.Openings.{opening}
use Rattle.room_server.specs.Tables.{DeskView, SeatView}

-- this number of rooms begin with this map, and the seats are the first seats of their desks
pub record AreOpened (base : Rows Global) (limit count : ℕ) (desks : List DeskView) (seats : List SeatView)
    : Type 0 where
  pub many : length desks ≡ count
  pub as_many : length seats ≡ count
  pub opened : All (λ desk. desk.fixed ≡ opening base limit) desks
  pub at : (room : ℕ) (desk : DeskView) (seat : SeatView) → slice_get desks room ≡ Some desk
      → slice_get seats room ≡ Some seat → IsAt desk seat
  pub first : All IsFirst seats
