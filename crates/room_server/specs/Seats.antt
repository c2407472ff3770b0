-- How the seats of a table are split and met.
use Rattle.std.specs.Prelude.{◌≡◌, ◌≤◌, ◌*◌, ◌+◌, ◌^◌, ℕ, List, [], All, Some, length, slice_get}
use Rattle.room_socket.specs.Prelude.{IsTurn}
use Rattle.turn_desk.specs.Desk.{MeetsAt, SplitsInto}
use Rattle.room_server.specs.Tables.{AreAt, DeskView, SeatView, TableView}

-- Each seat can be split `count` times. A split gives away a 4096th of the seat's parts, and a desk has 2^64 - 1 parts.
abbrev pub HavePartsFor : ℕ → List SeatView → Type 0
HavePartsFor count seats = All (λ seat. (count * 2 ^ 52 ≤ seat.parts + 1) × (seat.parts + 1 ≤ 2 ^ 64)) seats

-- each of the seats was split in two
pub record AreSplit (seats kept new : List SeatView) : Type 0 where
  pub as_many : length kept ≡ length seats
  pub of_new : length new ≡ length seats
  pub split : (room : ℕ) (seat one other : SeatView) → slice_get seats room ≡ Some seat → slice_get kept room ≡ Some one
      → slice_get new room ≡ Some other → SplitsInto seat one other

-- into each seat of a table, the other seat at the same desk was met
pub record AreMet (table : TableView) (seats others seats' : List SeatView) : Type 0 where
  pub as_many : length seats' ≡ length seats
  pub met : (room : ℕ) (desk : DeskView) (seat other seat' : SeatView) → slice_get table.desks room ≡ Some desk
      → slice_get seats room ≡ Some seat → slice_get others room ≡ Some other → slice_get seats' room ≡ Some seat'
      → MeetsAt IsTurn desk.fixed seat other seat'

-- there is a seat at each desk, into which no other seat was met
abbrev pub IsSet : TableView → List SeatView → Type 0
IsSet table seats = AreAt table seats × All (λ seat. seat.met ≡ []) seats

-- a seat at each desk, none of which has made a call or met another seat
abbrev pub IsFresh : TableView → List SeatView → Type 0
IsFresh table seats = AreAt table seats × All (λ seat. (seat.mine ≡ []) × (seat.met ≡ [])) seats

-- these are the first seats of the desks, and `count` seats were met into each
abbrev pub HaveMet : ℕ → List SeatView → Type 0
HaveMet count seats = All (λ seat. (seat.number ≡ 0) × (length seat.met ≡ count)) seats
