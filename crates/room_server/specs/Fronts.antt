-- The entry counts of the rooms of a table that is closed.
use Rattle.std.specs.Prelude.{◌≡◌, ◌≢◌, ◌+◌, ◌-◌, ◌^◌, ℕ, List, [], ◌∷◌, Some, length, slice_get}
use Rattle.room_socket.specs.Prelude.{Global, IsTurn, History, IsLegal, BeginsWith}
use Rattle.turn_desk.specs.Desk.{HasKin, kin}
use Rattle.turn_desk.specs.History.{AreApart, IsAmong, entries_by}
use Rattle.room_history.specs.declared.entry.Entry.{Entry}
use Rattle.room_server.specs.Tables.{DeskView, SeatView}

-- the calls of all of these numbers together
abbrev pub calls_of : {E : Type 0} → List (ℕ × List E) → ℕ
calls_of [] = 0
calls_of (k ∷ ks) = length k.1 + calls_of ks

-- the number is the length of a legal history of the desk, which begins with all that the seat has seen and has the
-- entries of each of its kin
pub record IsFront (desk : DeskView) (seat : SeatView) (front : ℕ) : Type 0 where
  pub h : History (Entry Global)
  pub legal : IsLegal IsTurn desk.fixed h
  pub begins : BeginsWith h seat.seen
  -- if the seat has all parts, no entry is another's than its kin's
  pub all : seat.parts ≡ 2 ^ 64 - 1 → (n : ℕ) → entries_by n h ≢ [] → IsAmong n (kin seat)
  -- no number is that of two of its kin
  pub apart : AreApart (kin seat)
  -- then the number is that of the accepted calls of all its kin
  pub sum : seat.parts ≡ 2 ^ 64 - 1 → front ≡ calls_of (kin seat)
  pub kin : HasKin h seat
  pub count : front ≡ length h

-- there is such a number for each desk, in order
pub record AreFronts (desks : List DeskView) (seats : List SeatView) (fronts : List ℕ) : Type 0 where
  pub as_many : length fronts ≡ length desks
  pub each : (room : ℕ) (desk : DeskView) (seat : SeatView) (front : ℕ) → slice_get desks room ≡ Some desk
      → slice_get seats room ≡ Some seat → slice_get fronts room ≡ Some front → IsFront desk seat front
