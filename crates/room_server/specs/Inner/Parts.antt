-- The parts of a desk that the seats of a room have.
use Rattle.std.specs.Prelude.{◌+◌, ℕ, List, [], ◌∷◌, Option, Some, None, slice_get}
use Rattle.room_server.specs.Tables.{SeatView}

-- the parts of a seat, if there is one
abbrev pub parts_at : Option SeatView → ℕ
parts_at None = 0
parts_at (Some seat) = seat.parts

-- the sum of the parts of a room's seats in these sets
abbrev pub parts_in : ℕ → List (List SeatView) → ℕ
parts_in room [] = 0
parts_in room (set ∷ sets) = parts_at (slice_get set room) + parts_in room sets
