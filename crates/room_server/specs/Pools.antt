-- What a pool of workers does with the seats at a table of rooms.
use Rattle.std.specs.Prelude.{◌≡◌, ◌++◌, ◌-◌, ◌^◌, ℕ, List, [], ◌∷◌, All, Some, length, map, slice_get, flat_map, option_to_list}
use Rattle.room_socket.specs.Prelude.{Rule, ServesEach, BeginsWith}
use Rattle.turn_desk.specs.Desk.{kin}
use Rattle.room_server.specs.Seats.{IsFresh}
use Rattle.room_server.specs.Tables.{SeatView, TableView, known_through, mark}

-- the lists have the same length, and R holds of the two elements at each position
abbrev pub Pairs : {X Y : Type 0} → (X → Y → Type 0) → List X → List Y → Type 0
Pairs R [] [] = Unit {0}
Pairs R [] (y ∷ ys) = ⊥
Pairs R (x ∷ xs) [] = ⊥
Pairs R (x ∷ xs) (y ∷ ys) = R x y × Pairs R xs ys

-- the seats of a room in these sets
abbrev pub seats_of : ℕ → List (List SeatView) → List SeatView
seats_of room sets = flat_map (λ set. option_to_list (slice_get set room)) sets

-- A worker was lent these fresh seats and gave them back. Through them it only served sessions, in sequence, each of at
-- most `turns` messages and with a caller whom the rule lets in.
pub record Works (table : TableView) (rule : Rule) (turns : ℕ) (lent back : List SeatView) : Type 0 where
  pub fresh : IsFresh table lent
  pub same : map mark back ≡ map mark lent
  pub sessions : ℕ
  pub serves : ServesEach rule turns sessions (known_through table lent) (known_through table back)

-- The sets were met into the seats, which made no call of their own.
pub record Meet (sets : List (List SeatView)) (seats : List SeatView) : Type 0 where
  pub own : All (λ seat. seat.mine ≡ []) seats
  -- the kin of each seat are those of the sets' seats of its room, with their calls
  pub met : (room : ℕ) (seat : SeatView) → slice_get seats room ≡ Some seat → seat.met ≡ flat_map kin (seats_of room sets)
  -- each seat has seen all that these seats had seen
  pub seen : (room : ℕ) (seat : SeatView) → slice_get seats room ≡ Some seat
      → All (λ other. BeginsWith seat.seen other.seen) (seats_of room sets)

-- Each of the workers worked with a set of seats. All sets were met into the first seats, which have all parts of their
-- desks again.
pub record Pools (table : TableView) (rule : Rule) (turns workers : ℕ) (seats : List SeatView) : Type 0 where
  pub lent : List (List SeatView)
  pub back : List (List SeatView)
  pub many : length lent ≡ workers
  pub works : Pairs (Works table rule turns) lent back
  pub meet : Meet back seats
  pub parts : All (λ seat. seat.parts ≡ 2 ^ 64 - 1) seats
