-- What a timely stream states of its bytes.
use Rattle.std.specs.Prelude.{ℕ, List, Option}
use Rattle.room_socket.specs.declared.timely.Timely.{Timely}

module _ {S : Type 0} where
  -- the bytes that reads will give are those of the inner stream
  abbrev pub remaining_of : (S → Option (List ℕ)) → Timely S → Option (List ℕ)
  remaining_of remaining timely = remaining timely.stream

  -- the bytes that were written are those of the inner stream
  abbrev pub contents_of : (S → Option (List ℕ)) → Timely S → Option (List ℕ)
  contents_of contents timely = contents timely.stream
