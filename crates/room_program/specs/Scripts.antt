-- The output for lines: the reply to each line, and a line feed.
use Rattle.std.specs.Prelude.{ℕ, List, [], ◌∷◌, ◌++◌}
use Rattle.room_program.specs.Lines.{lines}

-- what a failed allocation cost a line: nothing, its answer, or its answer with its id
pub data Loss : Type 0 where
  Nothing : Loss
  Answer_lost : Loss
  Answer_and_id_lost : Loss

-- the loss of the first line, and the losses of the later lines
abbrev pub first_loss : List Loss → Loss
first_loss [] = Nothing
first_loss (x ∷ xs) = x

abbrev pub later_losses : List Loss → List Loss
later_losses [] = []
later_losses (x ∷ xs) = xs

-- `answer` gives the reply of a room to a line, and the room after it
module _ {R : Type 0} (answer : Loss → R → List ℕ → List ℕ × R) where
  -- the replies to lines, in order
  abbrev pub replies : R → List (List ℕ) → List Loss → List ℕ
  replies room [] lost = []
  replies room (line ∷ later) lost =
      let step = answer (first_loss lost) room line in
      step.0 ++ 10 ∷ replies step.1 later (later_losses lost)

  -- the room after the lines
  abbrev pub room_after : R → List (List ℕ) → List Loss → R
  room_after room [] lost = room
  room_after room (line ∷ later) lost = room_after (answer (first_loss lost) room line).1 later (later_losses lost)

  -- the script of a stream: the replies to its lines
  abbrev pub script_of : R → List ℕ → List Loss → List ℕ
  script_of room bytes lost = replies room (lines bytes) lost
