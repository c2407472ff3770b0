-- The lines with the entry counts of rooms.
use Rattle.std.specs.Prelude.{ℕ, List, [], ◌∷◌, ◌++◌, decimal}
use Rattle.clap.specs.Words.{Text}

-- a room's name, a space, a number in decimal digits and a line feed
abbrev pub front_line : Text → ℕ → Text
front_line room front = room ++ 32 ∷ decimal front ++ 10 ∷ []

-- such a line for each room and its number
abbrev pub front_lines : List Text → List ℕ → Text
front_lines (room ∷ rooms) (front ∷ fronts) = front_line room front ++ front_lines rooms fronts
front_lines _ _ = []
