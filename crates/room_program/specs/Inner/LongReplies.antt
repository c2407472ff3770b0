-- A reply that is too long to be copied.
use Rattle.std.specs.Prelude.{◌≤◌, ℕ, List, [], ◌∷◌, ◌++◌, length, Option, Some, None}
use Rattle.room_program.specs.declared.blocks.TheConstants.{BLOCK}

-- the bytes that are written for the reply
abbrev pub long_line : Option (List ℕ) → List ℕ
long_line None = []
long_line (Some text) = text ++ 10 ∷ []

-- the reply is at least as long as a block
abbrev pub IsLong : Option (List ℕ) → Type 0
IsLong None = Unit {0}
IsLong (Some text) = BLOCK ≤ length text
