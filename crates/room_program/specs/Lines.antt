-- The lines of a stream of bytes, each ended by a line feed, which is the byte 10.
use Rattle.std.specs.Prelude.{◌==◌, ◌≢◌, ℕ, List, [], ◌∷◌, if◌then◌else◌}

-- the lines, with a byte in front of the first line
abbrev pub with_byte : ℕ → List (List ℕ) → List (List ℕ)
with_byte b [] = (b ∷ []) ∷ []
with_byte b (l ∷ ls) = (b ∷ l) ∷ ls

-- the pieces that end with a line feed, without it, and the rest, if the rest is not empty
abbrev pub lines : List ℕ → List (List ℕ)
lines [] = []
lines (b ∷ bs) = if b == 10 then [] ∷ lines bs else with_byte b (lines bs)

-- the bytes with a byte in front of them; without bytes, there are none
abbrev pub before : ℕ → List ℕ → List ℕ
before b [] = []
before b (c ∷ cs) = b ∷ c ∷ cs

-- the bytes up to and including the last line feed
abbrev pub ended : List ℕ → List ℕ
ended [] = []
ended (b ∷ bs) = if b == 10 then b ∷ ended bs else before b (ended bs)

-- no byte is a line feed
abbrev pub IsLine : List ℕ → Type 0
IsLine [] = Unit {0}
IsLine (b ∷ bs) = (b ≢ 10) × IsLine bs
