-- How far the lines of a stream were answered.
use Rattle.std.specs.Prelude.{◌≡◌, ℕ, List, [], ◌∷◌, ◌++◌}
use Rattle.room_program.specs.Lines.{IsLine}
use Rattle.room_program.specs.Scripts.{Loss}

-- lines, each with its line feed, followed by more bytes
abbrev pub joined : List (List ℕ) → List ℕ → List ℕ
joined [] more = more
joined (line ∷ later) more = line ++ 10 ∷ joined later more

abbrev pub AreLines : List (List ℕ) → Type 0
AreLines [] = Unit {0}
AreLines (line ∷ later) = IsLine line × AreLines later

module _ {R : Type 0} (answer : Loss → R → List ℕ → List ℕ × R) where
  -- the room answers the lines by these replies, and is `after` afterwards
  abbrev pub Runs : R → List (List ℕ) → List ℕ → R → Type 0
  Runs room [] replies after = (replies ≡ []) × (after ≡ room)
  Runs room (line ∷ later) replies after =
      (loss : Loss) × (more : List ℕ) × (replies ≡ (answer loss room line).0 ++ 10 ∷ more)
      × Runs (answer loss room line).1 later more after

  -- the lines at the beginning of the bytes are answered by these replies, and the rest of the bytes is left
  pub record AnswersFront (room : R) (bytes replies rest : List ℕ) (after : R) : Type 0 where
    pub whole : List (List ℕ)
    pub are_lines : AreLines whole
    pub split : bytes ≡ joined whole rest
    pub run : Runs room whole replies after

  -- the same, for any rest and any room after it
  pub record AnswersSome (room : R) (bytes replies : List ℕ) : Type 0 where
    pub rest : List ℕ
    pub after : R
    pub front : AnswersFront room bytes replies rest after
