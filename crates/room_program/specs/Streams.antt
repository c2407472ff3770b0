-- What a run over a reader and a writer did to their bytes, if these are known.
use Rattle.std.specs.Prelude.{◌≡◌, ◌≢◌, ◌⊎◌, ◌<◌, ℕ, suc, zero, List, [], ◌++◌, Option, Result, Ok, option_map}
use Rattle.std.specs.Io.KnownBytes.{Appends, Consumes, IsAtEnd}
use Rattle.room_program.specs.declared.failed.Failed.{Failed}
use Rattle.room_program.specs.Lines.{ended}
use Rattle.room_program.specs.Scripts.{Loss}

-- this number of calls, each of which gave some bytes, lead from one state of a reader to another
unfoldable pub Gets : {S : Type 0} → (S → Result ℕ Failed → S → Type 0) → ℕ → S → S → Type 0
Gets gets zero before after = after ≡ before
Gets {S} gets (suc n) before after =
    (between : S) × (count : ℕ) × (0 < count) × Gets gets n before between × gets between (Ok count) after

-- at most this number of calls lead from one state of a reader to another, and each but the last gave some bytes
abbrev pub GetsAtMost : {S : Type 0} → (S → Result ℕ Failed → S → Type 0) → ℕ → S → S → Type 0
GetsAtMost {S} gets most before after =
    (after ≡ before)
    ⊎ ((n : ℕ) × (n < most) × (between : S) × (answer : Result ℕ Failed)
    × Gets gets n before between × gets between answer after)

-- the last call of a writer took none of the bytes, of which there were some
abbrev pub TookNone : {W : Type 0} → (W → List ℕ → Result ℕ Failed → W → Type 0) → W → Type 0
TookNone {W} puts after = (before : W) × (rest : List ℕ) × (rest ≢ []) × puts before rest (Ok 0) after

-- the bytes that a reader has left, with these bytes in front of them, if they are known
abbrev pub with_bytes : List ℕ → Option (List ℕ) → Option (List ℕ)
with_bytes bytes left = option_map (λ later. bytes ++ later) left

-- `script` is the text to be written for the bytes of a stream
module _ (script : List ℕ → List Loss → List ℕ) where
  -- all was read, and its script was written
  pub record WritesAll (left left' taken taken' : Option (List ℕ)) : Type 0 where
    pub read : List ℕ
    pub lost : List Loss
    pub consumed : Consumes left left' read
    pub at_end : IsAtEnd left'
    pub written : Appends taken taken' (script read lost)

  -- the script of the lines whose line feeds were read was written
  pub record WritesEnded (left left' taken taken' : Option (List ℕ)) : Type 0 where
    pub read : List ℕ
    pub lost : List Loss
    pub consumed : Consumes left left' read
    pub written : Appends taken taken' (script (ended read) lost)

  -- a prefix of the script of what was read was written
  pub record WritesFront (left left' taken taken' : Option (List ℕ)) : Type 0 where
    pub read : List ℕ
    pub lost : List Loss
    pub written_bytes : List ℕ
    pub unwritten : List ℕ
    pub consumed : Consumes left left' read
    pub script_is : script read lost ≡ written_bytes ++ unwritten
    pub written : Appends taken taken' written_bytes
