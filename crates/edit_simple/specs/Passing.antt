-- The result of a function that only checks.
use Rattle.std.specs.Prelude.{Option, Some, None, Result, Ok, Err}

-- success, or the refusal if there is one
abbrev pub passed : {X : Type 0} → Option X → Result (Unit {0}) X
passed None = Ok tt
passed (Some refusal) = Err refusal
