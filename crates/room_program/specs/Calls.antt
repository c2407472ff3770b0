-- The notes of a stream's calls.
use Rattle.std.specs.Prelude.{◌≡◌, ◌⊎◌, ◌≤◌, ℕ, ◌+◌, ◌-◌, ◌^◌, min, true, Some, None, Result, Ok, Err, is_err}
use Rattle.room_program.specs.declared.failed.Failed.{Failed}
use Rattle.room_program.specs.declared.noted.Calls.{Calls}
use Rattle.room_program.specs.declared.noted.Stop.{Stop}
use Rattle.room_program.specs.declared.noted.Stop.TheVariants as stops

-- notes without a call
abbrev pub unnoted : Calls
unnoted = record { answered = 0; interrupted = 0; last = None }

-- one more, in a count that stops at 2^64 - 1
abbrev pub one_more : ℕ → ℕ
one_more n = min (n + 1) (2 ^ 64 - 1)

-- the notes with one more call; a call that was answered is also the last one
abbrev pub noted : Calls → ℕ → Result ℕ Stop → Calls
noted calls asked (Ok count) = record {
  answered = one_more calls.answered;
  interrupted = calls.interrupted;
  last = Some (record { asked = asked; answer = Ok count });
}
noted calls asked (Err stops.Failed) = record {
  answered = one_more calls.answered;
  interrupted = calls.interrupted;
  last = Some (record { asked = asked; answer = Err (record {}) });
}
noted calls asked (Err stops.Interrupted) = record calls { interrupted = one_more calls.interrupted }

-- one more call for this number of bytes was answered, with this answer
pub record IsAnswered (before after : Calls) (asked : ℕ) (answer : Result ℕ Failed) : Type 0 where
  pub once : after.answered ≡ one_more before.answered
  pub last : after.last ≡ Some (record { asked = asked; answer = answer })

-- the same; or 2^64 - 1 calls were interrupted, which counts as a failure
abbrev pub AnswersAtLast : Calls → ℕ → Result ℕ Failed → Calls → Type 0
AnswersAtLast before asked answer after =
    IsAnswered before after asked answer ⊎ ((is_err answer ≡ true) × (2 ^ 64 - 1 ≤ after.interrupted))
