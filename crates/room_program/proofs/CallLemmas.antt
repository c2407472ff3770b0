-- Counting the calls of a reader.
use Rattle.std.proofs.Common.{◌≤◌, ◌<◌, ℕ, suc, zero, Result, Ok, refl, inl, inr, arith}
use Rattle.room_program.specs.declared.failed.Failed.{Failed}
use Rattle.room_program.specs.Streams.{GetsAtMost, Gets}

module _ {S : Type 0} (gets : S → Result ℕ Failed → S → Type 0) where
  -- no call leads to the same state
  pub no_gets : (state : S) → Gets gets 0 state state
  unfolding Gets
  no_gets state = refl

  -- one more call leads on
  pub next_gets : (n count : ℕ) (before between after : S) → 0 < count → Gets gets n before between → gets between (Ok count) after → Gets gets (suc n) before after
  unfolding Gets
  next_gets n count before between after some made last = (between, count, some, made, last)

  -- the calls that were made were allowed
  pub calls_made : (n reads : ℕ) (before after : S) → n ≤ reads → Gets gets n before after → GetsAtMost gets reads before after
  unfolding Gets
  calls_made zero reads before after h made = inl made
  calls_made (suc n) reads before after h made = inr (n, omega (arith, h), made.0, Ok made.1, made.3, made.4)

  -- one more call was allowed
  pub one_more : (n reads : ℕ) (before between after : S) (answer : Result ℕ Failed) → suc n ≤ reads →
      Gets gets n before between → gets between answer after → GetsAtMost gets reads before after
  one_more n reads before between after answer h made last = inr (n, omega (arith, h), between, answer, made, last)
