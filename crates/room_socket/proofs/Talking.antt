-- The calls of a session's core as parts of a conversation, and the turns of a conversation.
use Rattle.std.proofs.Common.{inl, inr, subst, arith, ◌≡◌, ◌<◌, ◌≤◌, ◌-◌, ◌+◌, ℕ, zero, suc, List, Option, Some, None, Ok, Err, Result, refl, IfOk, OnErr, ◌≢◌}
use Rattle.tungstenite.specs.declared.CloseCode.TheVariants.{Normal}
use Rattle.tungstenite.specs.Socket.{Socket}
use Rattle.room_socket.specs.Prelude.{Bad, Incoming, GivesMessage, spells, Sent, Ended, State, Closed, HearsText, Makes, WaitsOn, closing, Known, MakesNone, End, Bound, Converses, TakesBinary, TakesQuiet, TakesText, TakesTurn, Closes}

module _ (state state' : State) (before after : Known) where
  pub gave_text : (result : Result Sent Ended) (words : List ℕ) → IfOk result (λ sent. HearsText before sent state' after state words)
      → OnErr result ((state ≡ Closed) × (state' ≡ Closed) × (after ≡ before))
      → ((said : Result Incoming Bad) × GivesMessage said (spells words) × Makes before state said after)
      → TakesText words result state before state' after
  gave_text (Ok sent) words ok err makes = (ok, makes)
  gave_text (Err e) words ok err makes = err

  pub gave_quiet : (result : Result Sent Ended) → IfOk result (λ sent. WaitsOn before sent state' after state)
      → OnErr result ((state ≡ Closed) × (state' ≡ Closed) × (after ≡ before))
      → MakesNone before after → TakesQuiet result state before state' after
  gave_quiet (Ok sent) ok err makes = (ok, makes)
  gave_quiet (Err e) ok err makes = err

pub gave_binary : (state state' : State) (known : Known) (result : Result Sent Ended) → IfOk result (λ sent. (sent ≡ closing 1003) × (state ≢ Closed))
    → OnErr result (state ≡ Closed) → state' ≡ Closed → TakesBinary result state known state' known
gave_binary state state' known (Ok sent) ok err closed = (ok.0, closed, refl)
gave_binary state state' known (Err e) ok err closed = (err, closed, refl)

module _ {S : Type 0} (remaining contents : S → Option (List ℕ)) (turns count : ℕ) (old new : Socket S) (state state' : State) (before after : Known) (end : End) where
  -- the turn that ends the conversation
  pub last_turn : count < turns → TakesTurn remaining contents old state before (Some end) new state' after → Converses remaining contents (turns - count) old state before end new state' after
  last_turn inside takes =
      let more : suc (turns - (count + 1)) ≡ turns - count = omega (arith, inside) in
      subst (λ n. Converses remaining contents n old state before end new state' after) more (inl takes)

  pub turn_before : (next : Socket S) (later : State) (between : Known) → count < turns → TakesTurn remaining contents old state before None next later between
      → Converses remaining contents (turns - (count + 1)) next later between end new state' after
      → Converses remaining contents (turns - count) old state before end new state' after
  turn_before next later between inside takes rest =
      let more : suc (turns - (count + 1)) ≡ turns - count = omega (arith, inside) in
      subst (λ n. Converses remaining contents n old state before end new state' after) more (inr (next, later, between, takes, rest))

  pub no_turn_left : turns ≤ count → end ≡ Bound → Closes remaining contents Normal old new → state' ≡ state → after ≡ before → Converses remaining contents (turns - count) old state before end new state' after
  no_turn_left past is closes same kept =
      let none : zero ≡ turns - count = omega (arith, past) in
      subst (λ n. Converses remaining contents n old state before end new state' after) none (is, closes, same, kept)
