-- The calls of a session's core as events, and sequences of events.
use Rattle.std.proofs.Common.{◌≡◌, ◌≤◌, ◌+◌, ◌++◌, ◌∷◌, [], ℕ, List, length, refl, IfOk, OnErr, Result, Ok, Err, arith, length-append, subst}
use Rattle.room_socket.specs.Prelude.{Bad, Incoming, GivesMessage, spells, Sent, Ended, State, Closed, HearsText, Makes, WaitsOn, Known, MakesNone, Event, Follows, Happens, InTurns, Text, Quiet, Last}

-- events followed by further events
pub follows_both : (one two : List Event) (state between state' : State) (before known after : Known) → Follows one state before between known → Follows two between known state' after → Follows (one ++ two) state before state' after
follows_both [] two state between state' before known after first second =
    subst (λ (s : State). Follows two s before state' after) first.0 (subst (λ (k : Known). Follows two between k state' after) first.1 second)
follows_both (event ∷ one) two state between state' before known after first second =
    (first.0, first.1, first.2, follows_both one two first.0 between state' first.1 known after first.3 second)

abbrev pub One : State → Known → State → Known → Type 0
One state before state' after = (event : Event) × Follows (event ∷ []) state before state' after

module _ (state state' : State) (before after : Known) where
  alone : (event : Event) → Happens event state before state' after → One state before state' after
  alone event happens = (event, (state', after, happens, (refl, refl)))

  pub took_text : (result : Result Sent Ended) (text : List ℕ) → IfOk result (λ sent. HearsText before sent state' after state text)
      → OnErr result ((state ≡ Closed) × (state' ≡ Closed) × (after ≡ before))
      → ((said : Result Incoming Bad) × GivesMessage said (spells text) × Makes before state said after)
      → One state before state' after
  took_text (Ok sent) text ok err makes = alone (Text text) ((sent, ok), makes)
  took_text (Err e) text ok err makes = alone Last (err.1, err.2)

  pub waited : (result : Result Sent Ended) → IfOk result (λ sent. WaitsOn before sent state' after state)
      → OnErr result ((state ≡ Closed) × (state' ≡ Closed) × (after ≡ before))
      → MakesNone before after
      → One state before state' after
  waited (Ok sent) ok err makes = alone Quiet ((sent, ok), makes)
  waited (Err e) ok err makes = alone Last (err.1, err.2)

-- a step of at most one event
abbrev pub AtMostOne : State → Known → State → Known → Type 0
AtMostOne state before state' after = (events : List Event) × (length events ≤ 1) × Follows events state before state' after

pub at_most_one : (state state' : State) (before after : Known) → One state before state' after → AtMostOne state before state' after
at_most_one state state' before after one = (one.0 ∷ [], omega arith, one.1)

-- the session ends, and nothing is asked
pub ended : (state state' : State) (known : Known) → state' ≡ Closed → AtMostOne state known state' known
ended state state' known closed = (Last ∷ [], omega arith, (state', known, (closed, refl), (refl, refl)))

pub one_turn_more : (turns : ℕ) (state between state' : State) (before known after : Known) → InTurns turns state before between known → AtMostOne between known state' after → InTurns (turns + 1) state before state' after
one_turn_more turns state between state' before known after first second = (
  first.0 ++ second.0,
  (let many = length-append first.0 second.0 in let one = first.1 in let two = second.1 in omega (arith, many, one, two)),
  follows_both first.0 second.0 state between state' before known after first.2 second.2,
)
