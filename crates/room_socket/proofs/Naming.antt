-- What a session makes, event by event, is by an author as whom its caller may make changes.
use Rattle.std.proofs.Common.{◌≡◌, ◌∷◌, [], List, subst, sym, refl}
use Rattle.room_socket.specs.Prelude.{BeforeHello, Caller, Closed, Event, Follows, Happens, IsOf, Known, Last, MakesAs, Quiet, State, Text, both_made_as, none_made_as, quiet_stays, text_made_as, text_stays}

module _ (caller : Caller) where
  one_stays : (event : Event) (state : State) (before : Known) (state' : State) (after : Known) → IsOf caller state → Happens event state before state' after → IsOf caller state'
  one_stays (Text text) state before state' after of (hears, makes) = text_stays caller before hears.0 state' after state text of hears.1
  one_stays Quiet state before state' after of (waits, none) = quiet_stays caller before waits.0 state' after state of waits.1
  one_stays Last state before state' after of (closed, same) = subst (λ (s : State). IsOf caller s) (sym closed) tt

  one_makes : (event : Event) (state : State) (before : Known) (state' : State) (after : Known) → IsOf caller state → Happens event state before state' after → MakesAs caller before after
  one_makes (Text text) state before state' after of (hears, makes) = text_made_as caller before state makes.0 after of makes.2
  one_makes Quiet state before state' after of (waits, none) = none_made_as caller before after none
  one_makes Last state before state' after of (closed, same) = subst (λ (k : Known). MakesAs caller before k) (sym same) (none_made_as caller before before (λ room. refl))

  pub makes_as : (events : List Event) (state : State) (before : Known) (state' : State) (after : Known) → IsOf caller state → Follows events state before state' after → MakesAs caller before after
  makes_as [] state before state' after of (stays, same) = subst (λ (k : Known). MakesAs caller before k) (sym same) (none_made_as caller before before (λ room. refl))
  makes_as (event ∷ later) state before state' after of (next, between, happens, rest) =
      both_made_as caller before between after (one_makes event state before next between of happens)
      (makes_as later next between state' after (one_stays event state before next between of happens) rest)
