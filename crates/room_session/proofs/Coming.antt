-- The outcome of an event, from what the private functions return.
use Rattle.std.proofs.Common.{◌≡◌, ◌⊎◌, ℕ, List, Result, Ok, Err, MatchResult, sym, subst, inl, inr}
use Rattle.room_session.specs.Prelude.{AllocError, Caller, Speaker, Bad, Incoming, GivesMessage, spells, Next, Sent, State, BeforeHello, Open, Closed, closing, only, Begins, BreaksOff, EndsFirst, GivesUp, GoesOn, HearsText, Known}

-- the outcome goes out, or an allocation failed
abbrev Goes : Result Next AllocError → Sent → State → Type 0
Goes next sent state = MatchResult next (λ n. (sent ≡ only n.texts) × (state ≡ n.state)) (λ _. (sent ≡ closing 1011) × (state ≡ Closed))

-- what is true of the outcome's texts and state is true of what goes out and of the state after it; otherwise an
-- allocation failed, and Q is true
comes : (P : Sent → State → Type 0) (Q : Type 0) (next : Result Next AllocError) (sent : Sent) (state : State)
    → MatchResult next (λ n. P (only n.texts) n.state) (λ _. Q) → Goes next sent state → P sent state ⊎ (GivesUp sent state × Q)
comes P Q (Ok n) sent state made gone = inl (subst (λ (s : Sent). P s state) (sym gone.0) (subst (λ (t : State). P (only n.texts) t) (sym gone.1) made))
comes P Q (Err e) sent state made gone = inr (gone, made)

abbrev BeginsAt : Caller → Known → Known → Result Next AllocError → List ℕ → Type 0
BeginsAt caller before after next text = (said : Result Incoming Bad) × GivesMessage said (spells text)
    × MatchResult next (λ n. Begins caller before (only n.texts) n.state after said) (λ _. EndsFirst caller before after said)

-- a text before a hello
pub heard_first : (caller : Caller) (before after made_after : Known) (old : State) (text : List ℕ) (next made : Result Next AllocError) (sent : Sent) (state : State)
    → old ≡ BeforeHello caller → after ≡ made_after → next ≡ made → BeginsAt caller before made_after made text → Goes next sent state → HearsText before sent state after old text
heard_first caller before after made_after old text next made sent state is same same_next begins gone =
    let there : BeginsAt caller before made_after next text = subst (λ (x : Result Next AllocError). BeginsAt caller before made_after x text) (sym same_next) begins in
    let here : BeginsAt caller before after next text = subst (λ (k : Known). BeginsAt caller before k next text) (sym same) there in
    subst (λ (s : State). HearsText before sent state after s text) (sym is)
    (here.0, here.1, comes (λ d s. Begins caller before d s after here.0) (EndsFirst caller before after here.0) next sent state here.2 gone)

abbrev GoesOnAt : Known → Known → ℕ → Speaker → ℕ → Result Next AllocError → List ℕ → Type 0
GoesOnAt before after room speaker told next text = (said : Result Incoming Bad) × GivesMessage said (spells text)
    × MatchResult next (λ n. GoesOn before (only n.texts) n.state after room speaker told said) (λ _. BreaksOff before after room speaker told said)

-- a text in an open session
pub heard : (before after made_after : Known) (old : State) (room : ℕ) (speaker : Speaker) (told : ℕ) (text : List ℕ) (next made : Result Next AllocError) (sent : Sent) (state : State)
    → old ≡ Open room speaker told → after ≡ made_after → next ≡ made → GoesOnAt before made_after room speaker told made text → Goes next sent state → HearsText before sent state after old text
heard before after made_after old room speaker told text next made sent state is same same_next goes_on gone =
    let there : GoesOnAt before made_after room speaker told next text = subst (λ (x : Result Next AllocError). GoesOnAt before made_after room speaker told x text) (sym same_next) goes_on in
    let here : GoesOnAt before after room speaker told next text = subst (λ (k : Known). GoesOnAt before k room speaker told next text) (sym same) there in
    subst (λ (s : State). HearsText before sent state after s text) (sym is)
    (here.0, here.1, comes (λ d s. GoesOn before d s after room speaker told here.0) (BreaksOff before after room speaker told here.0) next sent state here.2 gone)
