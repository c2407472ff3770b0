-- The reply to a message, from what the private functions return.
use Rattle.std.proofs.Common.{◌≡◌, ◌⊎◌, ℕ, List, [], ◌∷◌, Option, Some, None, Result, Ok, Err, IfOk, OnErr, MatchResult, length, refl, ◌∙◌, sym, ap, subst, inl, inr}
use Rattle.serde_json.specs.Written.{compact_text}
use Rattle.room_session.specs.Prelude.{AllocError, Global, Name, Author, Request, RoomCall, RoomReply, Entry, room_answer, wanting, mapof, Answer, Body, Hello, Change, Get, Map, Undos, answer_to, answer_text, AreToldAlike, map_tree, Next, Sent, State, BeforeHello, Open, only, Barred, Caller, Speaker, barred_text, greeted, AnswersAlone, Asks, AsksIfAny, BeginsBy, Greets, GreetsAs, Refuses, RepliesToWatcher, Known, AnswersCall, IsJournalOf}
use Rattle.room_interface.specs.declared.ask.RoomCall.TheVariants as calls
use Rattle.room_wire.specs.declared.answer.Answer.TheVariants as answers

-- ---- in an open session

-- if nothing is asked of the room
pub unasked : (before : Known) (room id : ℕ) (call : Option (RoomCall Global)) (made : Result (List ℕ) AllocError) → call ≡ None → IfOk made (λ json. json ≡ answer_text id answers.HelloTwice)
    → (due : List ℕ) × AsksIfAny before room id call due before × IfOk made (λ json. json ≡ due)
unasked before room id call made none is =
    (answer_text id answers.HelloTwice, subst (λ c. AsksIfAny before room id c (answer_text id answers.HelloTwice) before) (sym none) (refl, refl), is)

alike_text : (id : ℕ) (told answer : Answer) (made : Result (List ℕ) AllocError) → AreToldAlike told answer → IfOk made (λ json. json ≡ answer_text id told) → IfOk made (λ json. json ≡ answer_text id answer)
alike_text id told answer (Ok json) alike is = is ∙ ap compact_text (alike id)
alike_text id told answer (Err e) alike is = is

-- if the room was asked
pub replied : (before after : Known) (room id : ℕ) (call : RoomCall Global) (reply : RoomReply Global) (told : Answer) (made : Result (List ℕ) AllocError) → AnswersCall before room call reply after
    → AreToldAlike told (answer_to reply) → IfOk made (λ json. json ≡ answer_text id told) → (due : List ℕ) × Asks before room id call due after × IfOk made (λ json. json ≡ due)
replied before after room id call reply told made answers alike is =
    (answer_text id (answer_to reply), (reply, answers, refl), alike_text id told (answer_to reply) made alike is)

-- if the message asked the room this call
pub asked_for : (before after : Known) (room id : ℕ) (asks : Option (RoomCall Global)) (call : RoomCall Global) (made : Result (List ℕ) AllocError) → asks ≡ Some call
    → (due : List ℕ) × Asks before room id call due after × IfOk made (λ json. json ≡ due)
    → (due : List ℕ) × AsksIfAny before room id asks due after × IfOk made (λ json. json ≡ due)
asked_for before after room id asks call made some (due, answers, is) =
    (due, subst (λ c. AsksIfAny before room id c due after) (sym some) answers, is)

module _ (before after : Known) (room id : ℕ) (body : Body) (made : Result (List ℕ) AllocError) where
  abbrev pub Watched : Type 0
  Watched = (due : List ℕ) × RepliesToWatcher before room id body due after × IfOk made (λ json. json ≡ due)

  -- a watcher's message that does not ask the room
  pub unwatched : (answer : Answer) → ((due : List ℕ) → AnswersAlone before id answer due after → RepliesToWatcher before room id body due after)
      → after ≡ before → IfOk made (λ json. json ≡ answer_text id answer) → Watched
  unwatched answer replies same is = (answer_text id answer, replies (answer_text id answer) (refl, same), is)

-- ---- before a hello

abbrev Due : Caller → Known → Known → ℕ → Body → Type 0
Due caller before after id body = (due : Sent) × (next : State) × BeginsBy caller before due next after id body

abbrev Begun : Caller → Known → Known → ℕ → Body → Result Next AllocError → Type 0
Begun caller before after id body made = MatchResult made (λ n. BeginsBy caller before (only n.texts) n.state after id body) (λ _. Due caller before after id body)

-- the outcome of a hello, if the room was asked for its rows
greets_due : (caller : Caller) (before after : Known) (id : ℕ) (speaker : Speaker) (room : ℕ) (reply : RoomReply Global) → AnswersCall before room calls.Rows reply after → (due : Sent) × (next : State) × Greets caller before due next after id speaker (Some room)
greets_due caller before after id speaker room reply asked = by asked.here.turn.1
  where
    by : ((reply, (after.at room).seen) ≡ room_answer (before.at room).opening.base (before.at room).opening.limit asked.here.journal calls.Rows) ⊎ ((reply ≡ wanting calls.Rows) × ((after.at room).seen ≡ asked.here.journal))
        → (due : Sent) × (next : State) × Greets caller before due next after id speaker (Some room)
    by (inl is) =
        let seen : (after.at room).seen ≡ asked.here.journal = ap (λ (p : RoomReply Global × List (Entry Global)). p.1) is in
        let legal = subst (λ (j : List (Entry Global)). IsJournalOf (before.at room).opening j) (sym seen) asked.here.legal in (
          only (compact_text (map_tree id (mapof (before.at room).opening.base (after.at room).seen) (length (after.at room).seen)) ∷ []),
          Open room speaker (length (after.at room).seen),
          (reply, asked, inl (legal, refl, refl)),
        )
    by (inr wants) = (only (answer_text id answers.Memory ∷ []), BeforeHello caller, (reply, asked, inr (wants.0, (refl, refl))))

-- a hello, as what the caller's greeting says of it
greeting : (caller : Caller) (before after : Known) (id : ℕ) (body : Body) (name : List ℕ) (author : Author) (whom : Result Speaker Barred) (place : Option ℕ) (sent : Sent) (state : State) → body ≡ Hello name author → greeted caller author ≡ whom → before.place name ≡ place
    → GreetsAs caller before sent state after id whom place → BeginsBy caller before sent state after id body
greeting caller before after id body name author whom place sent state hello greets_whom there greets =
    subst (λ b. BeginsBy caller before sent state after id b) (sym hello)
    (subst (λ w. GreetsAs caller before sent state after id w (before.place name)) (sym greets_whom)
    (subst (λ p. GreetsAs caller before sent state after id whom p) (sym there) greets))

-- a hello to a room that is there
pub welcomed : (caller : Caller) (before after : Known) (id : ℕ) (body : Body) (name : List ℕ) (author : Author) (speaker : Speaker) (room : ℕ) (made : Result Next AllocError) → body ≡ Hello name author → greeted caller author ≡ Ok speaker → before.place name ≡ Some room
    → IfOk made (λ n. Greets caller before (only n.texts) n.state after id speaker (Some room)) → OnErr made ((reply : RoomReply Global) × AnswersCall before room calls.Rows reply after) → Begun caller before after id body made
welcomed caller before after id body name author speaker room (Ok n) hello greets_whom there ok err =
    greeting caller before after id body name author (Ok speaker) (Some room) (only n.texts) n.state hello greets_whom there ok
welcomed caller before after id body name author speaker room (Err e) hello greets_whom there ok err =
    let greets = greets_due caller before after id speaker room err.0 err.1 in
    (greets.0, greets.1, greeting caller before after id body name author (Ok speaker) (Some room) greets.0 greets.1 hello greets_whom there greets.2)

-- a message that is refused
refused : (caller : Caller) (before : Known) (id : ℕ) (body : Body) (answer : Answer) (made : Result Next AllocError) → ((sent : Sent) (state : State) → Refuses caller sent state (answer_text id answer) → BeginsBy caller before sent state before id body)
    → IfOk made (λ n. Refuses caller (only n.texts) n.state (answer_text id answer)) → Begun caller before before id body made
refused caller before id body answer (Ok n) begins is = begins (only n.texts) n.state is
refused caller before id body answer (Err e) begins is = (only (answer_text id answer ∷ []), BeforeHello caller, begins (only (answer_text id answer ∷ [])) (BeforeHello caller) (refl, refl))

-- a hello to a room that is not there
pub not_welcomed : (caller : Caller) (before : Known) (id : ℕ) (body : Body) (name : List ℕ) (author : Author) (speaker : Speaker) (made : Result Next AllocError) → body ≡ Hello name author → greeted caller author ≡ Ok speaker → before.place name ≡ None
    → IfOk made (λ n. Refuses caller (only n.texts) n.state (answer_text id answers.NoRoom)) → Begun caller before before id body made
not_welcomed caller before id body name author speaker made hello greets_whom none is =
    refused caller before id body answers.NoRoom made (λ sent state refuses. greeting caller before before id body name author (Ok speaker) None sent state hello greets_whom none (refuses, refl)) is

-- a hello of a caller who may not speak under its name
pub not_let_in : (caller : Caller) (before : Known) (id : ℕ) (body : Body) (name : List ℕ) (author : Author) (barred : Barred) (made : Result Next AllocError) → body ≡ Hello name author → greeted caller author ≡ Err barred
    → IfOk made (λ n. Refuses caller (only n.texts) n.state (barred_text id barred)) → Begun caller before before id body made
not_let_in caller before id body name author barred (Ok n) hello greets_whom is =
    greeting caller before before id body name author (Err barred) (before.place name) (only n.texts) n.state hello greets_whom refl (is, refl)
not_let_in caller before id body name author barred (Err e) hello greets_whom is =
    let sent = only (barred_text id barred ∷ []) in
    (sent, BeforeHello caller, greeting caller before before id body name author (Err barred) (before.place name) sent (BeforeHello caller) hello greets_whom refl ((refl, refl), refl))

-- a message that is not a hello
pub not_begun : (caller : Caller) (before : Known) (id : ℕ) (body : Body) (made : Result Next AllocError)
    → ((request : Request Global) × (body ≡ Change request)) ⊎ (((name : Name) × (body ≡ Get name)) ⊎ ((body ≡ Map) ⊎ (body ≡ Undos)))
    → IfOk made (λ n. Refuses caller (only n.texts) n.state (answer_text id answers.NoHello)) → Begun caller before before id body made
not_begun caller before id body made (inl (request, is)) refuses =
    refused caller before id body answers.NoHello made (λ sent state refuses. subst (λ b. BeginsBy caller before sent state before id b) (sym is) (refuses, refl)) refuses
not_begun caller before id body made (inr (inl (name, is))) refuses =
    refused caller before id body answers.NoHello made (λ sent state refuses. subst (λ b. BeginsBy caller before sent state before id b) (sym is) (refuses, refl)) refuses
not_begun caller before id body made (inr (inr (inl is))) refuses =
    refused caller before id body answers.NoHello made (λ sent state refuses. subst (λ b. BeginsBy caller before sent state before id b) (sym is) (refuses, refl)) refuses
not_begun caller before id body made (inr (inr (inr is))) refuses =
    refused caller before id body answers.NoHello made (λ sent state refuses. subst (λ b. BeginsBy caller before sent state before id b) (sym is) (refuses, refl)) refuses
