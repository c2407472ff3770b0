-- What a session makes is by an author as whom its caller may make changes.
use Rattle.std.proofs.Common.{◌∙◌, sym, ap, subst, inl, inr, refl, append_assoc, append-nil, arith}
use Rattle.std.specs.Prelude.{◌≡◌, ◌≢◌, ◌⊎◌, ◌++◌, ◌∷◌, [], ℕ, List, All, Option, Some, None, Result, Ok, Err, Bool, true, false, cond, length}
use Rattle.std.proofs.lemmas.Bool.{cases_eq}
use Rattle.std.proofs.lemmas.List.Elements.{All-append, All-nil, All-push}
use Rattle.room_wire.specs.Prelude.{Global}
use Rattle.room_history.specs.declared.entry.Entry.{Entry}
use Rattle.room_interface.specs.SameAuthors.{is_same_author}
use Rattle.room_interface.specs.declared.author.Author.{Author}
use Rattle.room_wire.specs.declared.bad.Bad.{Bad}
use Rattle.room_wire.specs.declared.incoming.Body.{Body}
use Rattle.room_wire.specs.declared.incoming.Body.TheVariants.{Change, Get, Hello, Map, Undos}
use Rattle.room_wire.specs.declared.incoming.Incoming.{Incoming}
use Rattle.room_session.specs.Callers.{IsOf, MakesAs, MayBe, MaySpeakAs, greeted}
use Rattle.room_session.specs.Events.{Begins, BeginsBy, CatchesUp, Greets, GreetsAs, HearsText, Makes, MakesBy, MakesChange, WaitsOn}
use Rattle.room_session.specs.Rooms.{Known, MakesNone, MakesOne}
use Rattle.room_session.specs.declared.caller.Barred.{Barred}
use Rattle.room_session.specs.declared.caller.Barred.TheVariants.{WrongName}
use Rattle.room_session.specs.declared.caller.Caller.{Caller}
use Rattle.room_session.specs.declared.caller.Caller.TheVariants.{Anyone, Only, Nobody}
use Rattle.room_session.specs.declared.caller.Speaker.{Speaker}
use Rattle.room_session.specs.declared.sent.Sent.{Sent}
use Rattle.room_session.specs.declared.session.State.{State}
use Rattle.room_session.specs.declared.session.State.TheVariants.{BeforeHello, Open, Closed}
use Rattle.room_session.specs.declared.caller.Caller.TheVariants as callers
use Rattle.room_session.specs.declared.caller.Speaker.TheVariants as speakers

-- ---- who speaks

speaker_in : Speaker → Result Speaker Barred → Speaker
speaker_in other (Ok s) = s
speaker_in other (Err b) = other

own_speaks : (own : Author) (same : Bool) (speaker : Speaker) → cond same (Ok (speakers.Author own)) (Err (WrongName own)) ≡ Ok speaker → MaySpeakAs (Only own) speaker
unfolding speaker_in
own_speaks own true speaker is = let same : speakers.Author own ≡ speaker = ap (speaker_in speaker) is in subst (λ s. MaySpeakAs (Only own) s) same refl
own_speaks own false speaker is = absurd (cc)

watcher_speaks : (speaker : Speaker) → ◌≡◌ {A = Result Speaker Barred} (Ok speakers.Watcher) (Ok speaker) → MaySpeakAs callers.Watcher speaker
unfolding speaker_in
watcher_speaks speaker is = let same : speakers.Watcher ≡ speaker = ap (speaker_in speaker) is in subst (λ s. MaySpeakAs callers.Watcher s) same tt

anyone_speaks : (speaker : Speaker) → MaySpeakAs Anyone speaker
anyone_speaks (speakers.Author author) = tt
anyone_speaks speakers.Watcher = tt

-- who is greeted may speak so
pub greeted_speaks : (caller : Caller) (author : Author) (speaker : Speaker) → greeted caller author ≡ Ok speaker → MaySpeakAs caller speaker
greeted_speaks Anyone author speaker is = anyone_speaks speaker
greeted_speaks (Only own) author speaker is = own_speaks own (is_same_author own author) speaker is
greeted_speaks callers.Watcher author speaker is = watcher_speaks speaker is
greeted_speaks Nobody author speaker is = absurd (cc)

-- a session of the caller stays one
to : (caller : Caller) (state made : State) → state ≡ made → IsOf caller made → IsOf caller state
to caller state made is of = subst (λ s. IsOf caller s) (sym is) of

greets_stays : (caller : Caller) (before : Known) (sent : Sent) (state : State) (after : Known) (id : ℕ) (speaker : Speaker) (place : Option ℕ) → MaySpeakAs caller speaker → Greets caller before sent state after id speaker place → IsOf caller state
greets_stays caller before sent state after id speaker None may refuses = to caller state (BeforeHello caller) refuses.0.1 refl
greets_stays caller before sent state after id speaker (Some room) may (reply, asked, inl welcomes) = to caller state (Open room speaker (length (after.at room).seen)) welcomes.2 may
greets_stays caller before sent state after id speaker (Some room) may (reply, asked, inr wants) = to caller state (BeforeHello caller) wants.1.1 refl

hello_stays : (caller : Caller) (before : Known) (sent : Sent) (state : State) (after : Known) (id : ℕ) (author : Author) (whom : Result Speaker Barred) (place : Option ℕ) → greeted caller author ≡ whom → GreetsAs caller before sent state after id whom place → IsOf caller state
hello_stays caller before sent state after id author (Ok speaker) place is greets = greets_stays caller before sent state after id speaker place (greeted_speaks caller author speaker is) greets
hello_stays caller before sent state after id author (Err barred) place is refuses = to caller state (BeforeHello caller) refuses.0.1 refl

begin_stays : (caller : Caller) (before : Known) (sent : Sent) (state : State) (after : Known) (id : ℕ) (body : Body) → BeginsBy caller before sent state after id body → IsOf caller state
begin_stays caller before sent state after id (Hello room author) begins = hello_stays caller before sent state after id author (greeted caller author) (before.place room) refl begins
begin_stays caller before sent state after id (Change request) begins = to caller state (BeforeHello caller) begins.0.1 refl
begin_stays caller before sent state after id (Get name) begins = to caller state (BeforeHello caller) begins.0.1 refl
begin_stays caller before sent state after id Map begins = to caller state (BeforeHello caller) begins.0.1 refl
begin_stays caller before sent state after id Undos begins = to caller state (BeforeHello caller) begins.0.1 refl

first_stays : (caller : Caller) (before : Known) (sent : Sent) (state : State) (after : Known) (said : Result Incoming Bad) → Begins caller before sent state after said → IsOf caller state
first_stays caller before sent state after (Ok message) begins = begin_stays caller before sent state after message.id message.body begins
first_stays caller before sent state after (Err bad) begins = to caller state (BeforeHello caller) begins.0.1 refl

catching_stays : (caller : Caller) (before : Known) (sent : Sent) (state : State) (after : Known) (room : ℕ) (speaker : Speaker) (told : ℕ) (texts : List (List ℕ)) → MaySpeakAs caller speaker → CatchesUp before sent state after room speaker told texts → IsOf caller state
catching_stays caller before sent state after room speaker told texts may catches = to caller state (Open room speaker (length (after.at room).seen)) catches.3 may

pub text_stays : (caller : Caller) (before : Known) (sent : Sent) (state : State) (after : Known) (old : State) (text : List ℕ) → IsOf caller old → HearsText before sent state after old text → IsOf caller state
text_stays caller before sent state after (BeforeHello own) text of (said, gives, inl begins) = subst (λ (c : Caller). IsOf c state) of (first_stays own before sent state after said begins)
text_stays caller before sent state after (BeforeHello own) text of (said, gives, inr (up, ends)) = to caller state Closed up.1 tt
text_stays caller before sent state after (Open room speaker told) text of (said, gives, inl (reply, between, replies, catches)) = catching_stays caller between sent state after room speaker told (reply ∷ []) of catches
text_stays caller before sent state after (Open room speaker told) text of (said, gives, inr (up, breaks)) = to caller state Closed up.1 tt
text_stays caller before sent state after Closed text of hears = absurd hears

pub quiet_stays : (caller : Caller) (before : Known) (sent : Sent) (state : State) (after : Known) (old : State) → IsOf caller old → WaitsOn before sent state after old → IsOf caller state
quiet_stays caller before sent state after (BeforeHello own) of waits = to caller state (BeforeHello own) waits.1 of
quiet_stays caller before sent state after (Open room speaker told) of (inl catches) = catching_stays caller before sent state after room speaker told [] of catches
quiet_stays caller before sent state after (Open room speaker told) of (inr (up, asks)) = to caller state Closed up.1 tt
quiet_stays caller before sent state after Closed of waits = absurd waits

-- ---- what is made

pub none_made_as : (caller : Caller) (before after : Known) → MakesNone before after → MakesAs caller before after
none_made_as caller before after none = λ room. ([], none room ∙ sym (append-nil (before.at room).mine), All-nil (λ (e : Entry Global). MayBe caller e.author))

pub both_made_as : (caller : Caller) (before between after : Known) → MakesAs caller before between → MakesAs caller between after → MakesAs caller before after
both_made_as caller before between after one two = λ room.
    let first = one room in
    let second = two room in (
      first.0 ++ second.0,
      second.1 ∙ ap (λ (l : List (Entry Global)). l ++ second.0) first.1 ∙ append_assoc (before.at room).mine first.0 second.0,
      All-append (λ (e : Entry Global). MayBe caller e.author) first.0 second.0 first.2 second.2,
    )

abbrev IsBy : Caller → Entry Global → Type 0
IsBy caller e = MayBe caller e.author

one_made_as : (caller : Caller) (before : Known) (room : ℕ) (author : Author) (id : ℕ) (after : Known) → MayBe caller author → MakesOne before room author id after → MakesAs caller before after
one_made_as caller before room author id after may (entry, is, under, here, others) = λ other. by other (cases_eq other room)
  where
    by : (other : ℕ) → (other ≡ room) ⊎ (other ≢ room) → (made : List (Entry Global)) × ((after.at other).mine ≡ (before.at other).mine ++ made) × All (IsBy caller) made
    by other (inl same) = subst (λ r. (made : List (Entry Global)) × ((after.at r).mine ≡ (before.at r).mine ++ made) × All (IsBy caller) made) (sym same)
        (entry ∷ [], here, All-push (IsBy caller) [] entry (All-nil (IsBy caller)) (subst (λ a. MayBe caller a) (sym is) may))
    by other (inr apart) = ([], others other apart ∙ sym (append-nil (before.at other).mine), All-nil (IsBy caller))

change_made_as : (caller : Caller) (before : Known) (room : ℕ) (speaker : Speaker) (id : ℕ) (after : Known) → MaySpeakAs caller speaker → MakesChange before room speaker id after → MakesAs caller before after
change_made_as caller before room (speakers.Author author) id after may (inl none) = none_made_as caller before after none
change_made_as caller before room (speakers.Author author) id after may (inr one) = one_made_as caller before room author id after may one
change_made_as caller before room speakers.Watcher id after may none = none_made_as caller before after none

message_made_as : (caller : Caller) (before : Known) (room : ℕ) (speaker : Speaker) (id : ℕ) (body : Body) (after : Known) → MaySpeakAs caller speaker → MakesBy before room speaker id body after → MakesAs caller before after
message_made_as caller before room speaker id (Change request) after may makes = change_made_as caller before room speaker id after may makes
message_made_as caller before room speaker id (Hello to name) after may none = none_made_as caller before after none
message_made_as caller before room speaker id (Get name) after may none = none_made_as caller before after none
message_made_as caller before room speaker id Map after may none = none_made_as caller before after none
message_made_as caller before room speaker id Undos after may none = none_made_as caller before after none

pub text_made_as : (caller : Caller) (before : Known) (old : State) (said : Result Incoming Bad) (after : Known) → IsOf caller old → Makes before old said after → MakesAs caller before after
text_made_as caller before (Open room speaker told) (Ok message) after of makes = message_made_as caller before room speaker message.id message.body after of makes
text_made_as caller before (Open room speaker told) (Err bad) after of none = none_made_as caller before after none
text_made_as caller before (BeforeHello own) said after of none = none_made_as caller before after none
text_made_as caller before Closed said after of none = none_made_as caller before after none
