-- The entries that events make.
use Rattle.std.proofs.Common.{◌≡◌, ◌≢◌, ◌⊎◌, ◌++◌, ℕ, List, [], ◌∷◌, Option, Some, None, Result, Ok, Err, IfOk, OnErr, refl, ◌∙◌, sym, ap, subst, inl, inr, append-nil, arith}
use Rattle.std.proofs.lemmas.Bool.{cases_eq}
use Rattle.std.proofs.lemmas.List.{append_cancel_left}
use Rattle.room_session.specs.Prelude.{AllocError, Global, Author, answer, answer_by, call_refusal, meant, IsTurn, RoomCall, RoomReply, Call, Entry, EntryKind, Reply, Opening, Bad, Body, Hello, Change, Get, Map, Undos, Incoming, GivesMessage, spells, Next, Sent, State, BeforeHello, Open, Closed, Barred, Caller, Speaker, asked, greeted, AsksForNews, AsksIfAny, Begins, BeginsBy, CatchesUp, FindsNoNews, Greets, GreetsAs, HearsText, Makes, MakesBy, MakesChange, Replies, RepliesTo, RepliesToWatcher, Known, RoomKnown, AnswersCall, TellsLength, MakesNone, MakesOne}
use Rattle.room_interface.specs.declared.ask.RoomCall.TheVariants as calls
use Rattle.room_session.specs.declared.caller.Speaker.TheVariants as speakers

-- ---- what one turn adds

-- an entry of the author's under the id
abbrev IsOf : Author → ℕ → Entry Global → Type 0
IsOf author id entry = (entry.author ≡ author) × (entry.id ≡ id)

-- a call leaves the journal unchanged, or adds one entry of its author under its id
answer_adds : (j : List (Entry Global)) (c : Call Global) (refused : Option (Reply Global)) (kind : Option (EntryKind Global))
    → ((answer_by j c refused kind).1 ≡ j) ⊎ ((entry : Entry Global) × IsOf c.author c.id entry × ((answer_by j c refused kind).1 ≡ j ++ entry ∷ []))
answer_adds j c (Some reply) kind = inl refl
answer_adds j c None None = inl refl
answer_adds j c None (Some kind) = inr (record { author = c.author; id = c.id; kind = kind }, (refl, refl), refl)

abbrev journal_of : RoomReply Global × List (Entry Global) → List (Entry Global)
journal_of step = step.1

-- a journal that is unchanged has gained nothing
left_adds_none : (j added : List (Entry Global)) → j ++ added ≡ j → added ≡ []
left_adds_none j added same = append_cancel_left j added [] (same ∙ sym (append-nil j))

-- a query leaves the journal unchanged
query_leaves : (opening : Opening Global) (j : List (Entry Global)) (call : RoomCall Global) (reply : RoomReply Global) (k : List (Entry Global)) → ((c : Call Global) → call ≢ calls.Take c) → IsTurn opening j call reply k → k ≡ j
query_leaves opening j (calls.Take c) reply k query turn = absurd (query c refl)
query_leaves opening j (calls.Get name) reply k query (made, inl is) = ap journal_of is
query_leaves opening j (calls.Get name) reply k query (made, inr wants) = wants.1
query_leaves opening j calls.Rows reply k query (made, inl is) = ap journal_of is
query_leaves opening j calls.Rows reply k query (made, inr wants) = wants.1
query_leaves opening j (calls.Undos author) reply k query (made, inl is) = ap journal_of is
query_leaves opening j (calls.Undos author) reply k query (made, inr wants) = wants.1
query_leaves opening j (calls.News from) reply k query (made, inl is) = ap journal_of is
query_leaves opening j (calls.News from) reply k query (made, inr wants) = wants.1

-- a call leaves the journal unchanged, or adds one entry
call_adds : (opening : Opening Global) (j : List (Entry Global)) (c : Call Global) (reply : RoomReply Global) (k : List (Entry Global)) → IsTurn opening j (calls.Take c) reply k
    → (k ≡ j) ⊎ ((entry : Entry Global) × IsOf c.author c.id entry × (k ≡ j ++ entry ∷ []))
call_adds opening j c reply k (made, inr wants) = inl wants.1
call_adds opening j c reply k (made, inl is) = by (answer_adds j c (call_refusal opening.base opening.limit j c) (meant j c.author c.request))
  where
    by : ((answer opening.base opening.limit j c).1 ≡ j) ⊎ ((entry : Entry Global) × IsOf c.author c.id entry × ((answer opening.base opening.limit j c).1 ≡ j ++ entry ∷ []))
        → (k ≡ j) ⊎ ((entry : Entry Global) × IsOf c.author c.id entry × (k ≡ j ++ entry ∷ []))
    by (inl same) = inl (ap journal_of is ∙ same)
    by (inr one) = inr (one.0, one.1, ap journal_of is ∙ one.2)

-- ---- what steps add to the entries that are made

none_then : (before middle after : Known) → MakesNone before middle → MakesNone middle after → MakesNone before after
none_then before middle after one two = λ room. two room ∙ one room

nothing_made : (before after : Known) → after ≡ before → MakesNone before after
nothing_made before after same = λ room. ap (λ (k : Known). (k.at room).mine) same

others_same : (before after : Known) (room : ℕ) → (after.at room).mine ≡ (before.at room).mine → ((other : ℕ) → other ≢ room → after.at other ≡ before.at other) → MakesNone before after
others_same before after room here others = λ other. one other (cases_eq other room)
  where
    one : (other : ℕ) → (other ≡ room) ⊎ (other ≢ room) → (after.at other).mine ≡ (before.at other).mine
    one other (inl same) = subst (λ r. (after.at r).mine ≡ (before.at r).mine) (sym same) here
    one other (inr apart) = ap (λ (k : RoomKnown). k.mine) (others other apart)

looks_make_none : (before : Known) (room count : ℕ) (after : Known) → TellsLength before room count after → MakesNone before after
looks_make_none before room count after looks = others_same before after room looks.here.mine looks.leaves.others

query_makes_none : (before : Known) (room : ℕ) (call : RoomCall Global) (reply : RoomReply Global) (after : Known) → ((c : Call Global) → call ≢ calls.Take c) → AnswersCall before room call reply after → MakesNone before after
query_makes_none before room call reply after query answers =
    let here = answers.here in
    let stays = query_leaves (before.at room).opening here.journal call reply (after.at room).seen query here.turn in
    let none = left_adds_none here.journal here.added (sym here.grows ∙ stays) in
    others_same before after room (here.mine ∙ ap (λ added. (before.at room).mine ++ added) none ∙ append-nil (before.at room).mine) answers.leaves.others

call_makes : (before : Known) (room : ℕ) (c : Call Global) (reply : RoomReply Global) (after : Known) → AnswersCall before room (calls.Take c) reply after → MakesNone before after ⊎ MakesOne before room c.author c.id after
call_makes before room c reply after answers = by (call_adds (before.at room).opening answers.here.journal c reply (after.at room).seen answers.here.turn)
  where
    by : ((after.at room).seen ≡ answers.here.journal) ⊎ ((entry : Entry Global) × IsOf c.author c.id entry × ((after.at room).seen ≡ answers.here.journal ++ entry ∷ [])) → MakesNone before after ⊎ MakesOne before room c.author c.id after
    by (inl stays) =
        let none = left_adds_none answers.here.journal answers.here.added (sym answers.here.grows ∙ stays) in
        inl (others_same before after room (answers.here.mine ∙ ap (λ added. (before.at room).mine ++ added) none ∙ append-nil (before.at room).mine) answers.leaves.others)
    by (inr one) =
        let is = append_cancel_left answers.here.journal answers.here.added (one.0 ∷ []) (sym answers.here.grows ∙ one.2) in
        inr (one.0, one.1.0, one.1.1, answers.here.mine ∙ ap (λ added. (before.at room).mine ++ added) is, λ other apart. ap (λ (k : RoomKnown). k.mine) (answers.leaves.others other apart))

-- ---- what events add

news_make_none : (before : Known) (room told : ℕ) (after : Known) → AsksForNews before room told after → MakesNone before after
news_make_none before room told after asks =
    let looked = asks.2 in
    none_then before looked after (looks_make_none before room asks.0 looked asks.3)
    (query_makes_none looked room (calls.News told) asks.4.0 after (λ c same. grind (arith, same)) asks.4.1)

caught_up_makes_none : (before : Known) (room told : ℕ) (after : Known) → FindsNoNews before room told after ⊎ AsksForNews before room told after → MakesNone before after
caught_up_makes_none before room told after (inl finds) = looks_make_none before room finds.0 after finds.2
caught_up_makes_none before room told after (inr asks) = news_make_none before room told after asks

-- if nothing is made afterwards, what a message makes is unchanged
makes_change_then : (before middle after : Known) (room : ℕ) (speaker : Speaker) (id : ℕ) → MakesChange before room speaker id middle → MakesNone middle after → MakesChange before room speaker id after
makes_change_then before middle after room (speakers.Author author) id (inl none) later = inl (none_then before middle after none later)
makes_change_then before middle after room (speakers.Author author) id (inr one) later =
    inr (one.0, one.1, one.2, later room ∙ one.3, λ other apart. later other ∙ one.4 other apart)
makes_change_then before middle after room speakers.Watcher id none later = none_then before middle after none later

makes_by_then : (before middle after : Known) (room : ℕ) (speaker : Speaker) (id : ℕ) (body : Body) → MakesBy before room speaker id body middle → MakesNone middle after → MakesBy before room speaker id body after
makes_by_then before middle after room speaker id (Change request) change later = makes_change_then before middle after room speaker id change later
makes_by_then before middle after room speaker id (Hello to name) none later = none_then before middle after none later
makes_by_then before middle after room speaker id (Get name) none later = none_then before middle after none later
makes_by_then before middle after room speaker id Map none later = none_then before middle after none later
makes_by_then before middle after room speaker id Undos none later = none_then before middle after none later

author_makes : (before : Known) (room : ℕ) (author : Author) (id : ℕ) (body : Body) (text : List ℕ) (after : Known) → AsksIfAny before room id (asked author id body) text after → MakesBy before room (speakers.Author author) id body after
author_makes before room author id (Change request) text after (reply, answers, is) = call_makes before room (record { author = author; id = id; request = request }) reply after answers
author_makes before room author id (Hello to name) text after (is, same) = nothing_made before after same
author_makes before room author id (Get name) text after (reply, answers, is) = query_makes_none before room (calls.Get name) reply after (λ c same. grind (arith, same)) answers
author_makes before room author id Map text after (reply, answers, is) = query_makes_none before room calls.Rows reply after (λ c same. grind (arith, same)) answers
author_makes before room author id Undos text after (reply, answers, is) = query_makes_none before room (calls.Undos author) reply after (λ c same. grind (arith, same)) answers

watcher_makes : (before : Known) (room id : ℕ) (body : Body) (text : List ℕ) (after : Known) → RepliesToWatcher before room id body text after → MakesBy before room speakers.Watcher id body after
watcher_makes before room id (Change request) text after (is, same) = nothing_made before after same
watcher_makes before room id (Hello to name) text after (is, same) = nothing_made before after same
watcher_makes before room id (Get name) text after (reply, answers, is) = query_makes_none before room (calls.Get name) reply after (λ c same. grind (arith, same)) answers
watcher_makes before room id Map text after (reply, answers, is) = query_makes_none before room calls.Rows reply after (λ c same. grind (arith, same)) answers
watcher_makes before room id Undos text after (is, same) = nothing_made before after same

reply_makes : (before : Known) (room : ℕ) (speaker : Speaker) (id : ℕ) (body : Body) (text : List ℕ) (after : Known) → RepliesTo before room speaker id body text after → MakesBy before room speaker id body after
reply_makes before room (speakers.Author author) id body text after replies = author_makes before room author id body text after replies
reply_makes before room speakers.Watcher id body text after replies = watcher_makes before room id body text after replies

text_makes : (before middle after : Known) (room : ℕ) (speaker : Speaker) (told : ℕ) (said : Result Incoming Bad) (text : List ℕ) → Replies before room speaker said text middle → MakesNone middle after → Makes before (Open room speaker told) said after
text_makes before middle after room speaker told (Ok message) text replies later =
    makes_by_then before middle after room speaker message.id message.body (reply_makes before room speaker message.id message.body text middle replies) later
text_makes before middle after room speaker told (Err bad) text replies later = none_then before middle after (nothing_made before middle replies.1) later

greeting_makes_none : (caller : Caller) (before : Known) (sent : Sent) (state : State) (after : Known) (id : ℕ) (speaker : Speaker) (place : Option ℕ) → Greets caller before sent state after id speaker place → MakesNone before after
greeting_makes_none caller before sent state after id speaker None refuses = nothing_made before after refuses.1
greeting_makes_none caller before sent state after id speaker (Some room) (reply, answers, goes) = query_makes_none before room calls.Rows reply after (λ c same. grind (arith, same)) answers

hello_makes_none : (caller : Caller) (before : Known) (sent : Sent) (state : State) (after : Known) (id : ℕ) (speaker : Result Speaker Barred) (place : Option ℕ) → GreetsAs caller before sent state after id speaker place → MakesNone before after
hello_makes_none caller before sent state after id (Ok speaker) place greets = greeting_makes_none caller before sent state after id speaker place greets
hello_makes_none caller before sent state after id (Err barred) place refuses = nothing_made before after refuses.1

begin_makes_none : (caller : Caller) (before : Known) (sent : Sent) (state : State) (after : Known) (id : ℕ) (body : Body) → BeginsBy caller before sent state after id body → MakesNone before after
begin_makes_none caller before sent state after id (Hello room author) begins = hello_makes_none caller before sent state after id (greeted caller author) (before.place room) begins
begin_makes_none caller before sent state after id (Change request) begins = nothing_made before after begins.1
begin_makes_none caller before sent state after id (Get name) begins = nothing_made before after begins.1
begin_makes_none caller before sent state after id Map begins = nothing_made before after begins.1
begin_makes_none caller before sent state after id Undos begins = nothing_made before after begins.1

first_makes_none : (caller : Caller) (before : Known) (sent : Sent) (state : State) (after : Known) (said : Result Incoming Bad) → Begins caller before sent state after said → MakesNone before after
first_makes_none caller before sent state after (Ok message) begins = begin_makes_none caller before sent state after message.id message.body begins
first_makes_none caller before sent state after (Err bad) begins = nothing_made before after begins.1

abbrev MakesText : Known → State → List ℕ → Known → Type 0
MakesText before old text after = (said : Result Incoming Bad) × GivesMessage said (spells text) × Makes before old said after

-- a text makes at most its own change's entry
pub hearing_makes : (before : Known) (sent : Sent) (state : State) (after : Known) (old : State) (text : List ℕ) → HearsText before sent state after old text → MakesText before old text after
hearing_makes before sent state after (BeforeHello caller) text (said, gives, inl begins) = (said, gives, first_makes_none caller before sent state after said begins)
hearing_makes before sent state after (BeforeHello caller) text (said, gives, inr (up, (due, next, begins))) = (said, gives, first_makes_none caller before due next after said begins)
hearing_makes before sent state after (Open room speaker told) text (said, gives, inl (reply, between, replies, catches)) =
    (said, gives, text_makes before between after room speaker told said reply replies (caught_up_makes_none between room told after catches.0))
hearing_makes before sent state after (Open room speaker told) text (said, gives, inr (up, (reply, between, replies, inl same))) =
    (said, gives, text_makes before between after room speaker told said reply replies (nothing_made between after same))
hearing_makes before sent state after (Open room speaker told) text (said, gives, inr (up, (reply, between, replies, inr asks))) =
    (said, gives, text_makes before between after room speaker told said reply replies (news_make_none between room told after asks))
hearing_makes before sent state after Closed text hears = absurd hears

gives_itself : (said : Result Incoming Bad) → GivesMessage said said
gives_itself (Ok message) = refl
gives_itself (Err bad) = inr refl

-- a closed session makes no entry
pub ended_makes : (before after : Known) (old : State) (text : List ℕ) → old ≡ Closed → after ≡ before → MakesText before old text after
ended_makes before after old text closed same =
    (spells text, gives_itself (spells text), subst (λ (s : State). Makes before s (spells text) after) (sym closed) (nothing_made before after same))

-- if nothing came, no entry is made, whether or not the news could be sent
pub wait_makes_none : (before after : Known) (sent : Next → Sent) (state : Next → State) (room : ℕ) (speaker : Speaker) (told : ℕ) (made : Result Next AllocError)
    → IfOk made (λ n. CatchesUp before (sent n) (state n) after room speaker told []) → OnErr made (AsksForNews before room told after) → MakesNone before after
wait_makes_none before after sent state room speaker told (Ok n) ok err = caught_up_makes_none before room told after ok.0
wait_makes_none before after sent state room speaker told (Err e) ok err = news_make_none before room told after err

-- the same, for an equal state of knowledge
pub makes_none_to : (before after made_after : Known) → after ≡ made_after → MakesNone before made_after → MakesNone before after
makes_none_to before after made_after same none = subst (λ (k : Known). MakesNone before k) (sym same) none

pub nothing_is_made : (known : Known) → MakesNone known known
nothing_is_made known = λ room. refl
