-- A session that catches up with its room.
use Rattle.std.proofs.Common.{◌≡◌, ◌≤◌, ◌<◌, ◌++◌, ℕ, List, [], Ok, length, ◌∙◌, sym, ap, subst, inl, inr, append-nil, arith}
use Rattle.room_session.specs.Prelude.{Global, RoomReply, Entry, News, Opening, news, IsTurn, AsksForNews, answers_keep, keeps_both, looks_keep, not_shorter, news_texts, Known, IsJournalOf, AnswersCall, KeepsKnown, TellsLength}
use Rattle.room_session.specs.Inner.LastTold.{last_told}
use Rattle.room_session.specs.Inner.Telling.{Tells}
use Rattle.room_session.proofs.Told.{last_news, no_news, news_taken}
use Rattle.room_interface.specs.declared.ask.RoomCall.TheVariants as calls
use Rattle.room_interface.specs.declared.ask.RoomReply.TheVariants as replies

-- all entries count as sent
pub nothing_new : (before after : Known) (room told count : ℕ) (texts : List (List ℕ)) → told ≤ length (before.at room).seen → TellsLength before room count after → count ≤ told → Tells before room told texts texts told after
nothing_new before after room told count texts seen looks l =
    let opening = (before.at room).opening in
    let journal = (after.at room).seen in
    let long = not_shorter journal (before.at room).seen looks.here.begins in
    let whole = looks.here.whole in
    let end : told ≡ length journal = omega (arith, seen, long, l, whole) in
    let none : news opening.base journal told ≡ [] = no_news opening.base journal told (omega (arith, end)) in
    (inl (count, l, looks), looks.here.legal, sym (append-nil texts) ∙ ap (λ list. texts ++ news_texts list) (sym none), end)

-- the look found more entries, and the room was asked for the news
pub news_asked : (before middle after : Known) (room told count : ℕ) (reply : RoomReply Global) → TellsLength before room count middle → told < count → AnswersCall middle room (calls.News told) reply after → AsksForNews before room told after
news_asked before middle after room told count reply looks more answers = (count, more, middle, looks, (reply, answers))

-- both steps
pub news_keep : (before middle after : Known) (room count : ℕ) (told : ℕ) (reply : RoomReply Global) → TellsLength before room count middle → AnswersCall middle room (calls.News told) reply after → KeepsKnown before after
news_keep before middle after room count told reply looks answers =
    keeps_both before middle after (looks_keep before room count middle looks) (answers_keep middle room (calls.News told) reply after answers)

-- the news were received
pub news_told : (before middle after : Known) (room told count : ℕ) (list : List (News Global)) (texts all : List (List ℕ)) (reply : RoomReply Global) → reply ≡ replies.News (Ok list) → told ≤ length (before.at room).seen → TellsLength before room count middle → told < count
    → AnswersCall middle room (calls.News told) reply after → all ≡ texts ++ news_texts list → Tells before room told texts all (last_told told list) after
news_told before middle after room told count list texts all reply is seen looks more answers are =
    let opening = (before.at room).opening in
    let journal = (after.at room).seen in
    let here = answers.here in
    let same : (middle.at room).opening ≡ opening = looks.here.opening in
    let turn = subst (λ (r : RoomReply Global). IsTurn (middle.at room).opening here.journal (calls.News told) r journal) is here.turn in
    let taken = news_taken (middle.at room).opening here.journal journal told list turn in
    let long = not_shorter (middle.at room).seen (before.at room).seen looks.here.begins in
    let longer = not_shorter here.journal (middle.at room).seen here.begins in
    let length_is : length journal ≡ length here.journal = ap (λ (j : List (Entry Global)). length j) taken.1 in
    let news_are : list ≡ news opening.base journal told = taken.0 ∙ ap (λ (o : Opening Global). news o.base journal told) same in
    let legal : IsJournalOf (middle.at room).opening journal = subst (λ (j : List (Entry Global)). IsJournalOf (middle.at room).opening j) (sym taken.1) here.legal in (
      inr (news_asked before middle after room told count reply looks more answers),
      subst (λ (o : Opening Global). IsJournalOf o journal) same legal,
      are ∙ ap (λ ns. texts ++ news_texts ns) news_are,
      ap (λ ns. last_told told ns) news_are ∙ last_news opening.base journal told (omega (arith, seen, long, longer, length_is)),
    )
