-- The journal of a room after a turn.
use Rattle.std.proofs.Common.{◌≡◌, ◌⊎◌, ◌++◌, ℕ, true, List, [], ◌∷◌, refl, sym, ap, subst, inl, inr, append_assoc, append-nil}
use Rattle.room_history.specs.Prelude.{Rows, GainsAtMostOne, MayAllFollow, RoomCall, Take, Get, Undos, RoomReply, Call, Entry, Opening, answer, room_answer, IsAnswered, IsJournal, called, is_made_room_call, IsTurn}
use Rattle.room_interface.specs.declared.ask.RoomCall.TheVariants.{Rows as AllRows, News as NewsPast}
use Rattle.room_history.proofs.Outcomes.{Appended, Left, outcome}

module _ {A : Type 0} (base : Rows A) (limit : ℕ) (j : List (Entry A)) where
  -- the journal of a step
  abbrev journal_of : {X : Type 0} → X × List (Entry A) → List (Entry A)
  journal_of step = step.1

  -- an answer leaves the journal unchanged, or appends one entry
  gains-answer : (c : Call A) → GainsAtMostOne j (answer base limit j c).1
  gains-answer c = by (outcome base limit j c)
    where
      by : Appended base j c (answer base limit j c) ⊎ Left j (answer base limit j c) → GainsAtMostOne j (answer base limit j c).1
      by (inl a) = inr (record { author = c.author; id = c.id; kind = a.kind }, ap journal_of a.is)
      by (inr l) = inl l.same

  gains-room_answer : (call : RoomCall A) → GainsAtMostOne j (room_answer base limit j call).1
  gains-room_answer (Take c) = gains-answer c
  gains-room_answer (Get x) = inl refl
  gains-room_answer AllRows = inl refl
  gains-room_answer (Undos author) = inl refl
  gains-room_answer (NewsPast from) = inl refl

  -- after any call or query, the journal is unchanged or has one more entry
  pub gains : (call : RoomCall A) (reply : RoomReply A) (k : List (Entry A)) → IsAnswered base limit j call reply k → GainsAtMostOne j k
  gains call reply k (inl e) = subst (GainsAtMostOne j) (sym (ap journal_of e)) (gains-room_answer call)
  gains call reply k (inr e) = inl e.1

  leads-room_answer : (call : RoomCall A) → is_made_room_call call ≡ true → IsJournal base limit j → IsJournal base limit (room_answer base limit j call).1
  leads-room_answer (Take c) made before = called j c before made
  leads-room_answer (Get x) made before = before
  leads-room_answer AllRows made before = before
  leads-room_answer (Undos author) made before = before
  leads-room_answer (NewsPast from) made before = before

  -- an answer leads from a legal journal to a legal journal
  leads : (call : RoomCall A) (reply : RoomReply A) (k : List (Entry A)) → is_made_room_call call ≡ true → IsAnswered base limit j call reply k → IsJournal base limit j → IsJournal base limit k
  leads call reply k made (inl e) before = subst (IsJournal base limit) (sym (ap journal_of e)) (leads-room_answer call made before)
  leads call reply k made (inr e) before = subst (IsJournal base limit) (sym e.1) before

-- entries that can follow a legal journal in order lead to a legal journal
pub all_lead : {A : Type 0} (opening : Opening A) (j later : List (Entry A)) → IsJournal opening.base opening.limit j → MayAllFollow IsTurn opening j later → IsJournal opening.base opening.limit (j ++ later)
all_lead opening j [] before follow = subst (IsJournal opening.base opening.limit) (sym (append-nil j)) before
all_lead opening j (e ∷ later) before follow =
    let turn = follow.0 in
    let next = leads opening.base opening.limit j turn.0 turn.1 (j ++ e ∷ []) turn.2.0 turn.2.1 before in
    subst (IsJournal opening.base opening.limit) (append_assoc j (e ∷ []) later) (all_lead opening (j ++ e ∷ []) later next follow.1)
