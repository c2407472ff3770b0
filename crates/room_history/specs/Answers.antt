-- The answer to a call: the reply, and the journal after it. An accepted call appends one entry, and a refused call
-- none. (The rules of a room are this project's.)
use Rattle.std.specs.Prelude.{◌+◌, ◌++◌, ◌&&◌, ℕ, Bool, false, not, List, [], ◌∷◌, Option, Some, None, is_none, length, nat_eq, nat_le, nat_lt, position, option_map}
use Rattle.edit_groups.specs.Prelude.{then_some, Rows, changed_cells, refusal, first_that_holds, is_same_author}
use Rattle.room_interface.specs.declared.author.Author.{Author}
use Rattle.room_interface.specs.declared.call.Call.{Call}
use Rattle.room_interface.specs.declared.call.Request.{Request}
use Rattle.room_history.specs.declared.entry.Entry.{Entry}
use Rattle.room_history.specs.declared.entry.EntryKind.{EntryKind}
use Rattle.room_history.specs.declared.entry.EntryKind.TheVariants.{Do, Undo, Redo}
use Rattle.room_interface.specs.declared.reply.Reply.{Reply}
use Rattle.room_interface.specs.declared.reply.Reply.TheVariants.{Done, Undid, Redid, Repeat, Full, NothingToUndo, NothingToRedo, NoSuch, NotYours, NotStanding, Conflict, Refused, Changed}
use Rattle.osm_elements.specs.declared.name.Name.{Name}
use Rattle.room_interface.specs.declared.edit.Edit.{Edit as Action}
use Rattle.room_history.specs.Blockers.{blocker}
use Rattle.room_history.specs.Guards.{overwritten_since}
use Rattle.room_history.specs.Journals.{is_by, is_standing, numbered, last, undos, redos}
use Rattle.room_history.specs.Replays.{Past, past, action_at, recorded_next}
use Rattle.room_interface.specs.declared.call.Request.TheVariants as requests

module _ {A : Type 0} where
  -- the entry is the author's and spent the id
  abbrev pub spends : Author → ℕ → Entry A → Bool
  spends author id e = nat_eq id e.id && is_same_author author e.author

  -- the number of the author's entry that spent the id
  abbrev pub spent : List (Entry A) → Author → ℕ → Option ℕ
  spent j author id = option_map (λ i. i + 1) (position (spends author id) j)

  -- the refusal with a blocker and the shared name
  abbrev pub conflict : ℕ × Name → Reply A
  conflict b = Conflict b.0 b.1

  -- the entry that an undo asks for: the given one, or the author's last active entry
  abbrev pub asked : List (Entry A) → Author → Option ℕ → Option ℕ
  asked j author None = last (undos j author)
  asked j author (Some s) = Some s

  -- the kind of entry that a request would append
  abbrev pub meant : List (Entry A) → Author → Request A → Option (EntryKind A)
  meant j author (requests.Do a since) = Some (Do a)
  meant j author (requests.Undo s) = option_map Undo (asked j author s)
  meant j author requests.Redo = option_map Redo (last (redos j author))

  -- the refusal of a request for which there is no entry to undo or redo
  abbrev pub nothing_meant : Request A → Reply A
  nothing_meant (requests.Do a since) = NothingToUndo
  nothing_meant (requests.Undo s) = NothingToUndo
  nothing_meant requests.Redo = NothingToRedo

  -- the refusal of an author's undo of s: the first check that holds
  abbrev pub undo_refusal : Past A → List (Entry A) → Author → ℕ → Option (Reply A)
  undo_refusal p j author s = first_that_holds (
      then_some (is_none (numbered j s)) NoSuch
      ∷ then_some (not (is_by author (numbered j s))) NotYours
      ∷ then_some (not (is_standing j s)) NotStanding
      ∷ option_map conflict (blocker p j s)
      ∷ [])

  -- the refusal of a redo; `None` as the action means that there is nothing to redo
  abbrev pub redo_refusal : Rows A → Option (Action A) → Option (Reply A)
  redo_refusal m None = Some NothingToRedo
  redo_refusal m (Some a) = option_map Refused (refusal m a)

  -- the refusal of an entry of this kind
  abbrev pub kind_refusal : Past A → List (Entry A) → Author → EntryKind A → Option (Reply A)
  kind_refusal p j author (Do a) = option_map Refused (refusal p.map a)
  kind_refusal p j author (Undo s) = undo_refusal p j author s
  kind_refusal p j author (Redo t) = redo_refusal p.map (action_at p t)

  -- how many entries the author of an edit had seen, if it says so
  abbrev pub seen : Request A → Option ℕ
  seen (requests.Do a since) = since
  seen (requests.Undo s) = None
  seen requests.Redo = None

  -- it says to have seen more entries than there are
  abbrev pub is_ahead : List (Entry A) → Option ℕ → Bool
  is_ahead j None = false
  is_ahead j (Some n) = nat_lt (length j) n

  -- the refusal with the last entry that would be overwritten, and the least name
  abbrev pub changed_since : ℕ × Name → Reply A
  changed_since b = Changed b.0 b.1

  -- the refusal of an entry of this kind, whose author may say how many entries it had seen
  abbrev pub guarded_refusal : Past A → List (Entry A) → Author → EntryKind A → Option ℕ → Option (Reply A)
  guarded_refusal p j author k None = kind_refusal p j author k
  guarded_refusal p j author k since = first_that_holds (
      then_some (is_ahead j since) NoSuch
      ∷ kind_refusal p j author k
      ∷ option_map changed_since (overwritten_since author since (changed_cells (recorded_next p k).changes) j p.entries)
      ∷ [])

  abbrev pub meaning_refusal : Past A → List (Entry A) → Call A → Option (EntryKind A) → Option (Reply A)
  meaning_refusal p j c None = Some (nothing_meant c.request)
  meaning_refusal p j c (Some k) = guarded_refusal p j c.author k (seen c.request)

  -- the first refusal of a call, or `None` if the call is accepted
  abbrev pub call_refusal : Rows A → ℕ → List (Entry A) → Call A → Option (Reply A)
  call_refusal base limit j c = first_that_holds (
      option_map Repeat (spent j c.author c.id)
      ∷ then_some (nat_le limit (length j)) Full
      ∷ meaning_refusal (past base j) j c (meant j c.author c.request)
      ∷ [])

  -- the reply to an accepted call whose entry has the number seq
  abbrev pub accepted : ℕ → EntryKind A → Reply A
  accepted seq (Do a) = Done seq
  accepted seq (Undo s) = Undid seq s
  accepted seq (Redo t) = Redid seq t

  -- the journal with one more entry
  abbrev pub with_entry : List (Entry A) → Author → ℕ → EntryKind A → List (Entry A)
  with_entry j author id k = j ++ record { author = author; id = id; kind = k } ∷ []

  abbrev pub answer_by : List (Entry A) → Call A → Option (Reply A) → Option (EntryKind A) → Reply A × List (Entry A)
  answer_by j c (Some refused) k = (refused, j)
  answer_by j c None None = (nothing_meant c.request, j)
  answer_by j c None (Some k) = (accepted (length j + 1) k, with_entry j c.author c.id k)

  abbrev pub answer : Rows A → ℕ → List (Entry A) → Call A → Reply A × List (Entry A)
  answer base limit j c = answer_by j c (call_refusal base limit j c) (meant j c.author c.request)

  -- the replies to calls in order, and the journal after them
  abbrev pub answers : Rows A → ℕ → List (Entry A) → List (Call A) → List (Reply A) × List (Entry A)
  answers base limit j [] = ([], j)
  answers base limit j (c ∷ cs) =
      let step = answer base limit j c in
      let rest = answers base limit step.1 cs in
      (step.0 ∷ rest.0, rest.1)
