-- The theorem: what is true of every journal that calls lead to from a sound base.
use Rattle.std.specs.Prelude.{◌≡◌, ◌⊎◌, ◌↔◌, ◌+◌, ◌<◌, ◌≤◌, ◌++◌, ◌-◌, ℕ, true, false, List, [], ◌∷◌, Option, Some, None, length, map, reverse, take, nat_le}
use Rattle.edit_groups.specs.Prelude.{is_lt, name_cmp, is_same_author, Rows, users, half_at, is_sound, after, refusal, Shares}
use Rattle.osm_changes.specs.declared.cell.Cell.{Cell}
use Rattle.osm_elements.specs.declared.name.Name.{Name}
use Rattle.room_interface.specs.declared.author.Author.{Author}
use Rattle.room_interface.specs.declared.call.Call.{Call}
use Rattle.room_interface.specs.declared.call.Request.TheVariants.{Do, Undo, Redo}
use Rattle.room_history.specs.declared.entry.Entry.{Entry}
use Rattle.room_interface.specs.declared.reply.Reply.{Reply}
use Rattle.room_interface.specs.declared.reply.Reply.TheVariants.{Done, Undid, Redid, Conflict, Changed}
use Rattle.room_interface.specs.declared.edit.Edit.{Edit as Action}
use Rattle.room_history.specs.Blockers.{recorded_footprint}
use Rattle.room_history.specs.Journals.{numbered, standing, is_standing, is_by, is_work, others, redos}
use Rattle.room_history.specs.Replays.{Past, past, mapof, recorded_of, replay, actions_of, standing_actions}
use Rattle.room_history.specs.Answers.{answer, answers, spent}

module _ {A : Type 0} where
  -- the entry s is active
  abbrev pub Stands : List (Entry A) → ℕ → Type 0
  Stands j s = is_standing j s ≡ true

  -- the entry s is the author's own
  abbrev pub IsOwn : List (Entry A) → Author → ℕ → Type 0
  IsOwn j author s = is_by author (numbered j s) ≡ true

  -- the recorded footprints of both entries have touches of the name e that conflict
  abbrev pub Share : Rows A → List (Entry A) → ℕ → ℕ → Name → Type 0
  Share base j s t e = Shares (recorded_footprint (past base j) s) (recorded_footprint (past base j) t) e

  -- t is active, comes after s, and meets it at the name e
  abbrev pub Blocks : Rows A → List (Entry A) → ℕ → ℕ → Name → Type 0
  Blocks base j s t e = (s < t) × Stands j t × Share base j s t e

  -- the map of the journal is sound
  abbrev pub IsSound : Rows A → List (Entry A) → Type 0
  IsSound base j = is_sound (mapof base j) ≡ true

  -- a replay of the active entries' actions in order, from the base, gives the map
  abbrev pub IsReplayed : Rows A → List (Entry A) → Type 0
  IsReplayed base j = replay base (standing_actions base j) ≡ Some (mapof base j)

  -- each active entry has an action, so the replay skips none
  abbrev pub IsNoneDropped : Rows A → List (Entry A) → Type 0
  IsNoneDropped base j = length (standing_actions base j) ≡ length (standing j)

  -- the actions of the entries lead from the map m to the map end, and each is accepted with the changes and the
  -- footprint that its entry recorded
  abbrev pub AreAccepted : Past A → Rows A → List ℕ → Rows A → Type 0
  AreAccepted p m [] end = m ≡ end
  AreAccepted p m (s ∷ ss) end =
      (a : Action A) × (numbered p.entries s ≡ Some (recorded_of m a)) × (refusal m a ≡ None)
      × AreAccepted p (after m a) ss end

  -- the replay of the active entries accepts each action as it was recorded
  abbrev pub IsAcceptedAsRecorded : Rows A → List (Entry A) → Type 0
  IsAcceptedAsRecorded base j = AreAccepted (past base j) base (standing j) (mapof base j)

  -- after an accepted undo of s, the other entries are active, and the map is the replay of their actions
  abbrev pub IsRestLeft : Rows A → ℕ → List (Entry A) → Type 0
  IsRestLeft base limit j = (c : Call A) (seq s : ℕ)
      → let step = answer base limit j c in
      step.0 ≡ Undid seq s
      → (standing step.1 ≡ others j s)
      × (replay base (actions_of (past base j) (others j s)) ≡ Some (mapof base step.1))

  -- suppose that an author undoes an accepted action in the room's next accepted call, with its number or without;
  -- there may be refused calls in between; then the map, the users of every name and the active entries are those from
  -- before the action
  abbrev pub IsUndoneAtOnce : Rows A → ℕ → List (Entry A) → Type 0
  IsUndoneAtOnce base limit j = (accepted : Call A) (e : Entry A) (between : List (Call A)) (c : Call A)
      → let k = j ++ e ∷ [] in
      (answer base limit j accepted).1 ≡ k
      → is_work e.kind ≡ true
      → (answers base limit k between).1 ≡ k
      → c.author ≡ e.author
      → (c.request ≡ Undo None) ⊎ (c.request ≡ Undo (Some (length j + 1)))
      → spent k c.author c.id ≡ None
      → nat_le limit (length k) ≡ false
      → let step = answer base limit (answers base limit k between).1 c in
      (step.0 ≡ Undid (length j + 2) (length j + 1))
      × (mapof base step.1 ≡ mapof base j)
      × ((x : Name) → users (mapof base step.1) x ≡ users (mapof base j) x)
      × (standing step.1 ≡ standing j)

  -- suppose that an author undoes an active entry of its own, under an unspent id and in a journal that is not full;
  -- the undo is accepted exactly if no entry blocks it by any name; otherwise the refusal has the first entry that
  -- blocks it, and the least name that both share
  abbrev pub IsUndoneExactlyWhere : Rows A → ℕ → List (Entry A) → Type 0
  IsUndoneExactlyWhere base limit j = (author : Author) (id s : ℕ)
      → spent j author id ≡ None
      → nat_le limit (length j) ≡ false
      → IsOwn j author s
      → Stands j s
      → let reply = (answer base limit j (record { author = author; id = id; request = Undo (Some s) })).0 in
      ((reply ≡ Undid (length j + 1) s) ↔ ((t : ℕ) (e : Name) → Blocks base j s t e → ⊥))
      × ((t : ℕ) (e : Name) → Blocks base j s t e
      → (b : ℕ) × (x : Name) × (reply ≡ Conflict b x) × Blocks base j s b x
      × ((u : ℕ) (y : Name) → Blocks base j s u y → b ≤ u)
      × ((y : Name) → Share base j s b y → is_lt (name_cmp y x) ≡ false))

  -- an undo without a number gets the same answer as the undo of the author's last active entry
  abbrev pub IsUndoOfLast : Rows A → ℕ → List (Entry A) → Type 0
  IsUndoOfLast base limit j = (author : Author) (id s : ℕ)
      → IsOwn j author s
      → Stands j s
      → ((t : ℕ) → IsOwn j author t → Stands j t → t ≤ s)
      → answer base limit j (record { author = author; id = id; request = Undo None })
      ≡ answer base limit j (record { author = author; id = id; request = Undo (Some s) })

  -- an accepted action empties its author's redo stack, an undo pushes the entry that it undid, and a redo pops the top
  -- and redoes it; no call changes another author's stack
  abbrev pub IsRedoStacked : Rows A → ℕ → List (Entry A) → Type 0
  IsRedoStacked base limit j = (c : Call A) (seq s : ℕ)
      → let step = answer base limit j c in
      (step.0 ≡ Done seq → redos step.1 c.author ≡ [])
      × (step.0 ≡ Undid seq s → redos step.1 c.author ≡ redos j c.author ++ s ∷ [])
      × (step.0 ≡ Redid seq s → redos j c.author ≡ redos step.1 c.author ++ s ∷ [])
      × ((other : Author) → is_same_author other c.author ≡ false → redos step.1 other ≡ redos j other)

  -- suppose that an author redoes its accepted undo in the room's next accepted call; there may be refused calls in
  -- between; then the map and the users of every name are those from before the undo, the redone action is the last
  -- active entry under a new number, and each author can redo what it could before the undo
  abbrev pub IsRedoneAtOnce : Rows A → ℕ → List (Entry A) → Type 0
  IsRedoneAtOnce base limit j = (undo : Call A) (s : ℕ) (e : Entry A) (between : List (Call A)) (c : Call A)
      → let k = j ++ e ∷ [] in
      answer base limit j undo ≡ (Undid (length j + 1) s, k)
      → (answers base limit k between).1 ≡ k
      → c.author ≡ undo.author
      → c.request ≡ Redo
      → spent k c.author c.id ≡ None
      → nat_le limit (length k) ≡ false
      → let step = answer base limit (answers base limit k between).1 c in
      (step.0 ≡ Redid (length j + 2) s)
      × (mapof base step.1 ≡ mapof base j)
      × ((x : Name) → users (mapof base step.1) x ≡ users (mapof base j) x)
      × (standing step.1 ≡ others j s ++ (length j + 2) ∷ [])
      × ((author : Author) → redos step.1 author ≡ redos j author)

  -- an author's undo under an id, with a number or without
  abbrev pub undo_by : Author → ℕ × Option ℕ → Call A
  undo_by author u = record { author = author; id = u.0; request = Undo u.1 }

  -- an author's redo under an id
  abbrev pub redo_by : Author → ℕ → Call A
  redo_by author id = record { author = author; id = id; request = Redo }

  -- the replies to accepted undos of these entries in order, numbered from n on
  abbrev pub undid_from : ℕ → List ℕ → List (Reply A)
  undid_from n [] = []
  undid_from n (s ∷ ss) = Undid n s ∷ undid_from (n + 1) ss

  -- the replies to accepted redos of these entries in order, numbered from n on
  abbrev pub redid_from : ℕ → List ℕ → List (Reply A)
  redid_from n [] = []
  redid_from n (t ∷ ts) = Redid n t ∷ redid_from (n + 1) ts

  -- when each call is made, its id is unspent and the journal is not full
  abbrev pub AreFresh : Rows A → ℕ → List (Entry A) → List (Call A) → Type 0
  AreFresh base limit j [] = Unit {0}
  AreFresh base limit j (c ∷ cs) =
      (spent j c.author c.id ≡ None) × (nat_le limit (length j) ≡ false)
      × AreFresh base limit (answer base limit j c).1 cs

  -- suppose that all of an author's undos in order are accepted, and that as many redos follow, each under an unspent
  -- id and in a journal that is not full; then the redos are accepted, the last undone entry first, and the map, the
  -- users of every name and all redo stacks are those from before the undos
  abbrev pub IsRedoneInTurn : Rows A → ℕ → List (Entry A) → Type 0
  IsRedoneInTurn base limit j = (author : Author) (asked : List (ℕ × Option ℕ)) (undone ids : List ℕ)
      → let undoing = answers base limit j (map (undo_by author) asked) in
      let redoing = answers base limit undoing.1 (map (redo_by author) ids) in
      undoing.0 ≡ undid_from (length j + 1) undone
      → length ids ≡ length undone
      → AreFresh base limit undoing.1 (map (redo_by author) ids)
      → (redoing.0 ≡ redid_from (length undoing.1 + 1) (reverse undone))
      × (mapof base redoing.1 ≡ mapof base j)
      × ((x : Name) → users (mapof base redoing.1) x ≡ users (mapof base j) x)
      × ((other : Author) → redos redoing.1 other ≡ redos j other)

  -- the maps differ in a cell
  abbrev pub Differ : Rows A → Rows A → Cell → Type 0
  Differ m n x = half_at m x ≡ half_at n x → ⊥

  -- the map after the first n entries
  abbrev pub map_at : Rows A → List (Entry A) → ℕ → Rows A
  map_at base j n = mapof base (take n j)

  -- the entry s changed the cell
  abbrev pub Changes : Rows A → List (Entry A) → ℕ → Cell → Type 0
  Changes base j s x = Differ (map_at base j s) (map_at base j (s - 1)) x

  -- s comes after the first n entries, is another author's, and changed a cell of the name e that the edit would change
  abbrev pub Overwritten : Rows A → List (Entry A) → Author → ℕ → Action A → ℕ → Name → Type 0
  Overwritten base j author n a s e =
      (n < s) × (s ≤ length j) × (IsOwn j author s → ⊥)
      × (x : Cell) × (x.name ≡ e) × Changes base j s x × Differ (after (mapof base j) a) (mapof base j) x

  -- no lost update: suppose that an author had seen the first n entries, and that its edit is accepted; each later entry
  -- that changed what the edit changes is the author's own; so if the author has no later entries, all that the edit
  -- changes was, right before it, what it was after the first n entries
  abbrev pub IsNothingLost : Rows A → ℕ → List (Entry A) → Type 0
  IsNothingLost base limit j = (c : Call A) (a : Action A) (n seq : ℕ)
      → c.request ≡ Do a (Some n)
      → let step = answer base limit j c in
      step.0 ≡ Done seq
      → (n ≤ length j)
      × ((s : ℕ) (x : Cell) → n < s → s ≤ length j → Changes base j s x → Differ (mapof base step.1) (mapof base j) x
      → IsOwn j c.author s)
      × (((s : ℕ) → n < s → IsOwn j c.author s → ⊥) → (x : Cell) → Differ (mapof base step.1) (mapof base j) x
      → half_at (mapof base j) x ≡ half_at (map_at base j n) x)

  -- suppose that the map accepts an author's edit, under an unspent id and in a journal that is not full, and that the
  -- author had seen the first n entries; the edit is accepted exactly if it overwrites nothing; otherwise the refusal has
  -- the last entry that would be overwritten, and the least name at which it would
  abbrev pub IsRefusedExactlyWhere : Rows A → ℕ → List (Entry A) → Type 0
  IsRefusedExactlyWhere base limit j = (author : Author) (id n : ℕ) (a : Action A)
      → spent j author id ≡ None
      → nat_le limit (length j) ≡ false
      → n ≤ length j
      → refusal (mapof base j) a ≡ None
      → let reply = (answer base limit j (record { author = author; id = id; request = Do a (Some n) })).0 in
      ((reply ≡ Done (length j + 1)) ↔ ((s : ℕ) (e : Name) → Overwritten base j author n a s e → ⊥))
      × ((s : ℕ) (e : Name) → Overwritten base j author n a s e
      → (b : ℕ) × (x : Name) × (reply ≡ Changed b x) × Overwritten base j author n a b x
      × ((t : ℕ) (y : Name) → Overwritten base j author n a t y → t ≤ b)
      × ((y : Name) → Overwritten base j author n a b y → is_lt (name_cmp y x) ≡ false))

  -- an accepted edit has the reply, and makes the entry, that it would without saying what its author had seen
  abbrev pub IsSameUnseen : Rows A → ℕ → List (Entry A) → Type 0
  IsSameUnseen base limit j = (author : Author) (id n seq : ℕ) (a : Action A)
      → let seen = answer base limit j (record { author = author; id = id; request = Do a (Some n) }) in
      seen.0 ≡ Done seq
      → seen ≡ answer base limit j (record { author = author; id = id; request = Do a None })

  pub record Holds (base : Rows A) (limit : ℕ) (j : List (Entry A)) : Type 0 where
    pub sound : IsSound base j
    pub replayed : IsReplayed base j
    pub none_dropped : IsNoneDropped base j
    pub accepted_as_recorded : IsAcceptedAsRecorded base j
    pub undone_at_once : IsUndoneAtOnce base limit j
    pub undone_exactly_where : IsUndoneExactlyWhere base limit j
    pub undo_of_last : IsUndoOfLast base limit j
    pub rest_left : IsRestLeft base limit j
    pub redo_stacked : IsRedoStacked base limit j
    pub redone_at_once : IsRedoneAtOnce base limit j
    pub redone_in_turn : IsRedoneInTurn base limit j
    pub nothing_lost : IsNothingLost base limit j
    pub refused_exactly_where : IsRefusedExactlyWhere base limit j
    pub same_unseen : IsSameUnseen base limit j
