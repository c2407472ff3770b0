-- The state that a room holds in addition to its journal.
use Rattle.std.specs.Prelude.{◌≡◌, ◌<◌, ℕ, true, List, Some, None, length}
use Rattle.edit_groups.specs.Prelude.{is_sound, StoreState, Rows, Held}
use Rattle.room_interface.specs.MadeCalls.{is_made_edit as is_made_action}
use Rattle.room_interface.specs.declared.author.Author.{Author}
use Rattle.room_stacks.specs.declared.deed.Deed.{Deed}
use Rattle.room_history.specs.declared.entry.Entry.{Entry}
use Rattle.room_history.specs.declared.entry.EntryKind.{EntryKind}
use Rattle.room_history.specs.declared.entry.EntryKind.TheVariants.{Do, Undo, Redo}
use Rattle.room_history.specs.Applied.{applied}
use Rattle.room_history.specs.declared.kept.Effect.{Effect}
use Rattle.room_history.specs.Inner.Telling.{kept}
use Rattle.room_history.specs.Replays.{past, mapof}
use Rattle.room_history.specs.Answers.{spent}
use Rattle.room_history.specs.Journals.{last, redos}
use Rattle.room_history.specs.LegalJournals.{IsJournal}
use Rattle.edit_footprint.specs.Touches.{Touch}
use Rattle.room_history.specs.declared.changers.LastChange.{LastChange}
use Rattle.room_history.specs.Inner.Changers.{AreChangers}
use Rattle.room_history.specs.Inner.Deeds.{deeds}
use Rattle.room_history.specs.Inner.Holders.{AreHolders}
use Rattle.room_history.specs.Inner.Origins.{origins}

module _ {A : Type 0} where
  -- the base is sound, and calls lead to the journal from it; the store, the kept effects, the origins, the holders,
  -- the last changes and the deeds are those of the journal
  pub record IsRoom (store : StoreState A) (recorded : List (Effect A)) (firsts : List ℕ) (holders : Held)
      (changers : List (Touch × LastChange)) (done : List Deed) (base : Rows A) (limit : ℕ) (j : List (Entry A)) : Type 0 where
    pub base_sound : is_sound base ≡ true
    pub journal : IsJournal base limit j
    pub rows_are : store.rows ≡ mapof base j
    pub count_is : store.applied ≡ applied base j
    pub recorded_are : recorded ≡ kept base j
    pub firsts_are : firsts ≡ origins j
    pub holders_are : AreHolders (past base j) j holders
    pub changers_are : AreChangers (past base j) j changers
    pub deeds_are : done ≡ deeds j

  -- the id is unspent, and the journal is not full
  abbrev pub MayAppend : ℕ → List (Entry A) → Author → ℕ → Type 0
  MayAppend limit j author id = (spent j author id ≡ None) × (length j < limit)

  -- the entry does an action with made values, or redoes the author's next entry to redo; it is not an undo
  abbrev pub MayWork : List (Entry A) → Author → EntryKind A → Type 0
  MayWork j author (Do a) = is_made_action a ≡ true
  MayWork j author (Undo s) = ⊥
  MayWork j author (Redo t) = last (redos j author) ≡ Some t
