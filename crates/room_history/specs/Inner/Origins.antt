-- The origin of an entry is the entry that stores its action. A redo has the origin of the entry that it names, and any
-- other entry is its own origin.
use Rattle.std.specs.Prelude.{◌+◌, ◌++◌, ℕ, List, [], ◌∷◌, Option, Some, None, length, unwrap_or, fold}
use Rattle.room_interface.specs.declared.edit.Edit.{Edit as Action}
use Rattle.room_history.specs.declared.entry.Entry.{Entry}
use Rattle.room_history.specs.declared.entry.EntryKind.{EntryKind}
use Rattle.room_history.specs.declared.entry.EntryKind.TheVariants.{Do, Undo, Redo}
use Rattle.room_history.specs.Journals.{numbered}

module _ {A : Type 0} where
  -- the action that an entry of this kind stores
  abbrev pub own_action : EntryKind A → Option (Action A)
  own_action (Do a) = Some a
  own_action (Undo s) = None
  own_action (Redo t) = None

  abbrev pub done_by : Option (Entry A) → Option (Action A)
  done_by None = None
  done_by (Some e) = own_action e.kind

  -- the origin of the next entry, from the origins of the earlier entries
  abbrev pub origin_next : List ℕ → EntryKind A → ℕ
  origin_next os (Do a) = length os + 1
  origin_next os (Undo s) = length os + 1
  origin_next os (Redo t) = unwrap_or (numbered os t) (length os + 1)

  abbrev pub origins_after : List ℕ → EntryKind A → List ℕ
  origins_after os k = os ++ origin_next os k ∷ []

  -- the origin of each entry
  abbrev pub origins : List (Entry A) → List ℕ
  origins j = fold (λ os (e : Entry A). origins_after os e.kind) [] j
