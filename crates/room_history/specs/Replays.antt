-- The map of a journal, from the base by each entry's changes, and the replay of a list of actions. (The rules of a
-- room are this project's.)
use Rattle.std.specs.Prelude.{◌++◌, ℕ, List, [], ◌∷◌, Option, Some, None, is_none, if◌then◌else◌, fold, filter_map, option_and_then}
use Rattle.edit_groups.specs.Prelude.{Rows, after, changes, refusal, footprint, inverse}
use Rattle.osm_changes.specs.Changes.{changed}
use Rattle.room_interface.specs.declared.edit.Edit.{Edit as Action}
use Rattle.room_history.specs.declared.entry.Entry.{Entry}
use Rattle.room_history.specs.declared.entry.EntryKind.{EntryKind}
use Rattle.room_history.specs.declared.entry.EntryKind.TheVariants.{Do, Undo, Redo}
use Rattle.edit_footprint.specs.Touches.{Touch}
use Rattle.osm_changes.specs.declared.change.Change.{Change}
use Rattle.room_history.specs.Journals.{numbered, standing}

-- the record of an entry: its action, if it did or redid one, its changes, and its action's footprint
pub record Recorded (A : Type 0) : Type 0 where
  pub action : Option (Action A)
  pub changes : List (Change A)
  pub footprint : List Touch

-- a map, and the record of each entry that led to it
pub record Past (A : Type 0) : Type 0 where
  pub map : Rows A
  pub entries : List (Recorded A)

module _ {A : Type 0} where
  -- the record of an action on a map
  abbrev pub recorded_of : Rows A → Action A → Recorded A
  recorded_of m a = record { action = Some a; changes = changes m a; footprint = footprint m a }

  -- the record of an undo of an entry
  abbrev pub taken_back : Option (Recorded A) → Recorded A
  taken_back None = record { action = None; changes = []; footprint = [] }
  taken_back (Some r) = record { action = None; changes = inverse r.changes; footprint = [] }

  -- the recorded action of an entry
  abbrev pub action_at : Past A → ℕ → Option (Action A)
  action_at p s = option_and_then (λ (r : Recorded A). r.action) (numbered p.entries s)

  -- the record of a redo of an action on the current map
  abbrev pub done_again : Rows A → Option (Action A) → Recorded A
  done_again m None = record { action = None; changes = []; footprint = [] }
  done_again m (Some a) = recorded_of m a

  -- the record of the next entry: an undo takes back the changes of the entry that it names, and a redo does the action
  -- of the entry that it names on the current map
  abbrev pub recorded_next : Past A → EntryKind A → Recorded A
  recorded_next p (Do a) = recorded_of p.map a
  recorded_next p (Undo s) = taken_back (numbered p.entries s)
  recorded_next p (Redo t) = done_again p.map (action_at p t)

  abbrev pub past_after : Past A → EntryKind A → Past A
  past_after p k = let r = recorded_next p k in record { map = changed p.map r.changes; entries = p.entries ++ r ∷ [] }

  -- the map of a journal on a base, and the records of its entries
  abbrev pub past : Rows A → List (Entry A) → Past A
  past base j = fold (λ p (e : Entry A). past_after p e.kind) (record { map = base; entries = [] }) j

  -- the map that a journal leads to
  abbrev pub mapof : Rows A → List (Entry A) → Rows A
  mapof base j = (past base j).map

  -- the map after the actions in order; no value if one of them is refused
  abbrev pub replay : Rows A → List (Action A) → Option (Rows A)
  replay m [] = Some m
  replay m (a ∷ rest) = if is_none (refusal m a) then replay (after m a) rest else None

  -- the recorded actions of the given entries, in order
  abbrev pub actions_of : Past A → List ℕ → List (Action A)
  actions_of p ss = filter_map (action_at p) ss

  -- the recorded actions of the active entries, in order
  abbrev pub standing_actions : Rows A → List (Entry A) → List (Action A)
  standing_actions base j = actions_of (past base j) (standing j)
