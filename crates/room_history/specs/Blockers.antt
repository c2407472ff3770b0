-- The blocker of an undo: the first later active entry whose footprint meets the entry's. (The rules of a room are
-- this project's.)
use Rattle.std.specs.Prelude.{ℕ, List, [], Option, Some, None, map}
use Rattle.osm_elements.specs.declared.name.Name.{Name}
use Rattle.edit_footprint.specs.Touches.{Touch}
use Rattle.room_history.specs.Holdings.{Holdings, first_after}
use Rattle.room_history.specs.declared.entry.Entry.{Entry}
use Rattle.room_history.specs.Journals.{numbered, standing}
use Rattle.room_history.specs.Replays.{Recorded, Past}

module _ {A : Type 0} where
  abbrev pub footprint_of_recorded : Option (Recorded A) → List Touch
  footprint_of_recorded None = []
  footprint_of_recorded (Some r) = r.footprint

  -- the recorded footprint of an entry; no touches if there is no such entry
  abbrev pub recorded_footprint : Past A → ℕ → List Touch
  recorded_footprint p s = footprint_of_recorded (numbered p.entries s)

  -- the active entries in rising order, each with its recorded footprint
  abbrev pub held : Past A → List (Entry A) → Holdings
  held p j = map (λ s. (s, recorded_footprint p s)) (standing j)

  -- the first later active entry that meets s, and the least name at which it does
  abbrev pub blocker : Past A → List (Entry A) → ℕ → Option (ℕ × Name)
  blocker p j s = first_after (held p j) s
