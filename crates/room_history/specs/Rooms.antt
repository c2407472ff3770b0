-- Contracts model a room as its base map, its limit and its journal.
use Rattle.std.specs.Prelude.{ℕ, List}
use Rattle.osm_elements.specs.Maps.{Rows}
use Rattle.room_history.specs.declared.entry.Entry.{Entry}

-- the map that the room began with, the greatest number of entries, and the entries
pub record RoomState (A : Type 0) : Type 0 where
  pub base : Rows A
  pub limit : ℕ
  pub journal : List (Entry A)
