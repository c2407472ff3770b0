-- Replacing rows of a map: first each absent name gets an empty relation, and then each row is replaced or removed,
-- which needs no memory.
use Rattle.std.specs.Prelude.{◌≡◌, true, List, [], None, filter}
use Rattle.room_history.specs.Prelude.{Rows, is_absent, is_among, is_present, put_row, row_at}
use Rattle.osm_elements.specs.declared.element.Element.TheVariants.{Relation}
use Rattle.osm_elements.specs.declared.name.Name.{Name}

module _ {A : Type 0} where
  -- the map with an empty relation under the name x
  abbrev pub with_empty : Rows A → Name → Rows A
  with_empty m x = put_row m x (Relation [] [])

  -- the names that are absent
  abbrev pub absent_names : Rows A → List Name → List Name
  absent_names m names = filter (is_absent m) names

  -- the map has none of the names
  abbrev pub AreAbsent : Rows A → List Name → Type 0
  AreAbsent m names = (x : Name) → is_among names x ≡ true → row_at m x ≡ None

  -- the map has all of the names
  abbrev pub ArePresent : Rows A → List Name → Type 0
  ArePresent m names = (x : Name) → is_among names x ≡ true → is_present m x ≡ true
