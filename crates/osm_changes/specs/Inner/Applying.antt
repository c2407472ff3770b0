-- Writing rows to a map, one by one.
use Rattle.std.specs.Prelude.{◌≡◌, ◌&&◌, Bool, true, false, List, All, map, is_some, is_none}
use Rattle.osm_refs.specs.Prelude.{row_at, Rows}
use Rattle.osm_elements.specs.declared.name.Name.{Name}
use Rattle.osm_changes.specs.declared.change.Change.{Change}
use Rattle.osm_changes.specs.declared.changed_row.ChangedRow.{ChangedRow}
use Rattle.osm_changes.specs.declared.row_after.RowAfter.{RowAfter}
use Rattle.osm_changes.specs.Changes.{changed, changed_names, with_row}

module _ {A : Type 0} where
  -- a name with its row in a map, if any
  abbrev pub row_in : Rows A → Name → RowAfter A
  row_in m x = record { name = x; element = row_at m x }

  -- the changed names, each with its row in the map after the changes
  abbrev pub rows_after : Rows A → List (Change A) → List (RowAfter A)
  rows_after m cs = map (row_in (changed m cs)) (changed_names cs)

  -- a changed row as it is after the changes
  abbrev pub after_of : ChangedRow A → RowAfter A
  after_of r = record { name = r.name; element = r.after }

  -- the row is there only after the changes
  abbrev pub begins : ChangedRow A → Bool
  begins r = is_none r.before && is_some r.after

  -- the rows before the changes are those of the map
  abbrev pub AreBefore : Rows A → List (ChangedRow A) → Type 0
  AreBefore m rows = All (λ (r : ChangedRow A). r.before ≡ row_at m r.name) rows

  abbrev pub with_entered : Rows A → RowAfter A → Rows A
  with_entered m r = with_row m r.name r.element

  -- the row is there, and the map does not have its name
  abbrev pub is_new : Rows A → RowAfter A → Bool
  is_new m r = is_none (row_at m r.name) && is_some r.element

  abbrev pub AreNew : Rows A → List (RowAfter A) → Type 0
  AreNew m rs = All (λ (r : RowAfter A). is_new m r ≡ true) rs

  abbrev pub NoneIsNew : Rows A → List (RowAfter A) → Type 0
  NoneIsNew m rs = All (λ (r : RowAfter A). is_new m r ≡ false) rs
