-- The references of changed rows, entered in the users of a map.
use Rattle.std.specs.Prelude.{◌≡◌, ◌++◌, T, List, map}
use Rattle.osm_refs.specs.Prelude.{are_rising, Rows, name_set, AreInOrder, row_at, reference_change, row_references, names_but, Note, Table, references_at, referring, table_of}
use Rattle.osm_changes.specs.declared.changed_row.ChangedRow.{ChangedRow}
use Rattle.osm_changes.specs.declared.row_after.RowAfter.{RowAfter}
use Rattle.osm_refs.specs.declared.change.ReferenceChange.{ReferenceChange}

module _ {A : Type 0} where
  -- the references that begin and cease with a changed row
  abbrev pub row_reference_change : ChangedRow A → ReferenceChange A
  row_reference_change r = reference_change r.name (name_set (row_references r.before)) (name_set (row_references r.after))

  -- the references of a name that begin and cease with its row after changes
  abbrev pub reference_change_of : Rows A → RowAfter A → ReferenceChange A
  reference_change_of m r = reference_change r.name (name_set (row_references (row_at m r.name))) (name_set (row_references r.element))

  -- the users of a map, and the reference changes of rows of it whose names rise
  abbrev pub AreChangesOf : Table → List (ReferenceChange A) → Type 0
  AreChangesOf users changes =
      (m : Rows A) × (rs : List (RowAfter A)) × AreInOrder m × T (are_rising (map (λ (r : RowAfter A). r.name) rs))
      × (users ≡ table_of m) × (changes ≡ map (reference_change_of m) rs)

  -- the table after a name gains the references that begin
  abbrev pub gained : Table → ReferenceChange A → Table
  gained t c = referring t c.name (name_set (references_at t c.name ++ c.begun))

  -- the table after a name loses them again
  abbrev pub given_back : Table → ReferenceChange A → Table
  given_back t c = referring t c.name (names_but (references_at t c.name) c.begun)

  -- the table after a name loses the references that cease
  abbrev pub lost : Table → ReferenceChange A → Table
  lost t c = referring t c.name (names_but (references_at t c.name) c.ceased)

  -- each name with its references after the changes
  abbrev pub notes_of : List (RowAfter A) → List Note
  notes_of rs = map (λ (r : RowAfter A). (r.name, name_set (row_references r.element))) rs
