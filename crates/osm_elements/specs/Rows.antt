-- A map of elements as its rows in name order. (OpenStreetMap wiki, "Elements": each kind has its own ids.)
use Rattle.std.specs.Prelude.{T, Option, List}
use Rattle.std.specs.Map.{lookup, remove_entry}
use Rattle.std.specs.BTreeMap.{insert_entry, is_at}
use Rattle.std.specs.FinMap.Entries.{is_sorted}
use Rattle.osm_elements.specs.declared.name.Name.{Name}
use Rattle.osm_elements.specs.declared.element.Element.{Element}
use Rattle.osm_elements.specs.NameOrder.{name_cmp}

-- the element at a name, if any
abbrev pub row_at : {A : Type 0} → List (Name × Element A) → Name → Option (Element A)
row_at rows name = lookup (is_at (name_cmp name)) rows

-- the rows after an element is put at a name
abbrev pub put_row : {A : Type 0} → List (Name × Element A) → Name → Element A → List (Name × Element A)
put_row rows name element = insert_entry name_cmp rows name element

-- the rows after a name is taken out
abbrev pub without_row : {A : Type 0} → List (Name × Element A) → Name → List (Name × Element A)
without_row rows name = remove_entry (is_at (name_cmp name)) rows

-- the names rise
abbrev pub AreInOrder : {A : Type 0} → List (Name × Element A) → Type 0
AreInOrder rows = T (is_sorted name_cmp rows)
