-- Arrays of rows whose names rise (RFC 8259, section 5: arrays).
use Rattle.std.specs.Prelude.{List, map, Option, Some, None, Result, Ok, if◌then◌else◌, option_and_then}
use Rattle.serde_json.specs.Data.{Data, Items}
use Rattle.serde_json.specs.Find.{get, as_array}
use Rattle.room_interface.specs.Prelude.{result_ok, Global, are_rising}
use Rattle.osm_elements.specs.declared.name.Name.{Name}
use Rattle.osm_elements.specs.declared.map.Row.{Row}
use Rattle.room_wire.specs.declared.bad.Fault.{Fault}
use Rattle.room_wire.specs.declared.bad.Fault.TheVariants.{BadField, Memory}
use Rattle.room_wire.specs.declared.field.Field.{Field}
use Rattle.room_wire.specs.Fields.{field_text}
use Rattle.room_wire.specs.Reading.{◌>>=◌, or_fault}
use Rattle.room_wire.specs.Spelling.{el_at, element_at, items_in}

module _ {X : Type 0} (reading : Data → Result X Fault) (name : X → Name) where
  -- each item of the array is read as a row
  abbrev pub rows_in : Items → Option (List X)
  rows_in = items_in (λ d. result_ok (reading d))

  abbrev pub rising : List X → Option (List X)
  rising rows = if are_rising (map name rows) then Some rows else None

  -- a field is an array of rows whose names rise; a fault inside a row is the field's
  abbrev pub rows_at : Field → Data → Result (List X) Fault
  rows_at field d =
      or_fault (BadField field) (option_and_then rising (option_and_then rows_in
      (option_and_then as_array (get (field_text field) d))))

-- a fault inside a list is the list's
abbrev pub in_list : Field → Fault → Fault
in_list field Memory = Memory
in_list field _ = BadField field

-- a row is an element with its name
abbrev pub row_at : Data → Result (Row Global) Fault
row_at d = el_at d >>= λ name. element_at name.kind d >>= λ element. Ok (record { name = name; element = element })
