-- The least name of a list, found name by name.
use Rattle.std.specs.Prelude.{Option, Some, None}
use Rattle.room_interface.specs.Prelude.{ord_min, name_cmp}
use Rattle.osm_elements.specs.declared.name.Name.{Name}

-- the lesser of two names, or the second if there is no first
abbrev pub lesser_of : Option Name → Name → Name
lesser_of None x = x
lesser_of (Some other) x = ord_min name_cmp other x
