-- The order of two names that follow each other.
use Rattle.std.specs.Prelude.{Bool}
use Rattle.room_interface.specs.Prelude.{is_lt, name_cmp}
use Rattle.osm_elements.specs.declared.name.Name.{Name}

-- the first name comes before the second
abbrev pub is_before : Name → Name → Bool
is_before x y = is_lt (name_cmp x y)
