-- The premises under which a written element is read back as the same element (OpenStreetMap wiki, "Elements").
use Rattle.std.specs.Prelude.{All, FitsSigned, ℕ, List}
use Rattle.room_interface.specs.Prelude.{w64, IsLatitude, IsLongitude, AreMembers, AreNodes, AreTagRows}
use Rattle.osm_elements.specs.declared.name.Name.{Name}
use Rattle.osm_elements.specs.declared.element.Element.{Element}
use Rattle.osm_elements.specs.declared.element.Element.TheVariants.{Node, Way, Relation}

-- the id of a name is an i64
abbrev pub HasId : Name → Type 0
HasId name = FitsSigned w64 name.id

-- the parts of an element are as their types require
abbrev pub IsWhole : {A : Type 0} → Element A → Type 0
IsWhole (Node lat lon tags) = IsLatitude lat × IsLongitude lon × AreTagRows tags
IsWhole (Way nodes tags) = AreNodes nodes × All HasId nodes × AreTagRows tags
IsWhole (Relation members tags) = AreMembers members × All (λ (m : Name × List ℕ). HasId m.0) members × AreTagRows tags
