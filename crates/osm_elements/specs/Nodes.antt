-- The nodes of a way. (OpenStreetMap wiki, "Elements": a way is an ordered list of nodes.)
use Rattle.std.specs.Prelude.{◌≡◌, List, All}
use Rattle.osm_elements.specs.declared.name.Name.{Name}
use Rattle.osm_elements.specs.declared.name.Kind.TheVariants.{Node}

-- each name is of kind node
abbrev pub AreNodes : List Name → Type 0
AreNodes names = All (λ n. n.kind ≡ Node) names
