-- The references of an element, and the users of a name, found by searching every row. (OpenStreetMap wiki, "Elements":
-- a way lists nodes, a relation has members.)
use Rattle.std.specs.Prelude.{Bool, List, [], Option, Some, None, map, filter}
use Rattle.osm_elements.specs.Maps.{Rows, is_among, names_of}
use Rattle.osm_elements.specs.declared.name.Name.{Name}
use Rattle.osm_elements.specs.declared.element.Element.{Element}
use Rattle.osm_elements.specs.declared.element.Element.TheVariants.{Node, Way, Relation}

module _ {A : Type 0} where
  -- the nodes of a way, or the names of a relation's members; a node refers to nothing
  abbrev pub references : Element A → List Name
  references (Node lat lon tags) = []
  references (Way nodes tags) = nodes
  references (Relation members tags) = map (λ m. m.0) members

  -- the references of a row; an absent row refers to nothing
  abbrev pub row_references : Option (Element A) → List Name
  row_references None = []
  row_references (Some v) = references v

  abbrev pub refers_to : Element A → Name → Bool
  refers_to v e = is_among (references v) e

  -- the names, in name order, of all rows that refer to e
  abbrev pub users : Rows A → Name → List Name
  users m e = names_of (filter (λ r. refers_to r.1 e) m)
