-- The contents of rows, and rows with new contents. (OpenStreetMap wiki, "Elements".)
use Rattle.std.specs.Prelude.{ℕ, List, [], Option, Some, None, map, if◌then◌else◌}
use Rattle.room_interface.specs.Prelude.{tags_of, Rows, is_same, Pairs}
use Rattle.osm_elements.specs.declared.name.Name.{Name}
use Rattle.osm_elements.specs.declared.element.Element.{Element}
use Rattle.osm_elements.specs.declared.element.Element.TheVariants.{Node, Way, Relation}

module _ {A : Type 0} where
  -- the tags of a row; an absent row has none
  abbrev pub row_tags : Option (Element A) → Pairs
  row_tags None = []
  row_tags (Some v) = tags_of v

  -- the nodes of a way; any other row has none
  abbrev pub nodes_of : Option (Element A) → List Name
  nodes_of None = []
  nodes_of (Some (Node lat lon tags)) = []
  nodes_of (Some (Way nodes tags)) = nodes
  nodes_of (Some (Relation members tags)) = []

  -- the members of a relation; any other row has none
  abbrev pub members_of : Option (Element A) → List (Name × List ℕ)
  members_of None = []
  members_of (Some (Node lat lon tags)) = []
  members_of (Some (Way nodes tags)) = []
  members_of (Some (Relation members tags)) = members

  abbrev pub with_tags : (Pairs → Pairs) → Element A → Element A
  with_tags f (Node lat lon tags) = Node lat lon (f tags)
  with_tags f (Way nodes tags) = Way nodes (f tags)
  with_tags f (Relation members tags) = Relation members (f tags)

  abbrev pub with_nodes : (List Name → List Name) → Element A → Element A
  with_nodes f (Node lat lon tags) = Node lat lon tags
  with_nodes f (Way nodes tags) = Way (f nodes) tags
  with_nodes f (Relation members tags) = Relation members tags

  abbrev pub with_members : (List (Name × List ℕ) → List (Name × List ℕ)) → Element A → Element A
  with_members f (Node lat lon tags) = Node lat lon tags
  with_members f (Way nodes tags) = Way nodes tags
  with_members f (Relation members tags) = Relation (f members) tags

  -- the map with every element replaced by a function of its name and itself
  abbrev pub each_row : (Name → Element A → Element A) → Rows A → Rows A
  each_row f m = map (λ r. (r.0, f r.0 r.1)) m

  -- replaces the element of x, and leaves all others
  abbrev pub at_name : Name → (Element A → Element A) → Name → Element A → Element A
  at_name x f y v = if is_same x y then f v else v
