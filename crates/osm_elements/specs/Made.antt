-- The conditions that the type of an element keeps. (OpenStreetMap API v0.6: the ranges of coordinates; its wiki,
-- "Elements": a way lists nodes. The limits of tags and roles are this project's.)
use Rattle.std.specs.Prelude.{◌&&◌, Bool, true, false, List, is_some}
use Rattle.std.specs.List.{list_all}
use Rattle.osm_coords.specs.Latitude.{latitude}
use Rattle.osm_coords.specs.Longitude.{longitude}
use Rattle.osm_elements.specs.declared.name.Name.{Name}
use Rattle.osm_elements.specs.declared.name.Kind.{Kind}
use Rattle.osm_elements.specs.declared.name.Kind.TheVariants as kinds
use Rattle.osm_elements.specs.declared.element.Element.{Element}
use Rattle.osm_elements.specs.declared.element.Element.TheVariants.{Node, Way, Relation}
use Rattle.osm_elements.specs.Members.{are_members}
use Rattle.osm_elements.specs.TagRows.{are_tags}

-- the kind is a node's
abbrev pub is_node : Kind → Bool
is_node kinds.Node = true
is_node kinds.Way = false
is_node kinds.Relation = false

-- each name is of kind node
abbrev pub are_nodes : List Name → Bool
are_nodes names = list_all (λ n. is_node n.kind) names

-- coordinates lie in their ranges, tags keep their order and limits, a way lists nodes, and roles keep their limit
abbrev pub is_made : {A : Type 0} → Element A → Bool
is_made (Node lat lon tags) = is_some (latitude lat) && (is_some (longitude lon) && are_tags tags)
is_made (Way nodes tags) = are_nodes nodes && are_tags tags
is_made (Relation members tags) = are_members members && are_tags tags
